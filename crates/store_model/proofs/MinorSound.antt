-- A minor collection leaves a sound store.
use Rattle.std.proofs.Common.{◌≡◌, ℕ, Bool, true, false, IsTrue, List, [], ◌∷◌, ◌++◌, map, nat_eq, Option, Some, None, refl, sym, ap, ◌∙◌, subst, inl, inr}
use Rattle.std.specs.Prelude.{not, ◌&&◌, ◌||◌, IsFalse, filter, filter_map, flat_map, option_map}
use Rattle.std.specs.List.{IsDistinct, AllByRecursion, cons_option}
use Rattle.std.proofs.lemmas.Bool.{cases_Bool}
use Rattle.type_table.specs.Table.{Table}
use Rattle.type_table.proofs.TableLaws.{KeysRise-entries_where}
use Rattle.object_model.proofs.Members.{is_in-head, is_in-tail, is_in-cases, is_in-nil, and_both, and_first, and_second, in-either, in-left, in-right, false-in, not-in}
use Rattle.text_model.specs.declared.line.Fate.{Fate}
use Rattle.text_model.specs.declared.line.Fate.TheVariants as fate
use Rattle.text_model.specs.declared.line.Phase.{Phase}
use Rattle.text_model.specs.declared.line.Phase.TheVariants.{Scanning, Marking, Sweeping, Finalizing}
use Rattle.object_model.specs.declared.settings.Settings.{Settings}
use Rattle.object_model.specs.Object.{Object, object_at}
use Rattle.store_model.specs.Store.{Store, Struct, Linked, Unlinked, Pending}
use Rattle.store_model.specs.Structs.{forced_object, forced_objects}
use Rattle.store_model.specs.Links.{entry_after, left_by, fate_of}
use Rattle.object_model.specs.Sets.{is_in}
use Rattle.store_model.specs.Roots.{is_kept, pinned_births, roots_of, referents_in, target_in}
use Rattle.store_model.specs.Reach.{Tells}
use Rattle.store_model.specs.MinorCollection.{Survives, vanishes, settles, after_minor, clear_target, left_target, AreAllPinned}
use Rattle.store_model.specs.Sound.{IsSound, IsPhaseSound, AreCutOff, AreGone, AreLinksSound}
use Rattle.store_model.proofs.Homes.{found_where}
use Rattle.store_model.proofs.StoreAfter.{left_objects, is_kept_left, refs_left, refs_gone, referents_left, referents_gone, target_left, target_gone}
use Rattle.store_model.proofs.CutSound.{cut_sound}
use Rattle.store_model.proofs.Survives.{root_stays, registered_stays, referent_stays, in_where, where_in}

-- parts of lists that differ
all-part : {X : Type 0} → (P : ℕ → Type 0) (f : X → ℕ) (test : X → Bool) (xs : List X) (ys : List ℕ) → AllByRecursion P (map f xs ++ ys) → AllByRecursion P (map f (filter test xs) ++ ys)
all-part P f test [] ys all = all
all-part P f test (x ∷ xs) ys all =
    let more = all-part P f test xs ys all.1 in
    elim (cases_Bool (test x)) [ inl t ↦ rw t (all.0, more) | inr e ↦ rw e more ]

distinct-part : {X : Type 0} → (f : X → ℕ) (test : X → Bool) (xs : List X) (ys : List ℕ) → IsDistinct nat_eq (map f xs ++ ys) → IsDistinct nat_eq (map f (filter test xs) ++ ys)
unfolding IsDistinct
distinct-part f test [] ys d = d
distinct-part f test (x ∷ xs) ys d =
    let more = distinct-part f test xs ys d.1 in
    elim (cases_Bool (test x)) [ inl t ↦ rw t (all-part (λ y. nat_eq (f x) y ≡ false) f test xs ys d.0, more) | inr e ↦ rw e more ]

-- what an entry forces, if it is there
abbrev go-forced : Option (ℕ × Struct) → List ℕ → List ℕ
go-forced None rest = rest
go-forced (Some e) rest = cons_option (forced_object e.1) rest

-- what is forced after links were cut was so before
forced-cut : (gone : ℕ → Bool) (e : ℕ × Struct) (rest before : List ℕ) (x : ℕ)
    → (IsTrue (is_in x rest) → IsTrue (is_in x before))
    → IsTrue (is_in x (go-forced (entry_after gone e) rest)) → IsTrue (is_in x (cons_option (forced_object e.1) before))
forced-cut gone (n, Linked p light object own) rest before x more t = elim (cases_Bool (gone object)) [
  | inl g ↦ cut-in p (fate_of light own) (rw g at t)
  | inr k ↦ same-in (forced_object (Linked p light object own)) (rw k at t)
]
  where
    same-in : (o : Option ℕ) → IsTrue (is_in x (cons_option o rest)) → IsTrue (is_in x (cons_option o before))
    same-in None u = more u
    same-in (Some y) u = elim (is_in-cases x y rest u) [
      | inl e ↦ let P : ℕ → Type 0 = λ k. IsTrue (is_in k (y ∷ before)) in subst P (sym e) (is_in-head y before)
      | inr v ↦ is_in-tail x y before (more v)
    ]

    later : (o : Option ℕ) → IsTrue (is_in x before) → IsTrue (is_in x (cons_option o before))
    later None u = u
    later (Some y) u = is_in-tail x y before u

    cut-in : (q : Bool) (f : Fate) → IsTrue (is_in x (go-forced (option_map (λ (s : Struct). (n, s)) (left_by f own)) rest)) → IsTrue (is_in x (cons_option (forced_object (Linked q light object own)) before))
    cut-in q fate.Unlinked u = later (forced_object (Linked q light object own)) (more u)
    cut-in q fate.Pending u = later (forced_object (Linked q light object own)) (more u)
    cut-in q fate.Released u = later (forced_object (Linked q light object own)) (more u)
forced-cut gone (n, Unlinked own) rest before x more t = more t
forced-cut gone (n, Pending) rest before x more t = more t

forced-after : (gone : ℕ → Bool) (structs : Table Struct) (x : ℕ) → IsTrue (is_in x (forced_objects (filter_map (entry_after gone) structs))) → IsTrue (is_in x (forced_objects structs))
forced-after gone [] x t = t
forced-after gone (e ∷ es) x t = forced-cut gone e (forced_objects (filter_map (entry_after gone) es)) (forced_objects es) x (forced-after gone es x)
    (subst (λ (l : List ℕ). IsTrue (is_in x l)) (taken (entry_after gone e)) t)
  where
    taken : (o : Option (ℕ × Struct)) → forced_objects (cons_option o (filter_map (entry_after gone) es)) ≡ go-forced o (forced_objects (filter_map (entry_after gone) es))
    taken None = refl
    taken (Some k) = refl

births-left : (kept : List Object) (passes gone : ℕ → Bool) → map (λ (o : Object). o.birth) (left_objects kept passes gone) ≡ map (λ (o : Object). o.birth) (filter (λ (o : Object). passes o.birth) kept)
births-left kept passes gone = go (filter (λ (o : Object). passes o.birth) kept)
  where
    go : (os : List Object) → map (λ (o : Object). o.birth) (map (clear_target gone) os) ≡ map (λ (o : Object). o.birth) os
    go [] = refl
    go (o ∷ os) = ap (λ (bs : List ℕ). o.birth ∷ bs) (go os)

left-some : (gone : ℕ → Bool) (target : Option ℕ) (t : ℕ) → left_target gone target ≡ Some t → (target ≡ Some t) × (gone t ≡ false)
left-some gone None t e = absurd (let no : ⊥ = cc in no)
left-some gone (Some u) t e = elim (cases_Bool (gone u)) [
  | inl g ↦ absurd (let bad : None ≡ Some t = (let f : left_target gone (Some u) ≡ None = rw g refl in sym f) ∙ e in let no : ⊥ = cc in no)
  | inr k ↦ let same : Some u ≡ Some t = (let f : left_target gone (Some u) ≡ Some u = rw k refl in sym f) ∙ e in
      (same, subst (λ (z : ℕ). gone z ≡ false) (let inj : u ≡ t = cc in inj) k)
]

left-none : (gone : ℕ → Bool) (target : Option ℕ) → target ≡ None → left_target gone target ≡ None
left-none gone None e = refl
left-none gone (Some u) e = absurd (let no : ⊥ = cc in no)

pinned-unsettled : (settled survives pinned : Bool) → IsFalse settled → IsTrue pinned → IsTrue (settled || (not settled && (survives && not pinned))) → ⊥
pinned-unsettled true survives pinned f t u = let no : ⊥ = cc in no
pinned-unsettled false true true f t u = let no : ⊥ = cc in no
pinned-unsettled false true false f t u = let no : ⊥ = cc in no
pinned-unsettled false false pinned f t u = let no : ⊥ = cc in no

settle-stays : (kept settled survives pinned : Bool) → IsTrue (settled || (not settled && (survives && not pinned))) → IsTrue (not ((kept && not settled) && not survives))
settle-stays true true survives pinned t = refl
settle-stays true false true pinned t = refl
settle-stays true false false pinned t = absurd (let no : ⊥ = cc in no)
settle-stays false settled survives pinned t = refl

module _ (settings : Settings) (store : Store) (survives : ℕ → Bool) (tells : Tells survives (Survives store)) (s : IsSound settings store) where
  abbrev later : Store
  later = after_minor store survives

  abbrev passes : ℕ → Bool
  passes x = not (vanishes store survives x)

  kept-later : (x : ℕ) → IsTrue (passes x) → IsTrue (is_kept store.kept x) → IsTrue (is_kept (after_minor store survives).kept x)
  kept-later x p k = is_kept_left store.kept (λ y. not (vanishes store survives y)) (vanishes store survives) x ∙ and_both (passes x) (is_kept store.kept x) p k

  kept-before : (x : ℕ) → IsTrue (is_kept (after_minor store survives).kept x) → IsTrue (passes x) × IsTrue (is_kept store.kept x)
  kept-before x k =
      let both : IsTrue (passes x && is_kept store.kept x) = sym (is_kept_left store.kept (λ y. not (vanishes store survives y)) (vanishes store survives) x) ∙ k in
      (and_first (passes x) (is_kept store.kept x) both, and_second (passes x) (is_kept store.kept x) both)

  referent-before : (x y : ℕ) → IsTrue (is_in y (referents_in (object_at (after_minor store survives).kept x))) → IsTrue (passes x) × IsTrue (is_in y (referents_in (object_at store.kept x)))
  referent-before x y t = elim (cases_Bool (passes x)) [
    | inl p ↦ (p, subst (λ (l : List ℕ). IsTrue (is_in y l)) (referents_left store.kept (λ z. not (vanishes store survives z)) (vanishes store survives) x p) t)
    | inr f ↦ absurd (is_in-nil y (subst (λ (l : List ℕ). IsTrue (is_in y l)) (referents_gone store.kept (λ z. not (vanishes store survives z)) (vanishes store survives) x f) t))
  ]

  root-before : (x : ℕ) → IsTrue (is_in x (roots_of (after_minor store survives))) → IsTrue (is_in x (roots_of store))
  root-before x t = swap (filter_map (λ (slot : Option ℕ). slot) store.slots) _ _ (λ u. swap (pinned_births store) _ _ (λ v. swap (map (λ (e : ℕ × ℕ). e.0) store.chosen) _ _
      (λ k. swap (flat_map (λ (e : ℕ × List ℕ). e.1) store.queues) _ _ (λ z. forced-after (vanishes store survives) store.structs x z) k) v) u) t
    where
      swap : (fs bs cs : List ℕ) → (IsTrue (is_in x bs) → IsTrue (is_in x cs)) → IsTrue (is_in x (fs ++ bs)) → IsTrue (is_in x (fs ++ cs))
      swap fs bs cs more u = elim (in-either x fs bs u) [ inl a ↦ in-left x fs cs a | inr b ↦ in-right x fs cs (more b) ]

  cut-later : (dead : List ℕ) → AreCutOff store.kept dead → AreCutOff (after_minor store survives).kept dead
  cut-later dead cut x k f y t = cut x (kept-before x k).1 f y (referent-before x y t).1

  gone-later : (dead : List ℕ) → AreGone store.kept dead → AreGone (after_minor store survives).kept dead
  gone-later dead gone x t = elim (cases_Bool (is_kept (after_minor store survives).kept x)) [
    | inl k ↦ absurd (let was = (kept-before x k).1 in let f = gone x t in let no : ⊥ = cc in no)
    | inr f ↦ f
  ]

  settled-later : (x : ℕ) → IsTrue (is_in x store.settled) → IsTrue (is_in x (after_minor store survives).settled)
  settled-later x t = where_in store.kept (λ y. is_in y store.settled || settles store survives y) x (s.settled x t) (rw t refl)

  settled-before : (x : ℕ) → IsTrue (is_in x (after_minor store survives).settled) → IsTrue (is_kept store.kept x) × IsTrue (is_in x store.settled || settles store survives x)
  settled-before x t = in_where store.kept (λ y. is_in y store.settled || settles store survives y) x t

  phase-later : (phase : Phase) (sweep : ℕ) → IsPhaseSound phase sweep store → IsPhaseSound phase sweep (after_minor store survives)
  phase-later Scanning sweep h = h
  phase-later Marking sweep h = (h.0, h.1, record { visited_settled = λ x t. settled-later x (h.2.visited_settled x t); visited_reached = h.2.visited_reached; doomed_unreached = h.2.doomed_unreached })
  phase-later Sweeping sweep h = (h.0, gone-later store.doomed h.1, h.2)
  phase-later Finalizing sweep h = (h.0, gone-later store.doomed h.1, h.2)

  -- all but the links, of which the crate of links knows it
  pub minor_sound : AreLinksSound (after_minor store survives).kept (after_minor store survives).structs (after_minor store survives).dead → IsSound settings (after_minor store survives)
  minor_sound links = record {
    fields = record {
      references = λ x y t. let was = referent-before x y t in let k = s.fields.references x y was.1 in
          kept-later y (referent_stays store survives tells x y k was.0 was.1) k;
      targets = λ x t e. elim (cases_Bool (passes x)) [
        | inl p ↦
            let left = left-some (vanishes store survives) (target_in (object_at store.kept x)) t
            (sym (target_left store.kept (λ z. not (vanishes store survives z)) (vanishes store survives) x p) ∙ e) in
            kept-later t (ap not left.1) (s.fields.targets x t left.0)
        | inr f ↦ absurd (let bad : None ≡ Some t = sym (target_gone store.kept (λ z. not (vanishes store survives z)) (vanishes store survives) x f) ∙ e in let no : ⊥ = cc in no)
      ];
    };
    settled = λ x t. let was = settled-before x t in kept-later x (settle-stays (is_kept store.kept x) (is_in x store.settled) (survives x) (is_in x (pinned_births store)) was.1) was.0;
    roots = λ x t. let was = root-before x t in let k = s.roots x was in kept-later x (root_stays store survives tells x k was) k;
    registered = λ x t. let k = s.registered x t in kept-later x (registered_stays store survives tells x k t) k;
    pins = record {
      differ = s.pins.differ;
      few = s.pins.few;
      counted = s.pins.counted;
      unsettled = λ x t. false-in x (after_minor store survives).settled
          (λ u. pinned-unsettled (is_in x store.settled) (survives x) (is_in x (pinned_births store)) (s.pins.unsettled x t) t (settled-before x u).1);
      no_references = λ x t. elim (cases_Bool (passes x)) [
        | inl p ↦ refs_left store.kept (λ z. not (vanishes store survives z)) (vanishes store survives) x p ∙ s.pins.no_references x t
        | inr f ↦ refs_gone store.kept (λ z. not (vanishes store survives z)) (vanishes store survives) x f
      ];
      no_target = λ x t. elim (cases_Bool (passes x)) [
        | inl p ↦ target_left store.kept (λ z. not (vanishes store survives z)) (vanishes store survives) x p
            ∙ left-none (vanishes store survives) (target_in (object_at store.kept x)) (s.pins.no_target x t)
        | inr f ↦ target_gone store.kept (λ z. not (vanishes store survives z)) (vanishes store survives) x f
      ];
    };
    queues_rise = s.queues_rise;
    once = s.once;
    waiting = λ x t. settled-later x (s.waiting x t);
    roots_reached = λ x t. s.roots_reached x (root-before x t);
    unreached_cut_off = cut-later store.unreached s.unreached_cut_off;
    unreached_born = s.unreached_born;
    roots_retained = λ x t. s.roots_retained x (root-before x t);
    registered_retained = s.registered_retained;
    doomed_cut_off = cut-later store.doomed s.doomed_cut_off;
    doomed_born = s.doomed_born;
    phase = phase-later store.phase settings.sweep s.phase;
    links = links;
    births = record {
      next_above = s.births.next_above;
      homes_rise = KeysRise-entries_where (λ z. not (vanishes store survives z)) store.homes s.births.homes_rise;
      born = λ x t. s.births.born x (births-before x t);
      differ = subst (λ (bs : List ℕ). IsDistinct nat_eq (bs ++ map (λ (husk : ℕ × ℕ). husk.0) store.husks))
          (sym (births-left store.kept (λ z. not (vanishes store survives z)) (vanishes store survives)))
          (distinct-part (λ (o : Object). o.birth) (λ (o : Object). not (vanishes store survives o.birth)) store.kept (map (λ (husk : ℕ × ℕ). husk.0) store.husks) s.births.differ);
      homes_differ = λ x y place e f. s.births.homes_differ x y place (found_where (λ z. not (vanishes store survives z)) store.homes x place e).0 (found_where (λ z. not (vanishes store survives z)) store.homes y place f).0;
      housed = λ x place e. let was = found_where (λ z. not (vanishes store survives z)) store.homes x place e in elim (in-either x (map (λ (o : Object). o.birth) store.kept) (map (λ (husk : ℕ × ℕ). husk.0) store.husks) (s.births.housed x place was.0)) [
        | inl k ↦ in-left x (map (λ (o : Object). o.birth) (after_minor store survives).kept) (map (λ (husk : ℕ × ℕ). husk.0) store.husks) (birth-stays x was.1 k)
        | inr h ↦ in-right x (map (λ (o : Object). o.birth) (after_minor store survives).kept) (map (λ (husk : ℕ × ℕ). husk.0) store.husks) h
      ];
    };
  }
    where
      in-births : (os : List Object) (x : ℕ) → IsTrue (is_in x (map (λ (o : Object). o.birth) (filter (λ (o : Object). passes o.birth) os))) → IsTrue (is_in x (map (λ (o : Object). o.birth) os))
      in-births [] x t = t
      in-births (o ∷ os) x t = elim (cases_Bool (passes o.birth)) [
        | inl p ↦ elim (is_in-cases x o.birth (map (λ (k : Object). k.birth) (filter (λ (k : Object). passes k.birth) os)) (rw p at t)) [
          | inl is ↦ let P : ℕ → Type 0 = λ k. IsTrue (is_in k (o.birth ∷ map (λ (k : Object). k.birth) os)) in subst P (sym is) (is_in-head o.birth (map (λ (k : Object). k.birth) os))
          | inr u ↦ is_in-tail x o.birth (map (λ (k : Object). k.birth) os) (in-births os x u)
        ]
        | inr p ↦ is_in-tail x o.birth (map (λ (k : Object). k.birth) os) (in-births os x (rw p at t))
      ]

      births-before : (x : ℕ) → IsTrue (is_in x (map (λ (o : Object). o.birth) (after_minor store survives).kept ++ map (λ (husk : ℕ × ℕ). husk.0) store.husks))
          → IsTrue (is_in x (map (λ (o : Object). o.birth) store.kept ++ map (λ (husk : ℕ × ℕ). husk.0) store.husks))
      births-before x t = elim (in-either x (map (λ (o : Object). o.birth) (after_minor store survives).kept) (map (λ (husk : ℕ × ℕ). husk.0) store.husks) t) [
        | inl k ↦ in-left x (map (λ (o : Object). o.birth) store.kept) (map (λ (husk : ℕ × ℕ). husk.0) store.husks)
            (in-births store.kept x (subst (λ (l : List ℕ). IsTrue (is_in x l)) (births-left store.kept (λ z. not (vanishes store survives z)) (vanishes store survives)) k))
        | inr h ↦ in-right x (map (λ (o : Object). o.birth) store.kept) (map (λ (husk : ℕ × ℕ). husk.0) store.husks) h
      ]

      birth-in : (os : List Object) (x : ℕ) → IsTrue (passes x) → IsTrue (is_in x (map (λ (o : Object). o.birth) os)) → IsTrue (is_in x (map (λ (o : Object). o.birth) (filter (λ (o : Object). passes o.birth) os)))
      birth-in [] x p t = t
      birth-in (o ∷ os) x p t = elim (is_in-cases x o.birth (map (λ (k : Object). k.birth) os) t) [
        | inl is ↦ let here : passes o.birth ≡ true = subst (λ (k : ℕ). IsTrue (passes k)) is p in
            rw here (let P : ℕ → Type 0 = λ k. IsTrue (is_in k (o.birth ∷ map (λ (k : Object). k.birth) (filter (λ (k : Object). passes k.birth) os))) in
            subst P (sym is) (is_in-head o.birth (map (λ (k : Object). k.birth) (filter (λ (k : Object). passes k.birth) os))))
        | inr u ↦ let more = birth-in os x p u in elim (cases_Bool (passes o.birth)) [
          | inl q ↦ rw q (is_in-tail x o.birth (map (λ (k : Object). k.birth) (filter (λ (k : Object). passes k.birth) os)) more)
          | inr q ↦ rw q more
        ]
      ]

      birth-stays : (x : ℕ) → IsTrue (passes x) → IsTrue (is_in x (map (λ (o : Object). o.birth) store.kept)) → IsTrue (is_in x (map (λ (o : Object). o.birth) (after_minor store survives).kept))
      birth-stays x p t = subst (λ (l : List ℕ). IsTrue (is_in x l)) (sym (births-left store.kept (λ z. not (vanishes store survives z)) (vanishes store survives))) (birth-in store.kept x p t)

-- and the links stay sound
pub minor_links_sound : (store : Store) (survives : ℕ → Bool) → AreLinksSound store.kept store.structs store.dead
    → AreLinksSound (after_minor store survives).kept (after_minor store survives).structs (after_minor store survives).dead
minor_links_sound store survives l = cut_sound (vanishes store survives) store.kept (after_minor store survives).kept store.structs store.dead
    (λ x stays k. is_kept_left store.kept (λ y. not (vanishes store survives y)) (vanishes store survives) x
    ∙ and_both (not (vanishes store survives x)) (is_kept store.kept x) (ap not stays) k) l

settles-or : (kept settled survives pinned : Bool) → IsTrue kept → IsTrue (not ((kept && not settled) && not survives)) → pinned ≡ false → IsTrue (settled || (not settled && (survives && not pinned)))
settles-or true true survives pinned k t e = refl
settles-or true false true pinned k t e = rw e refl
settles-or true false false pinned k t e = absurd (let no : ⊥ = cc in no)
settles-or false settled survives pinned k t e = absurd (let no : ⊥ = cc in no)

pub all_pinned : (store : Store) (survives : ℕ → Bool) → AreAllPinned (after_minor store survives)
all_pinned store survives x k f = elim (cases_Bool (is_in x (pinned_births store))) [
  | inl t ↦ t
  | inr e ↦
      let both : IsTrue (not (vanishes store survives x) && is_kept store.kept x) = sym (is_kept_left store.kept (λ y. not (vanishes store survives y)) (vanishes store survives) x) ∙ k in
      let stays = and_first (not (vanishes store survives x)) (is_kept store.kept x) both in
      let there = and_second (not (vanishes store survives x)) (is_kept store.kept x) both in
      absurd (not-in x (after_minor store survives).settled f (where_in store.kept (λ y. is_in y store.settled || settles store survives y) x
      there (settles-or (is_kept store.kept x) (is_in x store.settled) (survives x) (is_in x (pinned_births store)) there stays e)))
]
