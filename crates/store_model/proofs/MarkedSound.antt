-- The end of marking leaves a sound store.
use Rattle.std.proofs.Common.{◌≡◌, ℕ, ◌+◌, ◌≤◌, ◌<◌, ◌⊎◌, Bool, true, false, IsTrue, List, [], ◌∷◌, ◌++◌, map, length, nat_eq, append-nil, Option, Some, None, refl, sym, ap, ap₂, ◌∙◌, subst, inl, inr, arith}
use Rattle.std.specs.Prelude.{not, ◌-◌, ◌/◌, ◌==◌, ◌&&◌, filter, filter_map, flat_map, option_map, option_and_then}
use Rattle.std.specs.List.{cons_option}
use Rattle.std.specs.List.Sorted.{IsPermutation}
use Rattle.std.proofs.lemmas.Bool.{cases_Bool}
use Rattle.std.proofs.lemmas.Bool.Decides.{nat_tests}
use Rattle.std.proofs.lemmas.List.{map-append}
use Rattle.std.proofs.lemmas.List.Sorted.{IsPermutation-map, IsPermutation-filter_both, list_any-IsPermutation}
use Rattle.std.proofs.lemmas.Map.Keys.{IsDistinct-IsPermutation}
use Rattle.std.proofs.lemmas.Nat.{le-div}
use Rattle.std.proofs.lemmas.Simd.{map-map}
use Rattle.std.proofs.Math.Nat.{div-mul-le_self}
use Rattle.object_model.proofs.Members.{is_in-head, is_in-tail, is_in-cases, is_in-nil, in-left, in-right, in-either, and_first, and_second, and_both, not_both, not-true}
use Rattle.object_model.specs.declared.settings.Settings.{Settings}
use Rattle.text_model.specs.declared.line.Phase.{Phase}
use Rattle.text_model.specs.declared.line.Phase.TheVariants.{Marking}
use Rattle.text_model.specs.declared.line.Fate.{Fate}
use Rattle.text_model.specs.declared.line.Fate.TheVariants as fate
use Rattle.object_model.specs.Object.{Object, words_of}
use Rattle.store_model.specs.Store.{Store, Struct, Linked, Unlinked, Pending, is_settled}
use Rattle.store_model.specs.Structs.{forced_object}
use Rattle.store_model.specs.Links.{entry_after, left_by, fate_of}
use Rattle.object_model.specs.Sets.{is_in}
use Rattle.store_model.specs.Roots.{pinned_births, is_kept, roots_of, registered_births}
use Rattle.store_model.specs.Reach.{Tells, objects_where}
use Rattle.store_model.specs.Marking.{IsMarked, IsSaved, IsChosen, is_white, is_dying, is_condemned, after_marking}
use Rattle.store_model.specs.Sound.{IsSound, IsPhaseSound, IsMarkingSound, AreCutOff, AreGone, AreLinksSound, births_in, waiting_births}
use Rattle.store_model.specs.MinorCollection.{AreAllPinned}
use Rattle.store_model.proofs.Times.{times, times_append, times_parts, once_less}
use Rattle.store_model.proofs.EndOfMarking.{stays_refers, root_stays, registered_stays, saved_stays, black_stays, doomed_gone}
use Rattle.store_model.proofs.Rounds.{LeadsTo-start}
use Rattle.store_model.proofs.After.{kept_left, refs_left, was_kept, was_referent, was_target, no_target_left, birth_where, in_births_where}

-- entries that pass a test
pub entry_part : (test : ℕ → Bool) (es : List (ℕ × ℕ)) (x : ℕ) → IsTrue (is_in x (map (λ e. e.0) (filter (λ e. test e.0) es)))
    → IsTrue (is_in x (map (λ e. e.0) es)) × (test x ≡ true)
entry_part test [] x t = absurd (is_in-nil x t)
entry_part test (e ∷ es) x t = go (entry_part test es x) (test e.0) refl t
  where
    later : IsTrue (is_in x (map (λ (f : ℕ × ℕ). f.0) es)) × (test x ≡ true) → IsTrue (is_in x (map (λ (f : ℕ × ℕ). f.0) (e ∷ es))) × (test x ≡ true)
    later more = (is_in-tail x e.0 (map (λ (f : ℕ × ℕ). f.0) es) more.0, more.1)

    go : (IsTrue (is_in x (map (λ (f : ℕ × ℕ). f.0) (filter (λ f. test f.0) es))) → IsTrue (is_in x (map (λ (f : ℕ × ℕ). f.0) es)) × (test x ≡ true)) → (b : Bool) → test e.0 ≡ b
        → IsTrue (is_in x (map (λ (f : ℕ × ℕ). f.0) (filter (λ f. test f.0) (e ∷ es)))) → IsTrue (is_in x (map (λ (f : ℕ × ℕ). f.0) (e ∷ es))) × (test x ≡ true)
    go more false b t = later (more (rw b at t))
    go more true b t = elim (is_in-cases x e.0 (map (λ (f : ℕ × ℕ). f.0) (filter (λ f. test f.0) es)) (rw b at t)) [
      | inl is ↦ (subst (λ (k : ℕ). IsTrue (is_in k (map (λ (f : ℕ × ℕ). f.0) (e ∷ es)))) (sym is) (is_in-head e.0 (map (λ (f : ℕ × ℕ). f.0) es)), ap test is ∙ b)
      | inr u ↦ later (more u)
    ]

-- numbers that entries give, of entries that change or go
module _ {X : Type 0} (f : X → Option ℕ) (g : X → Option X) (x : ℕ) where
  pub is_in-option : (o : Option ℕ) (rest : List ℕ) → IsTrue (is_in x (cons_option o rest)) → (o ≡ Some x) ⊎ IsTrue (is_in x rest)
  is_in-option None rest t = inr t
  is_in-option (Some y) rest t = elim (is_in-cases x y rest t) [ inl e ↦ inl (ap Some (sym e)) | inr u ↦ inr u ]

  pub option-is_in : (o : Option ℕ) (rest : List ℕ) → (o ≡ Some x) ⊎ IsTrue (is_in x rest) → IsTrue (is_in x (cons_option o rest))
  option-is_in None rest (inl e) = absurd (let no : ⊥ = cc in no)
  option-is_in None rest (inr t) = t
  option-is_in (Some y) rest (inl e) = let same : x ≡ y = cc in subst (λ (k : ℕ). IsTrue (is_in k (y ∷ rest))) (sym same) (is_in-head y rest)
  option-is_in (Some y) rest (inr t) = is_in-tail x y rest t

  pub given_before : ((y : X) → option_and_then f (g y) ≡ Some x → f y ≡ Some x) → (es : List X) → IsTrue (is_in x (filter_map f (filter_map g es))) → IsTrue (is_in x (filter_map f es))
  given_before from [] t = t
  given_before from (y ∷ es) t = option-is_in (f y) (filter_map f es) (go (given_before from es) (g y) (from y) t)
    where
      go : (IsTrue (is_in x (filter_map f (filter_map g es))) → IsTrue (is_in x (filter_map f es))) → (o : Option X) → (option_and_then f o ≡ Some x → f y ≡ Some x)
          → IsTrue (is_in x (filter_map f (cons_option o (filter_map g es)))) → (f y ≡ Some x) ⊎ IsTrue (is_in x (filter_map f es))
      go more None one t = inr (more t)
      go more (Some z) one t = elim (is_in-option (f z) (filter_map f (filter_map g es)) t) [ inl e ↦ inl (one e) | inr u ↦ inr (more u) ]

forced-entry : (gone : ℕ → Bool) (x : ℕ) (e : ℕ × Struct) → option_and_then (λ (e : ℕ × Struct). forced_object e.1) (entry_after gone e) ≡ Some x → forced_object e.1 ≡ Some x
forced-entry gone x (n, Linked p light b own) h = go (gone b) refl h
  where
    none : (f : Fate) → option_and_then (λ (e : ℕ × Struct). forced_object e.1) (option_map (λ (s : Struct). (n, s)) (left_by f own)) ≡ Some x → ⊥
    none fate.Unlinked e = let no : ⊥ = cc in no
    none fate.Pending e = let no : ⊥ = cc in no
    none fate.Released e = let no : ⊥ = cc in no

    go : (t : Bool) → gone b ≡ t → option_and_then (λ (e : ℕ × Struct). forced_object e.1) (entry_after gone (n, Linked p light b own)) ≡ Some x → forced_object (Linked p light b own) ≡ Some x
    go true t h = absurd (none (fate_of light own) (rw t at h))
    go false t h = rw t at h
forced-entry gone x (n, Unlinked own) h = absurd (let no : ⊥ = cc in no)
forced-entry gone x (n, Pending) h = absurd (let no : ⊥ = cc in no)

div-mono : (a b k : ℕ) → 0 < k → a ≤ b → a / k ≤ b / k
div-mono a b k l h = le-div (a / k) b k l (let m = div-mul-le_self a k in omega (arith, m, h))

module _ (settings : Settings) (store : Store) (sound : IsSound settings store) (pinned : AreAllPinned store) (marked : IsMarked store)
    (saved : ℕ → Bool) (tells : Tells saved (IsSaved store)) (chosen : ℕ → Bool) (tells_chosen : Tells chosen (IsChosen store)) (marking : store.phase ≡ Marking)
    (sweep : 0 < settings.sweep) (few : length store.kept + 1 ≤ store.next) where
  abbrev gone : ℕ → Bool
  gone = is_condemned store saved

  abbrev white : ℕ → Bool
  white = is_white store

  abbrev new : Store
  new = after_marking settings store saved chosen

  phase_is : IsPhaseSound Marking settings.sweep store
  phase_is = subst (λ (p : Phase). IsPhaseSound p settings.sweep store) marking sound.phase

  pub no_husks : store.husks ≡ []
  no_husks = phase_is.0

  pub chosen_dying : (x : ℕ) → chosen x ≡ true → IsTrue (is_dying store x)
  chosen_dying x e = ((tells_chosen x).0 e).0

  pub chosen_stays : (x : ℕ) → chosen x ≡ true → gone x ≡ false
  chosen_stays x e = saved_stays settings store sound pinned marked saved tells x (LeadsTo-start (is_dying store) _ x (chosen_dying x e))

  -- a root of the later store is one of the store, or was registered
  pub root_before : (x : ℕ) → IsTrue (is_in x (roots_of new)) → IsTrue (is_in x (roots_of store)) ⊎ (IsTrue (is_in x (registered_births store)) × (chosen x ≡ true))
  root_before x t =
      let slots : List ℕ = filter_map (λ slot. slot) store.slots in
      let queued : List ℕ = flat_map (λ (entry : ℕ × List ℕ). entry.1) store.queues in
      let waiting : List ℕ = map (λ (entry : ℕ × ℕ). entry.0) store.chosen in
      elim (in-either x slots _ t) [
        | inl a ↦ inl (in-left x slots _ a)
        | inr a ↦ elim (in-either x (pinned_births store) _ a) [
          | inl b ↦ inl (in-right x slots _ (in-left x (pinned_births store) _ b))
          | inr b ↦ elim (in-either x (map (λ (entry : ℕ × ℕ). entry.0) new.chosen) _ b) [
            | inl c ↦ elim (in-either x waiting _ (subst (λ (xs : List ℕ). IsTrue (is_in x xs)) (map-append (λ (entry : ℕ × ℕ). entry.0) store.chosen (filter (λ entry. chosen entry.0) store.registered)) c)) [
              | inl d ↦ inl (in-right x slots _ (in-right x (pinned_births store) _ (in-left x waiting _ d)))
              | inr d ↦ inr (entry_part chosen store.registered x d)
            ]
            | inr c ↦ elim (in-either x queued _ c) [
              | inl d ↦ inl (in-right x slots _ (in-right x (pinned_births store) _ (in-right x waiting _ (in-left x queued _ d))))
              | inr d ↦ inl (in-right x slots _ (in-right x (pinned_births store) _ (in-right x waiting _ (in-right x queued _
                  (given_before (λ (e : ℕ × Struct). forced_object e.1) (entry_after gone) x (forced-entry gone x) store.structs d)))))
            ]
          ]
        ]
      ]

  pub root_stays_new : (x : ℕ) → IsTrue (is_in x (roots_of new)) → (gone x ≡ false) × IsTrue (is_kept store.kept x)
  root_stays_new x t = elim (root_before x t) [
    | inl a ↦ (root_stays settings store sound pinned marked saved tells x a, sound.roots x a)
    | inr a ↦ (registered_stays settings store sound pinned marked saved tells x a.0, sound.registered x a.0)
  ]

  kept_now : (x : ℕ) → gone x ≡ false → IsTrue (is_kept store.kept x) → IsTrue (is_kept new.kept x)
  kept_now x stays k = kept_left white gone x store.kept stays ∙ k

  registered_before : (x : ℕ) → IsTrue (is_in x (registered_births new)) → IsTrue (is_in x (registered_births store))
  registered_before x t = (entry_part (λ y. not (chosen y)) store.registered x t).0

  pub settled_now : (x : ℕ) → IsTrue (is_in x store.settled) → gone x ≡ false → IsTrue (is_in x new.settled)
  settled_now x t stays = in_births_where store.kept (λ y. is_settled store.settled y && not (gone y)) x
      (and_both (is_settled store.settled x) (not (gone x)) t (ap not stays)) (sound.settled x t)

  pub settled_before : (x : ℕ) → IsTrue (is_in x new.settled) → IsTrue (is_in x store.settled) × ((gone x ≡ false) × IsTrue (is_kept store.kept x))
  settled_before x t =
      let part = birth_where store.kept (λ y. is_settled store.settled y && not (gone y)) x t in
      (and_first (is_settled store.settled x) (not (gone x)) part.0, (not-true (gone x) (and_second (is_settled store.settled x) (not (gone x)) part.0), part.1))

  pinned_stays : (x : ℕ) → IsTrue (is_in x (pinned_births store)) → gone x ≡ false
  pinned_stays x t = root_stays settings store sound pinned marked saved tells x (in-right x (filter_map (λ slot. slot) store.slots) _ (in-left x (pinned_births store) _ t))

  waiting_settled : (x : ℕ) → IsTrue (is_in x (waiting_births new)) → IsTrue (is_in x new.settled)
  waiting_settled x t =
      let queued : List ℕ = flat_map (λ (entry : ℕ × List ℕ). entry.1) store.queues in
      let waiting : List ℕ = map (λ (entry : ℕ × ℕ). entry.0) store.chosen in
      let old : IsTrue (is_in x (waiting_births store)) → IsTrue (is_in x new.settled) = λ a.
      settled_now x (sound.waiting x a) (root_stays settings store sound pinned marked saved tells x
      (in-right x (filter_map (λ slot. slot) store.slots) _ (in-right x (pinned_births store) _ (elim (in-either x waiting _ a) [
        | inl b ↦ in-left x waiting _ b
        | inr b ↦ in-right x waiting _ (in-left x queued _ b)
      ])))) in
      elim (in-either x (map (λ (entry : ℕ × ℕ). entry.0) new.chosen) _ t) [
        | inl c ↦ elim (in-either x waiting _ (subst (λ (xs : List ℕ). IsTrue (is_in x xs)) (map-append (λ (entry : ℕ × ℕ). entry.0) store.chosen (filter (λ entry. chosen entry.0) store.registered)) c)) [
          | inl d ↦ old (in-left x waiting _ d)
          | inr d ↦ let part = entry_part chosen store.registered x d in
              let dying = chosen_dying x part.1 in
              settled_now x (and_first (is_settled store.settled x) (not (is_in x store.visited)) (and_second _ (is_white store x) dying)) (chosen_stays x part.1)
        ]
        | inr c ↦ old (in-right x waiting _ c)
      ]

  -- the births afterwards are those of before in another order
  births_same : IsPermutation (births_in store) (births_in new)
  births_same =
      let birth : Object → ℕ = λ o. o.birth in
      let stay : List Object = objects_where store.kept (λ x. not (gone x)) in
      let lost : List Object = objects_where store.kept gone in
      let before : births_in store ≡ map birth store.kept =
      ap (λ (hs : List (ℕ × ℕ)). map birth store.kept ++ map (λ (h : ℕ × ℕ). h.0) hs) no_husks ∙ append-nil (map birth store.kept) in
      let after : births_in new ≡ map birth stay ++ map birth lost =
      ap₂ (λ (xs ys : List ℕ). xs ++ ys) (map-map birth _ stay)
      (ap (λ (hs : List (ℕ × ℕ)). map (λ (h : ℕ × ℕ). h.0) (hs ++ map (λ o. (o.birth, words_of o)) lost)) no_husks
      ∙ map-map (λ (h : ℕ × ℕ). h.0) (λ (o : Object). (o.birth, words_of o)) lost) in
      let both : IsPermutation store.kept (stay ++ lost) = IsPermutation-filter_both (λ (o : Object). not (gone o.birth)) (λ (o : Object). gone o.birth) (λ o. sym (twice (gone o.birth))) store.kept in
      let moved : IsPermutation (map birth store.kept) (map birth stay ++ map birth lost) =
      subst (λ (zs : List ℕ). IsPermutation (map birth store.kept) zs) (map-append birth stay lost) (IsPermutation-map birth store.kept (stay ++ lost) both) in
      subst (λ (zs : List ℕ). IsPermutation (births_in store) zs) (sym after) (subst (λ (zs : List ℕ). IsPermutation zs (map birth stay ++ map birth lost)) (sym before) moved)
    where
      twice : (b : Bool) → not (not b) ≡ b
      twice true = refl
      twice false = refl

  in_births : (x : ℕ) → is_in x (births_in store) ≡ is_in x (births_in new)
  in_births x = list_any-IsPermutation (λ y. y == x) (births_in store) (births_in new) births_same

  cut_after : (dead : List ℕ) → AreCutOff store.kept dead → AreCutOff new.kept dead
  cut_after dead cut x k f y t =
      let was = was_referent white gone x y store.kept t in
      cut x (was_kept white gone x store.kept k).0 f y was.1

  doomed_none : AreGone new.kept store.doomed
  doomed_none x doomed = elim (cases_Bool (is_kept new.kept x)) [
    | inl k ↦ absurd (
        let was = was_kept white gone x store.kept k in
        let m : IsMarkingSound store.settled store.visited store.unreached store.doomed = phase_is.2 in
        let g : gone x ≡ true = doomed_gone settings store sound pinned marked saved tells x m.visited_reached m.doomed_unreached was.0 doomed in
        let no : ⊥ = cc in no)
    | inr n ↦ n
  ]

  pub end_sound : AreLinksSound new.kept new.structs new.dead → IsSound settings new
  end_sound links = record {
    fields = record {
      references = λ x y t. let was = was_referent white gone x y store.kept t in
          kept_now y (stays_refers settings store sound pinned marked saved tells x y was.0 was.1) (sound.fields.references x y was.1);
      targets = λ x t e. let was = was_target white gone x t store.kept e in
          kept_now t (black_stays settings store sound pinned marked saved tells t was.1) (sound.fields.targets x t was.0);
    };
    settled = λ x t. let was = settled_before x t in kept_now x was.1.0 was.1.1;
    roots = λ x t. let was = root_stays_new x t in kept_now x was.0 was.1;
    registered = λ x t. let was = registered_before x t in kept_now x (registered_stays settings store sound pinned marked saved tells x was) (sound.registered x was);
    pins = record {
      differ = sound.pins.differ;
      few = sound.pins.few;
      counted = sound.pins.counted;
      unsettled = λ x t. elim (cases_Bool (is_in x new.settled)) [
        | inl s ↦ absurd (not_both (is_in x store.settled) (settled_before x s).0 (sound.pins.unsettled x t))
        | inr u ↦ u
      ];
      no_references = λ x t. refs_left white gone x store.kept (pinned_stays x t) ∙ sound.pins.no_references x t;
      no_target = λ x t. no_target_left white gone x store.kept (pinned_stays x t) (sound.pins.no_target x t);
    };
    waiting = waiting_settled;
    queues_rise = sound.queues_rise;
    once = once_less (registered_births store) (map (λ (e : ℕ × ℕ). e.0) store.chosen) (flat_map (λ (e : ℕ × List ℕ). e.1) store.queues)
        (registered_births new) (map (λ (e : ℕ × ℕ). e.0) new.chosen) (flat_map (λ (e : ℕ × List ℕ). e.1) new.queues) sound.once (λ x.
        let found : List (ℕ × ℕ) = filter (λ e. chosen e.0) store.registered in
        let parts = times_parts x chosen store.registered in
        let joined : times x (map (λ (e : ℕ × ℕ). e.0) (store.chosen ++ found)) ≡ times x (map (λ (e : ℕ × ℕ). e.0) store.chosen) + times x (map (λ (e : ℕ × ℕ). e.0) found) =
        ap (times x) (map-append (λ (e : ℕ × ℕ). e.0) store.chosen found) ∙ times_append x (map (λ (e : ℕ × ℕ). e.0) store.chosen) (map (λ (e : ℕ × ℕ). e.0) found) in
        omega (arith, parts, joined));
    roots_reached = λ x t. refl;
    unreached_cut_off = λ x k f y t. refl;
    unreached_born = λ x t. absurd (is_in-nil x t);
    roots_retained = λ x t. elim (root_before x t) [ inl a ↦ sound.roots_retained x a | inr a ↦ sound.registered_retained x a.0 ];
    registered_retained = λ x t. sound.registered_retained x (registered_before x t);
    doomed_cut_off = cut_after store.doomed sound.doomed_cut_off;
    doomed_born = sound.doomed_born;
    phase = (
      let none : length store.husks ≡ 0 = ap (length {A = ℕ × ℕ}) no_husks in
          let less = div-mono (length store.kept + length store.husks) (store.next - 1) settings.sweep sweep (omega (arith, none, few)) in omega (arith, less),
      doomed_none,
      record { no_visited = refl; no_unreached = refl },
    );
    links = links;
    births = record {
      next_above = sound.births.next_above;
      homes_rise = sound.births.homes_rise;
      born = λ x t. sound.births.born x (in_births x ∙ t);
      differ = IsDistinct-IsPermutation nat_eq (λ x y. grind (arith, nat_tests)) (births_in store) (births_in new) births_same sound.births.differ;
      homes_differ = sound.births.homes_differ;
      housed = λ x at t. sym (in_births x) ∙ sound.births.housed x at t;
    };
  }
