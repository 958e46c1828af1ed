-- A store stays sound, and marking in order, where an object is born.
use Rattle.std.proofs.Common.{◌≡◌, ◌≢◌, ℕ, zero, suc, ◌+◌, ◌-◌, ◌*◌, ◌/◌, ◌≤◌, ◌⊎◌, Bool, true, false, IsTrue, nat_eq, List, [], ◌∷◌, ◌++◌, map, Option, Some, None, refl, sym, ap, ◌∙◌, subst, inl, inr, arith}
use Rattle.std.specs.Prelude.{IsFalse, is_some, filter_map, replicate, slice_get, ◌==◌}
use Rattle.std.specs.List.{IsDistinct, AllByRecursion}
use Rattle.std.proofs.lemmas.Bool.{cases_Bool, ne_eqb, eq-eqb, cases_lt}
use Rattle.std.proofs.lemmas.Nat.{le-div}
use Rattle.std.proofs.Math.Nat.{div-mul-le_self}
use Rattle.std.proofs.lemmas.List.{map-append, append_assoc}
use Rattle.std.proofs.lemmas.Bool.Decides.{eqb_tells}
use Rattle.object_model.proofs.Members.{is_in-head, is_in-tail, is_in-cases, is_in-nil, is_in-before, is_in-append, in-left, in-right, in-either}
use Rattle.type_table.specs.declared.info.Shape.{Shape}
use Rattle.type_table.specs.declared.info.Shape.TheVariants.{Fixed, IntArray, RefArray, Weak}
use Rattle.type_table.specs.declared.info.TypeInfo.{TypeInfo}
use Rattle.text_model.specs.declared.line.Phase.{Phase}
use Rattle.text_model.specs.declared.line.Phase.TheVariants.{Scanning, Marking, Sweeping, Finalizing}
use Rattle.object_model.specs.declared.settings.Settings.{Settings}
use Rattle.object_model.specs.Object.{Object, new_refs, object_at}
use Rattle.store_model.specs.Store.{Store}
use Rattle.object_model.specs.Sets.{is_in}
use Rattle.object_model.specs.Fields.{refs_of}
use Rattle.object_model.specs.Newborn.{Request, newborn}
use Rattle.store_model.specs.Birth.{with_birth, settled_with}
use Rattle.store_model.specs.Roots.{is_kept, roots_of, referents_in, target_in, pinned_births}
use Rattle.store_model.specs.Sound.{IsSound, IsPhaseSound, AreCutOff, AreGone, AreBefore, births_in}
use Rattle.store_model.proofs.RootLaws.{roots_each, are_roots, set-in}
use Rattle.store_model.proofs.OrderLaws.{PlainChange}

-- a new object refers to nothing
nothing-none : (n : ℕ) → filter_map (λ (r : Option ℕ). r) (replicate n None) ≡ []
nothing-none zero = refl
nothing-none (suc n) = nothing-none n

new-refers : (s : Shape) (n : ℕ) → filter_map (λ (r : Option ℕ). r) (new_refs s n) ≡ []
new-refers (Fixed a b) n = nothing-none b
new-refers IntArray n = refl
new-refers RefArray n = nothing-none n
new-refers Weak n = refl

no-item : (n i y : ℕ) → slice_get (replicate {A = Option ℕ} n None) i ≡ Some (Some y) → ⊥
no-item zero i y e = let no : ⊥ = cc in no
no-item (suc n) zero y e = let no : ⊥ = cc in no
no-item (suc n) (suc i) y e = no-item n i y e

new-item : (s : Shape) (n i y : ℕ) → slice_get (new_refs s n) i ≡ Some (Some y) → ⊥
new-item (Fixed a b) n i y e = no-item b i y e
new-item IntArray n i y e = let no : ⊥ = cc in no
new-item RefArray n i y e = no-item n i y e
new-item Weak n i y e = let no : ⊥ = cc in no

-- what is found where there is one more object
find-more : (os : List Object) (o : Object) (x : ℕ) → x ≢ o.birth → object_at (os ++ o ∷ []) x ≡ object_at os x
find-more [] o x ne = rw (ne_eqb x o.birth ne) refl
find-more (u ∷ os) o x ne = elim (cases_Bool (x == u.birth)) [
  | inl e ↦ rw e refl
  | inr e ↦ rw e (find-more os o x ne)
]

find-last : (os : List Object) (o : Object) → is_kept os o.birth ≡ false → object_at (os ++ o ∷ []) o.birth ≡ Some o
find-last [] o none = rw (eq-eqb o.birth o.birth refl) refl
find-last (u ∷ os) o none = elim (cases_Bool (o.birth == u.birth)) [
  | inl e ↦ absurd (let yes : is_kept (u ∷ os) o.birth ≡ true = rw e refl in let no : ⊥ = cc in no)
  | inr e ↦ rw e (find-last os o (rw e at none))
]

pub kept-in : (os : List Object) (x : ℕ) → IsTrue (is_kept os x) → IsTrue (is_in x (map (λ o. o.birth) os))
kept-in [] x t = t
kept-in (u ∷ os) x t = elim (eqb_tells x u.birth) [
  | inl e ↦ let P : ℕ → Type 0 = λ k. IsTrue (is_in k (u.birth ∷ map (λ (o : Object). o.birth) os)) in subst P (sym e.1) (is_in-head u.birth (map (λ (o : Object). o.birth) os))
  | inr e ↦ is_in-tail x u.birth (map (λ (o : Object). o.birth) os) (kept-in os x (rw e.0 at t))
]

-- one more member among others that differ from it
all-insert : (x z : ℕ) (xs ys : List ℕ) → nat_eq x z ≡ false → AllByRecursion (λ y. nat_eq x y ≡ false) (xs ++ ys) → AllByRecursion (λ y. nat_eq x y ≡ false) (xs ++ z ∷ ys)
all-insert x z [] ys e all = (e, all)
all-insert x z (u ∷ xs) ys e all = (all.0, all-insert x z xs ys e all.1)

all-other : (z : ℕ) (ys : List ℕ) → ((y : ℕ) → IsTrue (is_in y ys) → y ≢ z) → AllByRecursion (λ y. nat_eq z y ≡ false) ys
all-other z [] ne = tt
all-other z (y ∷ ys) ne = (ne_eqb z y (λ e. ne y (is_in-head y ys) (sym e)), all-other z ys (λ u t. ne u (is_in-tail u y ys t)))

pub distinct-insert : (z : ℕ) (xs ys : List ℕ) → ((y : ℕ) → IsTrue (is_in y (xs ++ ys)) → y ≢ z) → IsDistinct nat_eq (xs ++ ys) → IsDistinct nat_eq (xs ++ z ∷ ys)
unfolding IsDistinct
distinct-insert z [] ys ne d = (all-other z ys ne, d)
distinct-insert z (x ∷ xs) ys ne d = (
  all-insert x z xs ys (ne_eqb x z (ne x (is_in-head x (xs ++ ys)))) d.0,
  distinct-insert z xs ys (λ u t. ne u (is_in-tail u x (xs ++ ys) t)) d.1,
)

-- The objects with a newborn one.
pub record MoreIs (kept : List Object) (o : Object) (x : ℕ) : Type 0 where
  pub found : ((x ≡ o.birth) × (object_at (kept ++ o ∷ []) x ≡ Some o)) ⊎ ((x ≢ o.birth) × (object_at (kept ++ o ∷ []) x ≡ object_at kept x))

pub more_is : (kept : List Object) (o : Object) (x : ℕ) → is_kept kept o.birth ≡ false → MoreIs kept o x
more_is kept o x none = record {
  found = elim (eqb_tells x o.birth) [
    | inl e ↦ inl (e.1, (let P : ℕ → Type 0 = λ k. object_at (kept ++ o ∷ []) k ≡ Some o in subst P (sym e.1) (find-last kept o none)))
    | inr e ↦ inr (e.1, find-more kept o x e.1)
  ];
}

kept-more : (kept : List Object) (o : Object) (x : ℕ) → is_kept kept o.birth ≡ false → IsTrue (is_kept kept x) → IsTrue (is_kept (kept ++ o ∷ []) x)
kept-more kept o x none t = elim (more_is kept o x none).found [
  | inl here ↦ ap (λ (f : Option Object). is_some f) here.1
  | inr there ↦ ap (λ (f : Option Object). is_some f) there.1 ∙ t
]

-- what is settled, with the new object or without it
settled-more : (is_old : Bool) (settled : List ℕ) (b x : ℕ) → IsTrue (is_in x settled) → IsTrue (is_in x (settled_with is_old settled b))
settled-more true settled b x t = is_in-before settled b x t
settled-more false settled b x t = t

settled-cases : (is_old : Bool) (settled : List ℕ) (b x : ℕ) → IsTrue (is_in x (settled_with is_old settled b)) → (x ≡ b) ⊎ IsTrue (is_in x settled)
settled-cases true settled b x t = is_in-append settled b x t
settled-cases false settled b x t = inr t

module _ {settings : Settings} {store : Store} (s : IsSound settings store) (is_old : Bool) (info : TypeInfo) (request : Request)
    (targets : (t : ℕ) → request.target ≡ Some t → IsTrue (is_kept store.kept t)) where
  abbrev after : Store
  after = with_birth is_old store info request

  abbrev born : Object
  born = newborn store.next info request

  none-yet : is_kept store.kept store.next ≡ false
  none-yet = elim (cases_Bool (is_kept store.kept store.next)) [
    | inl t ↦ absurd (let b = (s.births.born store.next (in-left store.next (map (λ (o : Object). o.birth) store.kept) (map (λ (h : ℕ × ℕ). h.0) store.husks) (kept-in store.kept store.next t))).1 in let no : ⊥ = omega (arith, b) in no)
    | inr f ↦ f
  ]

  kept_more : (x : ℕ) → IsTrue (is_kept store.kept x) → IsTrue (is_kept after.kept x)
  kept_more x t = kept-more store.kept born x none-yet t

  new_kept : IsTrue (is_kept after.kept store.next)
  new_kept = ap (λ (f : Option Object). is_some f) (find-last store.kept born none-yet)

  not-before : (xs : List ℕ) → AreBefore store.next xs → IsFalse (is_in store.next xs)
  not-before xs before = elim (cases_Bool (is_in store.next xs)) [
    | inl t ↦ absurd (let b = before store.next t in let no : ⊥ = omega (arith, b) in no)
    | inr f ↦ f
  ]

  cut-more : (dead : List ℕ) → AreCutOff store.kept dead → AreCutOff after.kept dead
  cut-more dead cut x k f y t = elim (more_is store.kept born x none-yet).found [
    | inl here ↦ absurd (is_in-nil y (subst (λ (xs : List ℕ). IsTrue (is_in y xs)) (ap referents_in here.1 ∙ new-refers info.shape request.items) t))
    | inr there ↦ cut x (sym (ap (λ (f : Option Object). is_some f) there.1) ∙ k) f y (subst (λ (o : Option Object). IsTrue (is_in y (referents_in o))) there.1 t)
  ]

  gone-more : (dead : List ℕ) → AreBefore store.next dead → AreGone store.kept dead → AreGone after.kept dead
  gone-more dead before gone x t = elim (more_is store.kept born x none-yet).found [
    | inl here ↦ absurd (let b = before x t in let no : ⊥ = omega (arith, b, here.0) in no)
    | inr there ↦ ap (λ (f : Option Object). is_some f) there.1 ∙ gone x t
  ]

  less-div : (a b d : ℕ) → a ≤ b → a / d ≤ b / d
  less-div a b d l = elim (cases_lt 0 d) [
    | inl some ↦ le-div (a / d) b d some (let low : a / d * d ≤ a = div-mul-le_self a d in omega (arith, low, l))
    | inr none ↦ (let zero_d : d ≡ 0 = omega (arith, none) in rw zero_d (omega arith))
  ]

  phase-more : (phase : Phase) → IsPhaseSound phase settings.sweep store → IsPhaseSound phase settings.sweep after
  phase-more Scanning p = p
  phase-more Marking p = (
    p.0,
    p.1,
    record {
      visited_settled = λ x t. settled-more is_old store.settled store.next x (p.2.visited_settled x t);
      visited_reached = p.2.visited_reached;
      doomed_unreached = p.2.doomed_unreached;
    },
  )
  phase-more Sweeping p = (
    (let up = less-div (store.next - 1) (store.next + 1 - 1) settings.sweep (omega arith) in omega (arith, p.0, up)),
    gone-more store.doomed s.doomed_born p.1,
    p.2,
  )
  phase-more Finalizing p = (p.0, gone-more store.doomed s.doomed_born p.1, p.2)

  births-are : births_in after ≡ map (λ (o : Object). o.birth) store.kept ++ (store.next ∷ map (λ (h : ℕ × ℕ). h.0) store.husks)
  births-are = ap (λ (xs : List ℕ). xs ++ map (λ (h : ℕ × ℕ). h.0) store.husks) (map-append (λ (o : Object). o.birth) store.kept (born ∷ []))
      ∙ append_assoc (map (λ (o : Object). o.birth) store.kept) (store.next ∷ []) (map (λ (h : ℕ × ℕ). h.0) store.husks)

  birth-cases : (x : ℕ) → IsTrue (is_in x (births_in after)) → (x ≡ store.next) ⊎ IsTrue (is_in x (births_in store))
  birth-cases x t =
      let ks : List ℕ = map (λ (o : Object). o.birth) store.kept in let hs : List ℕ = map (λ (h : ℕ × ℕ). h.0) store.husks in
      elim (in-either x ks (store.next ∷ hs) (subst (λ (xs : List ℕ). IsTrue (is_in x xs)) births-are t)) [
        | inl a ↦ inr (in-left x ks hs a)
        | inr b ↦ elim (is_in-cases x store.next hs b) [ inl e ↦ inl e | inr u ↦ inr (in-right x ks hs u) ]
      ]

  birth-more : (x : ℕ) → IsTrue (is_in x (births_in store)) → IsTrue (is_in x (births_in after))
  birth-more x t =
      let ks : List ℕ = map (λ (o : Object). o.birth) store.kept in let hs : List ℕ = map (λ (h : ℕ × ℕ). h.0) store.husks in
      subst (λ (xs : List ℕ). IsTrue (is_in x xs)) (sym births-are) (elim (in-either x ks hs t) [
        | inl a ↦ in-left x ks (store.next ∷ hs) a
        | inr b ↦ in-right x ks (store.next ∷ hs) (is_in-tail x store.next hs b)
      ])

  root-cases : (x : ℕ) → IsTrue (is_in x (roots_of after)) → (x ≡ store.next) ⊎ IsTrue (is_in x (roots_of store))
  root-cases x t =
      let was = are_roots store in
      roots_each {store = after} {P = λ y. (y ≡ store.next) ⊎ IsTrue (is_in y (roots_of store))} (record {
        slot = λ y u. elim (set-in store.slots request.slot (Some store.next) y u) [ inl e ↦ inl (let same : y ≡ store.next = cc in same) | inr v ↦ inr (was.slot y v) ];
        pin = λ y u. inr (was.pin y u);
        choice = λ y u. inr (was.choice y u);
        queue = λ y u. inr (was.queue y u);
        force = λ y u. inr (was.force y u);
      }) x t

  pub sound_born : IsSound settings after
  sound_born = record {
    fields = record {
      references = λ x y t. elim (more_is store.kept born x none-yet).found [
        | inl here ↦ absurd (is_in-nil y (subst (λ (xs : List ℕ). IsTrue (is_in y xs)) (ap referents_in here.1 ∙ new-refers info.shape request.items) t))
        | inr there ↦ kept_more y (s.fields.references x y (subst (λ (o : Option Object). IsTrue (is_in y (referents_in o))) there.1 t))
      ];
      targets = λ x t e. elim (more_is store.kept born x none-yet).found [
        | inl here ↦ kept_more t (targets t (ap target_in (sym here.1) ∙ e))
        | inr there ↦ kept_more t (s.fields.targets x t (ap target_in (sym there.1) ∙ e))
      ];
    };
    settled = λ x t. elim (settled-cases is_old store.settled store.next x t) [
      | inl e ↦ subst (λ (k : ℕ). IsTrue (is_kept after.kept k)) (sym e) new_kept
      | inr u ↦ kept_more x (s.settled x u)
    ];
    roots = λ x t. elim (root-cases x t) [
      | inl e ↦ subst (λ (k : ℕ). IsTrue (is_kept after.kept k)) (sym e) new_kept
      | inr u ↦ kept_more x (s.roots x u)
    ];
    registered = λ x t. kept_more x (s.registered x t);
    pins = record {
      differ = s.pins.differ;
      few = s.pins.few;
      counted = s.pins.counted;
      unsettled = λ x t. elim (cases_Bool (is_in x after.settled)) [
        | inr f ↦ f
        | inl u ↦ elim (settled-cases is_old store.settled store.next x u) [
          | inl e ↦ absurd (pinned-old x t e)
          | inr v ↦ absurd (let f = s.pins.unsettled x t in let no : ⊥ = cc in no)
        ]
      ];
      no_references = λ x t. elim (more_is store.kept born x none-yet).found [
        | inl here ↦ absurd (pinned-old x t here.0)
        | inr there ↦ ap refs_of there.1 ∙ s.pins.no_references x t
      ];
      no_target = λ x t. elim (more_is store.kept born x none-yet).found [
        | inl here ↦ absurd (pinned-old x t here.0)
        | inr there ↦ ap target_in there.1 ∙ s.pins.no_target x t
      ];
    };
    queues_rise = s.queues_rise;
    once = s.once;
    waiting = λ x t. settled-more is_old store.settled store.next x (s.waiting x t);
    roots_reached = λ x t. elim (root-cases x t) [
      | inl e ↦ subst (λ (k : ℕ). IsFalse (is_in k store.unreached)) (sym e) (not-before store.unreached s.unreached_born)
      | inr u ↦ s.roots_reached x u
    ];
    unreached_cut_off = cut-more store.unreached s.unreached_cut_off;
    unreached_born = λ x t. let b = s.unreached_born x t in omega (arith, b);
    roots_retained = λ x t. elim (root-cases x t) [
      | inl e ↦ subst (λ (k : ℕ). IsFalse (is_in k store.doomed)) (sym e) (not-before store.doomed s.doomed_born)
      | inr u ↦ s.roots_retained x u
    ];
    registered_retained = s.registered_retained;
    doomed_cut_off = cut-more store.doomed s.doomed_cut_off;
    doomed_born = λ x t. let b = s.doomed_born x t in omega (arith, b);
    phase = phase-more store.phase s.phase;
    links = record {
      rises = s.links.rises;
      objects = λ n x e. kept_more x (s.links.objects n x e);
      one_p_link = s.links.one_p_link;
      dead_once = s.links.dead_once;
      dead_pending = s.links.dead_pending;
      pending_dead = s.links.pending_dead;
      in_range = s.links.in_range;
    };
    births = record {
      next_above = omega arith;
      homes_rise = s.births.homes_rise;
      born = λ x t. elim (birth-cases x t) [
        | inl e ↦ (let up = s.births.next_above in (omega (arith, e, up), omega (arith, e)))
        | inr u ↦ let b = s.births.born x u in (b.0, omega (arith, b.1))
      ];
      differ = subst (IsDistinct nat_eq) (sym births-are) (distinct-insert store.next (map (λ (o : Object). o.birth) store.kept) (map (λ (h : ℕ × ℕ). h.0) store.husks)
          (λ y t e. let b = (s.births.born y t).1 in let no : ⊥ = omega (arith, b, e) in no) s.births.differ);
      homes_differ = s.births.homes_differ;
      housed = λ x place e. birth-more x (s.births.housed x place e);
    };
  }
    where
      pinned-old : (x : ℕ) → IsTrue (is_in x (pinned_births store)) → x ≡ store.next → ⊥
      pinned-old x t e = let k = s.roots x ((are_roots store).pin x t) in let f = none-yet in let P : is_kept store.kept x ≡ false = ap (is_kept store.kept) e ∙ f in let no : ⊥ = cc in no

  -- The items of settled objects are those that they had.
  pub born_order : (remembered remembered_after : ℕ → ℕ → Bool) → ((x i : ℕ) → remembered_after x i ≡ remembered x i) → ((x i : ℕ) → IsTrue (remembered x i) → IsTrue (is_in x store.settled))
      → PlainChange store.kept after.kept store.settled after.settled remembered remembered_after
  born_order remembered remembered_after same held = record {
    settled_stay = λ x t. settled-more is_old store.settled store.next x t;
    held_stay = λ x i t. same x i ∙ t;
    held_settled = λ x i t. settled-more is_old store.settled store.next x (held x i (sym (same x i) ∙ t));
    items = λ x i y t e. elim (more_is store.kept born x none-yet).found [
      | inl here ↦ absurd (new-item info.shape request.items i y (sym (ap (λ (o : Option Object). slice_get (refs_of o) i) here.1) ∙ e))
      | inr there ↦ elim (settled-cases is_old store.settled store.next x t) [
        | inl new ↦ absurd (there.0 new)
        | inr u ↦ inl (u, sym (ap (λ (o : Option Object). slice_get (refs_of o) i) there.1) ∙ e)
      ]
    ];
  }
