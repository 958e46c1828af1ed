-- One object changes in its fields: the items of all objects then.
use Rattle.std.proofs.Common.{◌≡◌, ℕ, zero, suc, ◌⊎◌, true, false, IsTrue, List, [], ◌∷◌, map, Option, Some, None, refl, sym, ap, ap₂, ◌∙◌, subst, inl, inr, arith}
use Rattle.std.specs.Prelude.{is_some, filter_map, option_map, ◌==◌, if◌then◌else◌, slice_set, slice_get}
use Rattle.std.specs.List.{cons_option}
use Rattle.std.proofs.lemmas.Bool.{cases_Bool}
use Rattle.std.proofs.lemmas.Bool.Decides.{eqb_tells}
use Rattle.object_model.proofs.Members.{is_in-head, is_in-tail, is_in-cases, is_in-nil}
use Rattle.object_model.specs.Object.{Object, object_at}
use Rattle.object_model.specs.Sets.{is_in}
use Rattle.object_model.specs.Fields.{refs_of, changed_at, with_int, with_ref}
use Rattle.store_model.specs.Roots.{referents_in, target_in}
use Rattle.store_model.specs.MarkingOrder.{IsItem}
use Rattle.store_model.proofs.SoundLaws.{SameButFor}

later : (y : ℕ) (r : Option ℕ) (xs : List ℕ) → IsTrue (is_in y xs) → IsTrue (is_in y (cons_option r xs))
later y None xs t = t
later y (Some x) xs t = is_in-tail y x xs t

now : (y : ℕ) (r : Option ℕ) (xs : List ℕ) → r ≡ Some y → IsTrue (is_in y (cons_option r xs))
now y r xs e = rw e (is_in-head y xs)

now_or_later : (y : ℕ) (r : Option ℕ) (xs : List ℕ) → IsTrue (is_in y (cons_option r xs)) → (r ≡ Some y) ⊎ IsTrue (is_in y xs)
now_or_later y None xs t = inr t
now_or_later y (Some x) xs t = elim (is_in-cases y x xs t) [ inl e ↦ inl (ap Some (sym e)) | inr u ↦ inr u ]

item-in : (refs : List (Option ℕ)) (i y : ℕ) → slice_get refs i ≡ Some (Some y) → IsTrue (is_in y (filter_map (λ r. r) refs))
item-in [] i y e = absurd (grind arith)
item-in (r ∷ refs) zero y e = now y r (filter_map (λ r. r) refs) (grind arith)
item-in (r ∷ refs) (suc i) y e = later y r (filter_map (λ r. r) refs) (item-in refs i y e)

in-item : (refs : List (Option ℕ)) (y : ℕ) → IsTrue (is_in y (filter_map (λ r. r) refs)) → (i : ℕ) × (slice_get refs i ≡ Some (Some y))
in-item [] y t = absurd (is_in-nil y t)
in-item (r ∷ refs) y t = elim (now_or_later y r (filter_map (λ r. r) refs) t) [
  | inl e ↦ (0, ap Some e)
  | inr u ↦ let f : (i : ℕ) × (slice_get refs i ≡ Some (Some y)) = in-item refs y u in (suc f.0, f.1)
]

-- an item's referent is among the referents, and each of these is an item's
pub item-referent : (kept : List Object) (x i y : ℕ) → IsItem kept x i y → IsTrue (is_in y (referents_in (object_at kept x)))
item-referent kept x i y = go (object_at kept x)
  where
    go : (o : Option Object) → slice_get (refs_of o) i ≡ Some (Some y) → IsTrue (is_in y (referents_in o))
    go None e = absurd (grind arith)
    go (Some o) e = item-in o.refs i y e

pub referent-item : (kept : List Object) (x y : ℕ) → IsTrue (is_in y (referents_in (object_at kept x))) → (i : ℕ) × IsItem kept x i y
referent-item kept x y = go (object_at kept x)
  where
    go : (o : Option Object) → IsTrue (is_in y (referents_in o)) → (i : ℕ) × (slice_get (refs_of o) i ≡ Some (Some y))
    go None t = absurd (is_in-nil y t)
    go (Some o) t = in-item o.refs y t

-- A change of fields: birth and target stay, and items are those of before or new.
pub record IsFieldChange (f : Object → Object) (news : ℕ → ℕ → Type 0) : Type 0 where
  pub birth : (o : Object) → (f o).birth ≡ o.birth
  pub target : (o : Object) → (f o).target ≡ o.target
  pub empty : (o : Object) → o.refs ≡ [] → (f o).refs ≡ []
  pub items : (o : Object) (i y : ℕ) → slice_get (f o).refs i ≡ Some (Some y) → (slice_get o.refs i ≡ Some (Some y)) ⊎ news i y

pub int_change : (item value : ℕ) → IsFieldChange (with_int item value) (λ i y. ⊥)
int_change item value = record { birth = λ o. refl; target = λ o. refl; empty = λ o e. e; items = λ o i y e. inl e }

set-item : (refs : List (Option ℕ)) (i : ℕ) (v : Option ℕ) (j y : ℕ) → slice_get (slice_set refs i v) j ≡ Some (Some y)
    → (slice_get refs j ≡ Some (Some y)) ⊎ ((j ≡ i) × (v ≡ Some y))
set-item [] i v j y e = inl e
set-item (r ∷ refs) zero v zero y e = inr (refl, grind arith)
set-item (r ∷ refs) zero v (suc j) y e = inl e
set-item (r ∷ refs) (suc i) v zero y e = inl e
set-item (r ∷ refs) (suc i) v (suc j) y e = elim (set-item refs i v j y e) [ inl o ↦ inl o | inr n ↦ inr (ap suc n.0, n.1) ]

pub ref_change : (item : ℕ) (v : Option ℕ) → IsFieldChange (with_ref item v) (λ i y. (i ≡ item) × (v ≡ Some y))
ref_change item v = record {
  birth = λ o. refl;
  target = λ o. refl;
  empty = λ o e. rw e refl;
  items = λ o i y e. set-item o.refs item v i y e;
}

module _ {f : Object → Object} {news : ℕ → ℕ → Type 0} (c : IsFieldChange f news) (a : ℕ) where
  abbrev pub pick : Object → Object
  pick o = if a == o.birth then f o else o

  pick-birth : (o : Object) → (pick o).birth ≡ o.birth
  pick-birth o = elim (cases_Bool (a == o.birth)) [ inl e ↦ rw e (c.birth o) | inr e ↦ rw e refl ]

  births-changed : (os : List Object) → map (λ o. o.birth) (changed_at (Some a) f os) ≡ map (λ o. o.birth) os
  births-changed [] = refl
  births-changed (o ∷ os) = ap₂ (λ (b : ℕ) (bs : List ℕ). b ∷ bs) (pick-birth o) (births-changed os)

  pub found-changed : (x : ℕ) (os : List Object) → object_at (changed_at (Some a) f os) x ≡ option_map pick (object_at os x)
  found-changed x [] = refl
  found-changed x (o ∷ os) =
      let more = found-changed x os in
      elim (cases_Bool (x == o.birth)) [
        | inl e ↦ let b : (x == (pick o).birth) ≡ true = ap (λ (k : ℕ). x == k) (pick-birth o) ∙ e in rw (b, e) refl
        | inr e ↦ let b : (x == (pick o).birth) ≡ false = ap (λ (k : ℕ). x == k) (pick-birth o) ∙ e in rw (b, e) more
      ]

  some-same : (o : Option Object) → is_some (option_map pick o) ≡ is_some o
  some-same None = refl
  some-same (Some o) = refl

  target-same : (o : Option Object) → target_in (option_map pick o) ≡ target_in o
  target-same None = refl
  target-same (Some o) = elim (cases_Bool (a == o.birth)) [ inl e ↦ rw e (c.target o) | inr e ↦ rw e refl ]

  empty-same : (o : Option Object) → refs_of o ≡ [] → refs_of (option_map pick o) ≡ []
  empty-same None e = refl
  empty-same (Some o) e = elim (cases_Bool (a == o.birth)) [ inl is ↦ rw is (c.empty o e) | inr is ↦ rw is e ]

  -- the object that is found has the birth
  found-birth : (x : ℕ) (o : Object) (os : List Object) → object_at os x ≡ Some o → x ≡ o.birth
  found-birth x o [] e = absurd (grind arith)
  found-birth x o (q ∷ os) e = elim (eqb_tells x q.birth) [
    | inl is ↦ (let same : Some q ≡ Some o = sym (let hit : object_at (q ∷ os) x ≡ Some q = rw is.0 refl in hit) ∙ e in let o_is : q ≡ o = cc in is.1 ∙ ap (λ (r : Object). r.birth) o_is)
    | inr is ↦ found-birth x o os (sym (let miss : object_at (q ∷ os) x ≡ object_at os x = rw is.0 refl in miss) ∙ e)
  ]

  item-found : (kept : List Object) (x i y : ℕ) (o : Option Object) → object_at kept x ≡ o → slice_get (refs_of (option_map pick o)) i ≡ Some (Some y)
      → (slice_get (refs_of o) i ≡ Some (Some y)) ⊎ ((x ≡ a) × news i y)
  item-found kept x i y None is e = absurd (grind arith)
  item-found kept x i y (Some o) is e = elim (eqb_tells a o.birth) [
    | inl hit ↦
        let changed : slice_get (f o).refs i ≡ Some (Some y) = sym (let same : slice_get (pick o).refs i ≡ slice_get (f o).refs i = rw hit.0 refl in same) ∙ e in
        elim (c.items o i y changed) [
          | inl old ↦ inl old
          | inr new ↦ inr (found-birth x o kept is ∙ sym hit.1, new)
        ]
    | inr miss ↦ inl (sym (let same : slice_get (pick o).refs i ≡ slice_get o.refs i = rw miss.0 refl in same) ∙ e)
  ]

  -- each item is one of before, or a new one of the changed object
  pub items_changed : (kept : List Object) (x i y : ℕ) → IsItem (changed_at (Some a) f kept) x i y → IsItem kept x i y ⊎ ((x ≡ a) × news i y)
  items_changed kept x i y e = item-found kept x i y (object_at kept x) refl (subst (λ (o : Option Object). slice_get (refs_of o) i ≡ Some (Some y)) (found-changed x kept) e)

  -- what a sound store asks of the change, where what is new is so
  pub same_but_for : (kept : List Object) (P : ℕ → Type 0) → ((i y : ℕ) → news i y → P y) → SameButFor kept (changed_at (Some a) f kept) P
  same_but_for kept P new = record {
    births = births-changed kept;
    there = λ x. ap is_some (found-changed x kept) ∙ some-same (object_at kept x);
    targets = λ x. ap target_in (found-changed x kept) ∙ target-same (object_at kept x);
    empty = λ x e. ap refs_of (found-changed x kept) ∙ empty-same (object_at kept x) e;
    referred = λ x y t.
        let item : (i : ℕ) × IsItem (changed_at (Some a) f kept) x i y = referent-item (changed_at (Some a) f kept) x y t in
        elim (items_changed kept x item.0 y item.1) [
          | inl old ↦ inl (item-referent kept x item.0 y old)
          | inr is ↦ inr (new item.0 y is.1)
        ];
  }
