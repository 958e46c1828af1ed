-- Objects that pass a test, by their places; and rising births with the same members.
use Rattle.std.proofs.Common.{nat_eq, ◌≡◌, ℕ, ◌+◌, Bool, IsTrue, List, [], ◌∷◌, map, filter, refl, sym, ap, ap₂, ◌∙◌, inl, inr, arith}
use Rattle.std.proofs.lemmas.Bool.{cases_Bool}
use Rattle.type_table.specs.declared.info.TypeInfo.{TypeInfo}
use Rattle.type_table.specs.Table.{Table}
use Rattle.object_model.proofs.Members.{is_in-head, is_in-tail, is_in-cases, is_in-nil}
use Rattle.object_view.proofs.LayoutLaws.{birth-from}
use Rattle.object_view.proofs.FoundLaws.{info-from}
use Rattle.object_model.specs.Object.{Object}
use Rattle.object_model.specs.Sets.{is_in}
use Rattle.object_model.specs.Shapes.{is_weak_shape}
use Rattle.object_model.specs.ObjectWords.{object_from}
use Rattle.object_model.specs.Holds.{HoldsObjects}
use Rattle.heap_parts.specs.Places.{RiseBetween, is_weak_at}
use Rattle.frame_laws.proofs.Births.{rise-bounds}
use Rattle.minor_collect.specs.Carried.{weak_births}
use Rattle.std.proofs.lemmas.Bool.Decides.{eqb_tells}

-- the births of objects that pass are the names of the places of which the same is told
pub objects_named : {types : Table TypeInfo} {w name : ℕ → ℕ} {met places : List ℕ} {kept : List Object} (test : Object → Bool) (passes : ℕ → Bool)
    → HoldsObjects types w met places name kept → ((p : ℕ) → IsTrue (is_in p places) → test (object_from types name w p) ≡ passes p)
    → map (λ (o : Object). o.birth) (filter test kept) ≡ map name (filter passes places)
objects_named {types = types} {w = w} {name = name} {places = places} test passes h agree =
    ap (λ (ks : List Object). map (λ (o : Object). o.birth) (filter test ks)) h.reads ∙ go places (λ p t. t)
  where
    go : (qs : List ℕ) → ((p : ℕ) → IsTrue (is_in p qs) → IsTrue (is_in p places))
        → map (λ (o : Object). o.birth) (filter test (map (object_from types name w) qs)) ≡ map name (filter passes qs)
    go [] among = refl
    go (q ∷ qs) among =
        let there = among q (is_in-head q qs) in
        let more = go qs (λ p t. among p (is_in-tail p q qs t)) in
        let same : test (object_from types name w q) ≡ passes q = agree q there in
        let named : (object_from types name w q).birth ≡ name q = birth-from types name w q ∙ sym (h.named q there) in
        elim (cases_Bool (passes q)) [
          | inl e ↦ rw (same ∙ e, e) (ap₂ (λ (b : ℕ) (bs : List ℕ). b ∷ bs) named more)
          | inr e ↦ rw (same ∙ e, e) more
        ]

pub weak_named : {types : Table TypeInfo} {w name : ℕ → ℕ} {met places : List ℕ} {kept : List Object} → HoldsObjects types w met places name kept
    → weak_births kept ≡ map name (filter (is_weak_at types w) places)
weak_named {types = types} {w = w} {name = name} h = objects_named (λ o. is_weak_shape o.info.shape) (is_weak_at types w) h
    (λ p t. ap (λ (i : TypeInfo). is_weak_shape i.shape) (info-from types name w p))

-- Rising births with the same members are the same.
pub rising_same : (least next low high : ℕ) (xs ys : List ℕ) → RiseBetween least xs next → RiseBetween low ys high
    → ((x : ℕ) → IsTrue (is_in x xs) → IsTrue (is_in x ys)) → ((y : ℕ) → IsTrue (is_in y ys) → IsTrue (is_in y xs)) → xs ≡ ys
rising_same least next low high [] [] r s to from = refl
rising_same least next low high [] (y ∷ ys) r s to from = absurd (is_in-nil y (from y (is_in-head y ys)))
rising_same least next low high (x ∷ xs) [] r s to from = absurd (is_in-nil x (to x (is_in-head x xs)))
rising_same least next low high (x ∷ xs) (y ∷ ys) r s to from =
    let heads : x ≡ y = elim (is_in-cases x y ys (to x (is_in-head x xs))) [
      | inl e ↦ e
      | inr t ↦ elim (is_in-cases y x xs (from y (is_in-head y ys))) [
        | inl e ↦ sym e
        | inr u ↦ absurd (let a = rise-bounds (y + 1) high x ys s.1 t in let b = rise-bounds (x + 1) next y xs r.1 u in omega (arith, a.0, b.0))
      ]
    ] in
    let tails : xs ≡ ys = rising_same (x + 1) next (y + 1) high xs ys r.1 s.1
    (λ z t. elim (is_in-cases z y ys (to z (is_in-tail z x xs t))) [
      | inl e ↦ absurd (let a = rise-bounds (x + 1) next z xs r.1 t in omega (arith, a.0, heads, e))
      | inr u ↦ u
    ])
    (λ z t. elim (is_in-cases z x xs (from z (is_in-tail z y ys t))) [
      | inl e ↦ absurd (let a = rise-bounds (y + 1) high z ys s.1 t in omega (arith, a.0, heads, e))
      | inr u ↦ u
    ]) in
    ap₂ (λ (k : ℕ) (ks : List ℕ). k ∷ ks) heads tails

pub eq-flips : (x y : ℕ) → nat_eq x y ≡ nat_eq y x
eq-flips x y = elim (eqb_tells x y) [
  | inl e ↦ elim (eqb_tells y x) [ inl f ↦ e.0 ∙ sym f.0 | inr f ↦ absurd (f.1 (sym e.1)) ]
  | inr e ↦ elim (eqb_tells y x) [ inl f ↦ absurd (e.1 (sym f.1)) | inr f ↦ e.0 ∙ sym f.0 ]
]

pub map-id : (xs : List ℕ) → map (λ (x : ℕ). x) xs ≡ xs
map-id [] = refl
map-id (x ∷ xs) = ap (λ (ys : List ℕ). x ∷ ys) (map-id xs)
