-- Births that rise, and places that are named by them.
use Rattle.std.proofs.Common.{◌≡◌, ℕ, ◌+◌, ◌<◌, ◌≤◌, false, IsTrue, List, [], ◌∷◌, ◌++◌, map, nat_eq, refl, ap, ◌∙◌, inl, inr, arith}
use Rattle.std.specs.List.{IsDistinct, AllByRecursion}
use Rattle.std.proofs.lemmas.Bool.{ne_eqb}
use Rattle.object_model.specs.Sets.{is_in}
use Rattle.object_model.proofs.Members.{is_in-head, is_in-tail, is_in-cases, is_in-nil}
use Rattle.parts_model.specs.Places.{RiseBetween}

-- rising births from a greater least one on
pub rise-lower : (low least next : ℕ) (births : List ℕ) → low ≤ least → RiseBetween least births next → RiseBetween low births next
rise-lower low least next [] l rise = omega (arith, l, rise)
rise-lower low least next (b ∷ births) l rise = (omega (arith, l, rise.0), rise.1)

-- the ends of rising births
pub rise-end : (least next : ℕ) (births : List ℕ) → RiseBetween least births next → least ≤ next
rise-end least next [] rise = rise
rise-end least next (b ∷ births) rise = let up = rise-end (b + 1) next births rise.1 in omega (arith, up, rise.0)

-- a birth of theirs lies between the ends
pub rise-bounds : (least next x : ℕ) (births : List ℕ) → RiseBetween least births next → IsTrue (is_in x births) → (least ≤ x) × (x < next)
rise-bounds least next x [] rise t = absurd (is_in-nil x t)
rise-bounds least next x (b ∷ births) rise t = elim (is_in-cases x b births t) [
  | inl e ↦ (omega (arith, rise.0, e), let up = rise-end (b + 1) next births rise.1 in omega (arith, up, e))
  | inr u ↦ let more = rise-bounds (b + 1) next x births rise.1 u in (omega (arith, more.0, rise.0), more.1)
]

-- one more birth, the next one
pub rise-more : (least next : ℕ) (births : List ℕ) → RiseBetween least births next → RiseBetween least (births ++ next ∷ []) (next + 1)
rise-more least next [] rise = (rise, omega arith)
rise-more least next (b ∷ births) rise = (rise.0, rise-more (b + 1) next births rise.1)

above-differ : (x least next : ℕ) (births : List ℕ) → x < least → RiseBetween least births next → AllByRecursion (λ y. nat_eq x y ≡ false) births
above-differ x least next [] l rise = tt
above-differ x least next (b ∷ births) l rise =
    (ne_eqb x b (λ e. absurd (let no : ⊥ = omega (arith, l, rise.0, e) in no)), above-differ x (b + 1) next births (omega (arith, l, rise.0)) rise.1)

-- rising births differ
pub rise-differ : (least next : ℕ) (births : List ℕ) → RiseBetween least births next → IsDistinct nat_eq births
unfolding IsDistinct
rise-differ least next [] rise = tt
rise-differ least next (b ∷ births) rise = (above-differ b (b + 1) next births (omega arith) rise.1, rise-differ (b + 1) next births rise.1)

-- the births of objects that are read at places are the names of the places
pub map-births : {X : Type 0} → (birth : X → ℕ) (read : ℕ → X) (name : ℕ → ℕ) (places : List ℕ)
    → ((p : ℕ) → IsTrue (is_in p places) → birth (read p) ≡ name p) → map birth (map read places) ≡ map name places
map-births birth read name [] named = refl
map-births birth read name (p ∷ places) named =
    ap (λ b. b ∷ map birth (map read places)) (named p (is_in-head p places))
    ∙ ap (λ bs. name p ∷ bs) (map-births birth read name places (λ q t. named q (is_in-tail q p places t)))
