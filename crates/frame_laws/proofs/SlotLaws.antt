-- What slots hold.
use Rattle.std.proofs.Common.{◌≡◌, ◌≢◌, ℕ, zero, suc, IsTrue, List, [], ◌∷◌, map, refl, inl, inr}
use Rattle.std.specs.Prelude.{slice_index_or}
use Rattle.object_model.specs.Sets.{is_in}
use Rattle.store_model.specs.Slots.{held}
use Rattle.object_model.specs.ObjectWords.{renamed}
use Rattle.object_model.specs.Holds.{IsPointer}
use Rattle.object_model.proofs.Members.{is_in-head, is_in-tail}

-- a pointer that is not nil is a place
pub pointer-some : (met : List ℕ) (place : ℕ) → IsPointer met place → place ≢ 0 → IsTrue (is_in place met)
pointer-some met place (inl e) ne = absurd (ne e)
pointer-some met place (inr t) ne = t

-- what a slot holds goes by the name of its place
pub held-named : (slots : List ℕ) (name : ℕ → ℕ) (root : ℕ) → held (map (renamed name) slots) root ≡ renamed name (slice_index_or slots root 0)
held-named [] name root = refl
held-named (p ∷ slots) name zero = refl
held-named (p ∷ slots) name (suc root) = held-named slots name root

-- what stands in a slot is nil or a place of an object
pub slot-pointer : (slots places : List ℕ) (root : ℕ) → ((p : ℕ) → IsTrue (is_in p slots) → IsPointer places p)
    → IsPointer places (slice_index_or slots root 0)
slot-pointer [] places root pointers = inl refl
slot-pointer (p ∷ slots) places zero pointers = pointers p (is_in-head p slots)
slot-pointer (p ∷ slots) places (suc root) pointers = slot-pointer slots places root (λ q t. pointers q (is_in-tail q p slots t))
