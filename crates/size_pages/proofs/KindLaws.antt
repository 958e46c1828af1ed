-- The list of a kind that is on a list of its class.
use Rattle.std.proofs.Common.{◌≡◌, ◌≢◌, ℕ, ◌+◌, ◌-◌, ◌*◌, ◌≤◌, ◌⊎◌, inl, inr, arith, refl}
use Rattle.size_pages.specs.declared.kinds.PageKind.{PageKind}
use Rattle.size_pages.specs.declared.kinds.PageKind.TheVariants.{Unused, Room, Full, Waiting}
use Rattle.size_pages.specs.Kinds.{kind_number, list_index}

pub class_list : (kind : PageKind) (n : ℕ) → 1 ≤ kind_number kind → kind_number kind ≢ 3 → 2 * n + (kind_number kind - 1) ≡ list_index kind n
class_list Unused n low no3 = absurd (omega (arith, low))
class_list Room n low no3 = omega arith
class_list Full n low no3 = omega arith
class_list Waiting n low no3 = absurd (no3 refl)

pub listed_kind : (kind : PageKind) (n : ℕ) → (kind_number kind ≡ 1) ⊎ (kind_number kind ≡ 2) → 2 * n + (kind_number kind - 1) ≡ list_index kind n
listed_kind kind n known = elim known [
  | inl a ↦ class_list kind n (omega (arith, a)) (λ e. omega (arith, a, e))
  | inr b ↦ class_list kind n (omega (arith, b)) (λ e. omega (arith, b, e))
]
