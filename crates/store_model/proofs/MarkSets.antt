-- Members of lists, and tests joined: for the laws of marking.
use Rattle.std.proofs.Common.{◌≡◌, ℕ, Bool, true, false, IsTrue, List, [], ◌∷◌, refl, arith, ⊎_elim}
use Rattle.std.specs.Prelude.{IsFalse, ◌==◌, filter}
use Rattle.std.proofs.lemmas.Bool.Decides.{nat_tests}
use Rattle.object_model.proofs.Members.{is_in-head, is_in-cases, is_in-nil, filter-part, filter-member}
use Rattle.object_model.specs.Sets.{is_in}

pub is_false : (b : Bool) → (IsTrue b → ⊥) → IsFalse b
is_false true h = absurd (h refl)
is_false false h = refl

-- x is the element, y what is looked for
pub equal : (y x : ℕ) → IsTrue (x == y) → y ≡ x
equal y x h = grind (arith, nat_tests)

pub same : (a : ℕ) → IsTrue (a == a)
same a = grind (arith, nat_tests)

pub in-one : (x : ℕ) → IsTrue (is_in x (x ∷ []))
in-one x = is_in-head x []

pub only : (y x : ℕ) → IsTrue (is_in y (x ∷ [])) → y ≡ x
only y x t = ⊎_elim (λ e. e) (λ n. absurd (is_in-nil y n)) (is_in-cases y x [] t)

pub in-filter : (test : ℕ → Bool) (y : ℕ) (xs : List ℕ) → IsTrue (is_in y xs) → IsTrue (test y) → IsTrue (is_in y (filter test xs))
in-filter test y xs t e = filter-member test xs y t e

pub from-filter : (test : ℕ → Bool) (y : ℕ) (xs : List ℕ) → IsTrue (is_in y (filter test xs)) → IsTrue (is_in y xs) × IsTrue (test y)
from-filter test y xs t = filter-part test xs y t
