-- Marking in order: what marking still owes, over births. Each letter is over just the parts that it names.
use Rattle.std.specs.Prelude.{◌≡◌, ℕ, Bool, ◌||◌, ◌⊎◌, IsTrue, IsFalse, List, [], ◌∷◌, ◌++◌, Some, filter, slice_get}
use Rattle.object_model.specs.Sets.{is_in}
use Rattle.object_model.specs.Object.{Object, object_at}
use Rattle.object_model.specs.Fields.{refs_of}
use Rattle.store_model.specs.Roots.{referents_in}
use Rattle.store_model.specs.Sound.{AreNoneOf}

-- item i of x refers to y
abbrev pub IsItem : List Object → ℕ → ℕ → ℕ → Type 0
IsItem kept x i y = slice_get (refs_of (object_at kept x)) i ≡ Some (Some y)

-- each of these births is among the others
abbrev pub AreAllIn : List ℕ → List ℕ → Type 0
AreAllIn births others = (x : ℕ) → IsTrue (is_in x births) → IsTrue (is_in x others)

-- visited, or still to be visited
abbrev pub is_known : List ℕ → List ℕ → ℕ → Bool
is_known visited gray y = is_in y visited || is_in y gray

-- an item of a settled object that refers to an unsettled one is remembered
abbrev pub YoungHeld : List Object → List ℕ → (ℕ → ℕ → Bool) → Type 0
YoungHeld kept settled remembered =
    (x i y : ℕ) → IsTrue (is_in x settled) → IsItem kept x i y → IsTrue (is_in y settled) ⊎ IsTrue (remembered x i)

-- what an item of a visited object refers to is visited or gray, or the item is remembered
abbrev pub VisitsOwed : List Object → List ℕ → List ℕ → (ℕ → ℕ → Bool) → Type 0
VisitsOwed kept visited gray remembered =
    (x i y : ℕ) → IsTrue (is_in x visited) → IsItem kept x i y → IsTrue (is_known visited gray y) ⊎ IsTrue (remembered x i)

-- what is remembered belongs to settled objects
abbrev pub HeldSettled : List ℕ → (ℕ → ℕ → Bool) → Type 0
HeldSettled settled remembered = (x i : ℕ) → IsTrue (remembered x i) → IsTrue (is_in x settled)

-- What marking owes between any two commands.
pub record IsInOrder (kept : List Object) (settled visited gray : List ℕ) (remembered : ℕ → ℕ → Bool) (unreached : List ℕ) : Type 0 where
  pub young : YoungHeld kept settled remembered
  pub owed : VisitsOwed kept visited gray remembered
  pub held_settled : HeldSettled settled remembered
  pub gray_settled : AreAllIn gray settled
  pub visited_settled : AreAllIn visited settled
  pub gray_reached : AreNoneOf gray unreached
  pub visited_reached : AreNoneOf visited unreached

-- right after a minor collection and through the marking step: what a visited object refers to is visited, gray or unsettled
abbrev pub VisitsQueued : List Object → List ℕ → List ℕ → List ℕ → Type 0
VisitsQueued kept settled visited gray =
    (x i y : ℕ) → IsTrue (is_in x visited) → IsItem kept x i y → IsTrue (is_in y settled) → IsTrue (is_known visited gray y)

-- from the second queueing of the roots on
abbrev pub RootsQueued : List ℕ → List ℕ → List ℕ → List ℕ → Type 0
RootsQueued settled roots visited gray =
    (x : ℕ) → IsTrue (is_in x roots) → IsTrue (is_in x settled) → IsTrue (is_known visited gray x)

-- the settled ones of these births
abbrev pub settled_of : List ℕ → List ℕ → List ℕ
settled_of settled births = filter (λ y. is_in y settled) births

-- visits, first in, first out, from lists of visited and gray births to others; the births that they visit
pub data Visits (kept : List Object) (settled : List ℕ) : List ℕ → List ℕ → List ℕ → List ℕ → List ℕ → Type 0 where
  NoVisit : (visited gray : List ℕ) → Visits kept settled visited gray [] visited gray
  Passed : (visited rest births visited2 gray2 : List ℕ) (x : ℕ) → IsTrue (is_in x visited) → Visits kept settled visited rest births visited2 gray2
      → Visits kept settled visited (x ∷ rest) births visited2 gray2
  Visit : (visited rest births visited2 gray2 : List ℕ) (x : ℕ) → IsFalse (is_in x visited)
      → Visits kept settled (visited ++ x ∷ []) (rest ++ settled_of settled (referents_in (object_at kept x))) births visited2 gray2
      → Visits kept settled visited (x ∷ rest) (x ∷ births) visited2 gray2
