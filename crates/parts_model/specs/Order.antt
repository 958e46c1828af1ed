-- What marking and the next minor collection stand on, told by places.
use Rattle.std.specs.Prelude.{◌≡◌, ℕ, Bool, List, []}
use Rattle.text_model.specs.declared.line.Phase.{Phase}
use Rattle.text_model.specs.declared.line.Phase.TheVariants.{Marking}
use Rattle.object_model.specs.Object.{Object}
use Rattle.store_model.specs.Sound.{AreNoneOf}
use Rattle.store_model.specs.MarkingOrder.{VisitsOwed, HeldSettled, AreAllIn}

-- nothing is to be visited outside marking
abbrev pub IsGrayOf : Phase → List ℕ → Type 0
IsGrayOf Marking gray = Unit {0}
IsGrayOf phase gray = gray ≡ []

-- the kinds of facts on marking, over births
abbrev pub OrderOf : Type 1
OrderOf = List Object → List ℕ → List ℕ → List ℕ → (ℕ → ℕ → Bool) → List ℕ → Type 0

-- marking is in order, but that items which refer to unsettled objects may be forgotten
pub record IsInOrderButYoung (kept : List Object) (settled visited gray : List ℕ) (remembered : ℕ → ℕ → Bool) (unreached : List ℕ) : Type 0 where
  pub owed : VisitsOwed kept visited gray remembered
  pub held_settled : HeldSettled settled remembered
  pub gray_settled : AreAllIn gray settled
  pub visited_settled : AreAllIn visited settled
  pub gray_reached : AreNoneOf gray unreached
  pub visited_reached : AreNoneOf visited unreached
