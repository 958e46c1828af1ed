-- Which births the finalizers know.
use Rattle.std.specs.Prelude.{◌≡◌, ℕ, ◌+◌, ◌==◌, Bool, List, ◌++◌, length, sum_by, if◌then◌else◌}
use Rattle.finalizer_order.specs.declared.entry.Entry.{Entry}
use Rattle.finalizer_order.specs.Queues.{AreInRange, joined}

-- how often the object of a birth is listed
abbrev pub times_of : ℕ → List Entry → ℕ
times_of birth entries = sum_by (λ entry. if entry.birth == birth then 1 else 0) entries

-- The births that pass are those of the objects that are listed, and no object is listed twice. Each has one of the queues.
pub record AreListed (births : ℕ → Bool) (registered chosen : List Entry) (queues : List (List Entry)) : Type 0 where
  pub listed : (birth : ℕ) → times_of birth registered + (times_of birth chosen + times_of birth (joined queues)) ≡ (if births birth then 1 else 0)
  pub registered_in : AreInRange (length queues) registered
  pub chosen_in : AreInRange (length queues) chosen

-- a list goes on behind what it held
abbrev pub BeginsWith : {X : Type 0} → List X → List X → Type 0
BeginsWith {X} before after = (more : List X) × (after ≡ before ++ more)
