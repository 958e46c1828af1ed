-- Blocks: a minor collection and, where it is due, one major step. Whole collections. What comes before a birth.
use Rattle.std.specs.Prelude.{◌≡◌, ◌≢◌, ℕ, ◌+◌, ◌<◌, Bool, true, false, not, ◌||◌, nat_lt, nat_le, List, [], ◌++◌}
use Rattle.text_model.specs.declared.line.Line.{Line}
use Rattle.text_model.specs.declared.line.Phase.{Phase}
use Rattle.text_model.specs.declared.line.Phase.TheVariants.{Scanning, Marking, Sweeping, Finalizing}
use Rattle.object_model.specs.declared.settings.Settings.{Settings}
use Rattle.store_model.specs.Store.{Store, unsettled_words, old_words, counted_words}
use Rattle.store_model.specs.MinorCollection.{MinorCollection}
use Rattle.store_model.specs.Marking.{StartOfMarking, MarkingStep}
use Rattle.store_model.specs.Sweeping.{SweepingStep, finalizing_lines, after_finalizing}

-- what a phase does
abbrev pub StepFrom : Phase → Settings → Store → List Line → Store → Type 0
StepFrom Scanning settings old lines new = StartOfMarking old lines new
StepFrom Marking settings old lines new = MarkingStep settings old lines new
StepFrom Sweeping settings old lines new = SweepingStep settings old lines new
StepFrom Finalizing settings old lines new = (lines ≡ finalizing_lines settings old) × (new ≡ after_finalizing settings old)

-- a major step
abbrev pub MajorStep : Settings → Store → List Line → Store → Type 0
MajorStep settings old lines new = StepFrom old.phase settings old lines new

-- where the test says so, the event prints these lines and leads from old to new, and else nothing happens
abbrev pub When : Bool → (Store → List Line → Store → Type 0) → Store → List Line → Store → Type 0
When true Event old lines new = Event old lines new
When false Event old lines new = (lines ≡ []) × (new ≡ old)

-- a minor collection, and a major step where the store that it left says so
pub record Block (is_due : Store → Bool) (settings : Settings) (old : Store) (lines : List Line) (new : Store) : Type 0 where
  pub mid : Store
  pub minor : List Line
  pub major : List Line
  pub collected : MinorCollection old minor mid
  pub stepped : When (is_due mid) (MajorStep settings) mid major new
  pub printed : lines ≡ minor ++ major

-- each step is due
abbrev pub always : Store → Bool
always store = true

-- blocks up to the first step that ends in the phase Scanning
pub data Cycle (settings : Settings) : Store → List Line → Store → Type 0 where
  Last : {old new : Store} {lines : List Line} → Block always settings old lines new → new.phase ≡ Scanning → Cycle settings old lines new
  More : {old mid new : Store} {lines rest : List Line} → Block always settings old lines mid → mid.phase ≢ Scanning →
      Cycle settings mid rest new → Cycle settings old (lines ++ rest) new

-- two cycles, one after the other
pub record TwoCycles (settings : Settings) (old : Store) (lines : List Line) (new : Store) : Type 0 where
  pub mid : Store
  pub first : List Line
  pub second : List Line
  pub ends : Cycle settings old first mid
  pub again : Cycle settings mid second new
  pub printed : lines ≡ first ++ second

-- the cycle that is going on ends before a whole one comes
abbrev pub CollectFrom : Phase → Settings → Store → List Line → Store → Type 0
CollectFrom Scanning settings old lines new = Cycle settings old lines new
CollectFrom phase settings old lines new = TwoCycles settings old lines new

-- a whole collection
abbrev pub Collect : Settings → Store → List Line → Store → Type 0
Collect settings old lines new = CollectFrom old.phase settings old lines new

-- whether no cycle runs
abbrev pub is_scanning : Phase → Bool
is_scanning Scanning = true
is_scanning Marking = false
is_scanning Sweeping = false
is_scanning Finalizing = false

-- whether the major step of an automatic block is due
abbrev pub is_step_due : Store → Bool
is_step_due store = not (is_scanning store.phase) || nat_le store.threshold (old_words store)

-- whether an automatic block comes before a birth of so many words
abbrev pub needs_block : Settings → Store → ℕ → Bool
needs_block settings store words = nat_lt settings.nursery (unsettled_words store.kept store.settled + store.fresh + words)

-- whether a birth of so many words would exceed the limit
abbrev pub exceeds_limit : Settings → Store → ℕ → Bool
exceeds_limit settings store words = nat_lt settings.limit (counted_words store + words)

-- the collections that come before a birth of so many words
pub record MakesRoom (settings : Settings) (old : Store) (words : ℕ) (lines : List Line) (new : Store) : Type 0 where
  pub mid : Store
  pub first : List Line
  pub second : List Line
  pub block : When (needs_block settings old words) (Block is_step_due settings) old first mid
  pub collect : When (exceeds_limit settings mid words) (Collect settings) mid second new
  pub printed : lines ≡ first ++ second

-- no room for so many words even after a whole collection
pub record HasNoRoom (settings : Settings) (old : Store) (words : ℕ) (lines : List Line) (new : Store) : Type 0 where
  pub made_room : MakesRoom settings old words lines new
  pub exceeds : settings.limit < counted_words new + words
