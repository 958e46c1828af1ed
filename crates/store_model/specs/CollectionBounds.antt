-- What whole collections leave, when the limit refuses a birth, and how many major steps a whole collection has.
use Rattle.std.specs.Prelude.{◌≡◌, ℕ, ◌+◌, ◌-◌, ◌*◌, ◌/◌, ◌<◌, ◌≤◌, Bool, true, false, not, List, ◌++◌, length, filter}
use Rattle.text_model.specs.declared.line.Line.{Line}
use Rattle.text_model.specs.declared.line.Line.TheVariants.{Stepped}
use Rattle.object_model.specs.declared.settings.Settings.{Settings}
use Rattle.object_model.specs.Object.{kept_words}
use Rattle.store_model.specs.Store.{Store, counted_words}
use Rattle.store_model.specs.Roots.{is_kept}
use Rattle.store_model.specs.Reach.{Tells, objects_where, IsRetained}
use Rattle.store_model.specs.MinorCollection.{MinorCollection}
use Rattle.store_model.specs.Collections.{When, is_scanning, Cycle, Collect}

-- The last cycle of a whole collection: a cycle that runs ends first, and then a minor collection leads to the store where marking begins.
pub record LastCycle (settings : Settings) (old : Store) (lines : List Line) (began new : Store) : Type 0 where
  pub mid : Store
  pub front : List Line
  pub minor : List Line
  pub rest : List Line
  pub ends : When (not (is_scanning old.phase)) (Cycle settings) old front mid
  pub collected : MinorCollection mid minor began
  pub whole : Cycle settings mid (minor ++ rest) new
  pub printed : lines ≡ front ++ (minor ++ rest)

-- The objects kept at its end are just those that were retained when its last cycle began, and so when the whole of it began.
pub record LeavesRetained (settings : Settings) (old : Store) (lines : List Line) (new : Store) : Type 0 where
  pub began : Store
  pub last : LastCycle settings old lines began new
  pub exactly : Tells (is_kept new.kept) (IsRetained began)
  pub as_before : Tells (is_kept new.kept) (IsRetained old)

-- the words of the retained objects, where a test tells these, and so many words more exceed the limit
pub record RetainedExceed (settings : Settings) (store : Store) (words : ℕ) : Type 0 where
  pub retained : ℕ → Bool
  pub tells : Tells retained (IsRetained store)
  pub exceeds : settings.limit < kept_words (objects_where store.kept retained) + words

-- whether a line tells of a major step
abbrev pub is_step_line : Line → Bool
is_step_line (Stepped from to) = true
is_step_line line = false

-- how many of the lines do
abbrev pub steps_told : List Line → ℕ
steps_told lines = length (filter is_step_line lines)

-- twice as many as increments in the counted words and units of sweeping in the births made so far, and eight more
abbrev pub most_steps : Settings → Store → ℕ
most_steps settings store = 2 * (counted_words store / settings.increment + (store.next - 1) / settings.sweep) + 8

-- a whole collection, with what it leaves and how many steps it has at most
pub record CollectsWhole (settings : Settings) (old : Store) (lines : List Line) (new : Store) : Type 0 where
  pub collects : Collect settings old lines new
  pub leaves : LeavesRetained settings old lines new
  pub few : steps_told lines ≤ most_steps settings old
