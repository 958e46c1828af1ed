-- What came of a unit of the script that says an item, where a session and its heap stood.
use Rattle.std.specs.Prelude.{◌≡◌, ℕ, List, Option, Result, Ok, Err}
use Rattle.std.specs.Io.KnownBytes.{Appends, Keeps}
use Rattle.store_model.specs.Progress.{Progress}
use Rattle.store_model.specs.Transcript.{Group, transcript_text}
use Rattle.text_model.specs.Units.{Said}
use Rattle.script_convert.specs.Written.{WritesPart}
use Rattle.session_core.specs.Seen.{SessionSeen}
use Rattle.heap_core.specs.Heap.{HeapSeen}
use Rattle.session_core.specs.Standing.{StandsAt}
use Rattle.replay_top.specs.declared.line.Stop.{Stop}
use Rattle.replay_top.specs.declared.line.Stop.TheVariants.{Malformed, HeapLimit, OutOfMemory, ReadFault, WriteFault}
use Rattle.store_model.specs.CollectionBounds.{RetainedExceed}
use Rattle.store_model.specs.EndOfRun.{IsRefused, TakesUnit, ExceedsLimit, AddsGroups}

-- The unit was done, and its text is written.
pub record DoesUnit (at : Progress) (unit : Said) (before written : Option (List ℕ)) (session : SessionSeen) (heap : HeapSeen) : Type 0 where
  pub groups : List Group
  pub after : Progress
  pub takes : TakesUnit at unit groups after
  pub text : Appends before written (transcript_text groups)
  pub stands : StandsAt session heap after

-- The limit refused the unit with these numbers, since what was retained before it leaves no room, and the text of its collections is written.
pub record ExceedsUnit (at : Progress) (unit : Said) (counted request limit : ℕ) (before written : Option (List ℕ)) (session : SessionSeen) (heap : HeapSeen) : Type 0 where
  pub groups : List Group
  pub after : Progress
  pub exceeds : ExceedsLimit at unit counted request limit groups after
  pub retained : RetainedExceed at.setup.settings at.store request
  pub text : Appends before written (transcript_text groups)
  pub stands : StandsAt session heap after

-- The unit was done or refused by the limit, and a part of its text is written.
pub record CutsUnit (at : Progress) (unit : Said) (before written : Option (List ℕ)) (session : SessionSeen) (heap : HeapSeen) : Type 0 where
  pub groups : List Group
  pub after : Progress
  pub adds : AddsGroups at unit groups after
  pub text : WritesPart before written (transcript_text groups)
  pub stands : StandsAt session heap after

-- what came of unit k, by the answer
abbrev pub EndsUnit : Progress → ℕ → Said → Option (List ℕ) → Option (List ℕ) → SessionSeen → HeapSeen → Result (Unit {0}) Stop → Type 0
EndsUnit at k unit before written session heap (Ok done) = DoesUnit at unit before written session heap
EndsUnit at k unit before written session heap (Err (Malformed number reason)) =
    (number ≡ k) × IsRefused at unit reason × Keeps before written × StandsAt session heap at
EndsUnit at k unit before written session heap (Err (HeapLimit number counted request limit)) =
    (number ≡ k) × ExceedsUnit at unit counted request limit before written session heap
EndsUnit at k unit before written session heap (Err OutOfMemory) = Keeps before written
EndsUnit at k unit before written session heap (Err WriteFault) = CutsUnit at unit before written session heap
EndsUnit at k unit before written session heap (Err ReadFault) = ⊥
