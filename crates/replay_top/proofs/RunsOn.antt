-- A run so far, and how it goes on.
use Rattle.std.proofs.Common.{ℕ, ◌+◌, List, [], ◌∷◌, ◌++◌, Option, Some, Ok}
use Rattle.std.specs.Io.KnownBytes.{Appends}
use Rattle.std.proofs.KnownBytes.{Appends-trans, Appends-nil}
use Rattle.text_model.specs.declared.item.Item.{Item}
use Rattle.text_model.specs.Units.{Said}
use Rattle.store_model.specs.Progress.{Progress, at_start}
use Rattle.store_model.specs.Transcript.{transcript_text}
use Rattle.script_convert.specs.declared.reader.ScriptReader.{ScriptReader}
use Rattle.script_convert.specs.Reader.{HandedOut}
use Rattle.session_core.specs.Seen.{SessionSeen}
use Rattle.heap_core.specs.Heap.{HeapSeen}
use Rattle.session_core.specs.Standing.{StandsAt}
use Rattle.store_model.specs.EndOfRun.{IsDone}
use Rattle.replay_top.specs.Units.{DoesUnit}
use Rattle.replay_top.proofs.DoneLaws.{IsDone-push, IsDone-none}

-- The units that were handed out are done.
pub record RunsOn (script rest before written : Option (List ℕ)) (reader : ScriptReader) (number : ℕ) (session : SessionSeen) (heap : HeapSeen) : Type 0 where
  pub units : List Said
  pub handed : HandedOut script rest reader units
  pub at : Progress
  pub text : List ℕ
  pub done : IsDone units text at
  pub appended : Appends before written text
  pub stands : StandsAt session heap at

-- one unit more
pub runs_on : (script rest rest_after before written written_after : Option (List ℕ)) (reader new : ScriptReader) (number : ℕ) (item : Item) (session session_after : SessionSeen) (heap heap_after : HeapSeen)
    (run : RunsOn script rest before written reader number session heap)
    → HandedOut script rest_after new (run.units ++ Ok (Some item) ∷ [])
    → DoesUnit run.at (Ok (Some item)) written written_after session_after heap_after
    → RunsOn script rest_after before written_after new (number + 1) session_after heap_after
runs_on script rest rest_after before written written_after reader new number item session session_after heap heap_after run handed does = record {
  units = run.units ++ Ok (Some item) ∷ [];
  handed = handed;
  at = does.after;
  text = run.text ++ transcript_text does.groups;
  done = IsDone-push run.units (Ok (Some item)) run.text run.at does.after does.groups run.done does.takes;
  appended = Appends-trans before written written_after run.text (transcript_text does.groups) run.appended does.text;
  stands = does.stands;
}

-- the beginning of a run
pub runs_from : (script rest written : Option (List ℕ)) (reader : ScriptReader) (session : SessionSeen) (heap : HeapSeen)
    → HandedOut script rest reader [] → StandsAt session heap at_start → RunsOn script rest written written reader 0 session heap
runs_from script rest written reader session heap handed stands = record {
  units = [];
  handed = handed;
  at = at_start;
  text = [];
  done = IsDone-none;
  appended = Appends-nil written;
  stands = stands;
}
