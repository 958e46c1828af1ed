-- What stands when a script of these items was done for its summary.
use Rattle.std.specs.Prelude.{ℕ, List, Option, Result, Ok, Err}
use Rattle.std.specs.Io.KnownBytes.{Appends, Keeps}
use Rattle.text_model.specs.declared.item.Item.{Item}
use Rattle.store_model.specs.Progress.{Progress, at_start}
use Rattle.store_model.specs.Transcript.{Group, Runs}
use Rattle.heap_core.specs.Heap.{HeapSeen}
use Rattle.session_core.specs.Standing.{HeapStandsAt}
use Rattle.replay_bench.specs.declared.top.BenchEnd.{BenchEnd}
use Rattle.replay_bench.specs.declared.top.BenchEnd.TheVariants.{OutOfMemory, WriteFault}
use Rattle.replay_bench.specs.Summary.{summary_text}
use Rattle.script_convert.specs.Written.{WritesPart}

-- The items are done with a transcript that the store allows, something holds of its summary, and the heap stands for its store.
pub record Summarizes (items : List Item) (heap : HeapSeen) (Says : List ℕ → Type 0) : Type 0 where
  pub groups : List Group
  pub after : Progress
  pub runs : Runs at_start items groups after
  pub says : Says (summary_text groups after.store)
  pub stands : HeapStandsAt heap after

-- What stands by the answer: the summary was written, or at a write fault a part of it, and else nothing.
abbrev pub EndsBench : List Item → Option (List ℕ) → Option (List ℕ) → HeapSeen → Result (Unit {0}) BenchEnd → Type 0
EndsBench items before written heap (Ok done) = Summarizes items heap (Appends before written)
EndsBench items before written heap (Err OutOfMemory) = Keeps before written
EndsBench items before written heap (Err WriteFault) = Summarizes items heap (WritesPart before written)
