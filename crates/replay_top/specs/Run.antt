-- What stands when a run ends, by its answer.
use Rattle.std.specs.Prelude.{ℕ, List, Option, Some, None, Result, Ok, Err, ⊤}
use Rattle.std.specs.Io.KnownBytes.{IsAtEnd}
use Rattle.text_model.specs.Units.{units_of}
use Rattle.script_convert.specs.declared.end.ConvertEnd.{ConvertEnd}
use Rattle.script_convert.specs.declared.end.ConvertEnd.TheVariants as convert
use Rattle.script_convert.specs.declared.reader.UnitEnd.{UnitEnd}
use Rattle.script_convert.specs.declared.reader.UnitEnd.TheVariants as unit
use Rattle.replay_bench.specs.declared.top.BenchEnd.{BenchEnd}
use Rattle.replay_bench.specs.declared.top.BenchEnd.TheVariants as bench
use Rattle.replay_top.specs.declared.line.Stop.{Stop}
use Rattle.replay_top.specs.declared.line.Stop.TheVariants.{Malformed, HeapLimit, OutOfMemory, ReadFault, WriteFault}
use Rattle.store_model.specs.CollectionBounds.{RetainedExceed}
use Rattle.store_model.specs.EndOfRun.{Stands, StopsAt, StopsAtLimit, StopsReading, StopsWriting, StopsSomewhere}
use Rattle.heap_core.specs.Heap.{HeapSeen}
use Rattle.session_core.specs.Standing.{HeapStandsAt}

-- how a run stops where a unit is not read
abbrev pub stop_of_unit : UnitEnd → Stop
stop_of_unit (unit.Refused k reason) = Malformed k reason
stop_of_unit unit.ReadFault = ReadFault

-- how a run stops where a conversion does
abbrev pub stop_of_convert : ConvertEnd → Stop
stop_of_convert (convert.Malformed k reason) = Malformed k reason
stop_of_convert convert.ReadFault = ReadFault
stop_of_convert convert.WriteFault = WriteFault
stop_of_convert convert.OutOfMemory = OutOfMemory

-- how a run stops where there is no summary of a generated script
abbrev pub stop_of_bench : BenchEnd → Stop
stop_of_bench bench.OutOfMemory = OutOfMemory
stop_of_bench bench.WriteFault = WriteFault

-- The limit stops a run, since the words of what is retained before the birth that it refuses, and those asked for, exceed it.
pub record StopsForRetained (script : List ℕ) (before written : Option (List ℕ)) (heap : HeapSeen) (k counted request limit : ℕ) : Type 0 where
  pub stops : StopsAtLimit script before written (HeapStandsAt heap) k counted request limit
  pub retained : RetainedExceed stops.mid.setup.settings stops.mid.store request

-- What stands by the answer, where the bytes of the file are told. `begun` and `begun_after` count the files that were begun, and
-- `rest` is what is left of the file.
abbrev pub EndsRun : Option (List ℕ) → Option ℕ → Option ℕ → Option (List ℕ) → Option (List ℕ) → Option (List ℕ) → HeapSeen → Result (Unit {0}) Stop → Type 0
EndsRun None begun begun_after rest before written heap answer = ⊤
EndsRun (Some script) begun begun_after rest before written heap (Ok done) = Stands (units_of script) before written (HeapStandsAt heap) × IsAtEnd rest
EndsRun (Some script) begun begun_after rest before written heap (Err (Malformed k reason)) = StopsAt script before written (HeapStandsAt heap) k reason
EndsRun (Some script) begun begun_after rest before written heap (Err (HeapLimit k counted request limit)) =
    StopsForRetained script before written heap k counted request limit
EndsRun (Some script) begun begun_after rest before written heap (Err ReadFault) =
    StopsReading script begun begun_after rest before written (HeapStandsAt heap)
EndsRun (Some script) begun begun_after rest before written heap (Err WriteFault) = StopsWriting script before written (HeapStandsAt heap)
EndsRun (Some script) begun begun_after rest before written heap (Err OutOfMemory) = StopsSomewhere script before written
