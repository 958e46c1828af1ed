-- The whole program: its words, its statuses and what it tells on errors.
use Rattle.std.specs.Prelude.{◌≡◌, ℕ, List, [], ◌∷◌, Option, Some, None, Result, Ok, Err, if◌then◌else◌, nat_lt, bytes_eq, codes, ◌⊎◌}
use Rattle.std.specs.Io.KnownBytes.{Appends}
use Rattle.heap_io.specs.Causes.{Rose}
use Rattle.store_model.specs.EndOfRun.{IsNeverRefused}
use Rattle.store_model.specs.ErrorText.{malformed_text, limit_text, memory_text, read_fault_text, write_fault_text}
use Rattle.script_convert.specs.declared.end.ConvertEnd.{ConvertEnd}
use Rattle.script_convert.specs.Convert.{Converts}
use Rattle.replay_top.specs.declared.line.Stop.{Stop}
use Rattle.replay_top.specs.declared.line.Stop.TheVariants as stops
use Rattle.replay_top.specs.declared.top.Status.{Status}
use Rattle.replay_top.specs.declared.top.Status.TheVariants as statuses
use Rattle.heap_core.specs.Heap.{HeapSeen}
use Rattle.script_convert.specs.Written.{WritesPart}
use Rattle.text_model.specs.declared.item.Item.{Item}
use Rattle.text_model.specs.Numbers.{number_of}
use Rattle.replay_bench.specs.declared.top.BenchEnd.{BenchEnd}
use Rattle.replay_bench.specs.Bench.{EndsBench}
use Rattle.replay_top.specs.Run.{EndsRun, stop_of_convert, stop_of_bench}

-- the name of the file, where the words are a command and that
abbrev pub named : List ℕ → List (List ℕ) → Option (List ℕ)
named command (word ∷ name ∷ []) = if bytes_eq word command then Some name else None
named command words = None

-- the name of the file, where the words are `replay FILE`
abbrev pub replayed : List (List ℕ) → Option (List ℕ)
replayed words = named (codes "replay") words

-- the name of the file, where the words are `convert FILE`
abbrev pub converted : List (List ℕ) → Option (List ℕ)
converted words = named (codes "convert") words

-- two numbers, of which the second is at most 100,000
abbrev pub with_count : Option ℕ → Option ℕ → Option (ℕ × ℕ)
with_count None count = None
with_count (Some start) None = None
with_count (Some start) (Some count) = if nat_lt 100000 count then None else Some (start, count)

-- the start and the count of a generated script, where the words are `bench START COUNT`
abbrev pub benched : List (List ℕ) → Option (ℕ × ℕ)
benched (word ∷ start ∷ count ∷ []) = if bytes_eq word (codes "bench") then with_count (number_of start) (number_of count) else None
benched words = None

-- of other words than the program takes
abbrev pub usage_text : List ℕ
usage_text = codes "usage: replay FILE, or bench START COUNT, or convert FILE\n"

-- what is told of a stop
abbrev pub stop_text : Stop → List ℕ
stop_text (stops.Malformed k reason) = malformed_text k reason
stop_text (stops.HeapLimit k counted request limit) = limit_text k counted request limit
stop_text stops.OutOfMemory = memory_text
stop_text stops.ReadFault = read_fault_text
stop_text stops.WriteFault = write_fault_text

-- what is told of an answer
abbrev pub answer_text : Result (Unit {0}) Stop → List ℕ
answer_text (Ok done) = []
answer_text (Err stop) = stop_text stop

abbrev pub stop_status : Stop → Status
stop_status (stops.Malformed k reason) = statuses.Malformed
stop_status (stops.HeapLimit k counted request limit) = statuses.HeapLimit
stop_status stops.OutOfMemory = statuses.OutOfMemory
stop_status stops.ReadFault = statuses.ReadFault
stop_status stops.WriteFault = statuses.WriteFault

abbrev pub answer_status : Result (Unit {0}) Stop → Status
answer_status (Ok done) = statuses.Done
answer_status (Err stop) = stop_status stop

-- the text was told, or a part of it where the count of faults rose
abbrev pub Tells : Option (List ℕ) → Option (List ℕ) → ℕ → ℕ → List ℕ → Type 0
Tells before told faults_before faults text = Appends before told text ⊎ (Rose faults_before faults × WritesPart before told text)

-- What stands after `replay FILE`, by the status: one answer of the replay has this status and this text.
pub record Replays (script : Option (List ℕ)) (begun begun_after : Option ℕ) (rest before written before_told told : Option (List ℕ)) (faults_before faults : ℕ) (heap : HeapSeen) (status : Status) : Type 0 where
  pub answer : Result (Unit {0}) Stop
  pub status_is : status ≡ answer_status answer
  pub ends : EndsRun script begun begun_after rest before written heap answer
  pub tells : Tells before_told told faults_before faults (answer_text answer)

-- what an answer of a conversion is to a run
abbrev pub answer_of_convert : Result (Unit {0}) ConvertEnd → Result (Unit {0}) Stop
answer_of_convert (Ok done) = Ok done
answer_of_convert (Err end) = Err (stop_of_convert end)

-- What stands after `convert FILE`, by the status: one answer of the conversion has this status and this text.
pub record RunsConvert (script : Option (List ℕ)) (begun begun_after : Option ℕ) (rest before written before_told told : Option (List ℕ)) (faults_before faults : ℕ) (status : Status) : Type 0 where
  pub answer : Result (Unit {0}) ConvertEnd
  pub status_is : status ≡ answer_status (answer_of_convert answer)
  pub converts : Converts script begun begun_after rest before written answer
  pub tells : Tells before_told told faults_before faults (answer_text (answer_of_convert answer))

-- what an answer for a generated script is to a run
abbrev pub answer_of_bench : Result (Unit {0}) BenchEnd → Result (Unit {0}) Stop
answer_of_bench (Ok done) = Ok done
answer_of_bench (Err end) = Err (stop_of_bench end)

-- What stands after `bench START COUNT`, by the status: one answer for the generated script has this status and this text.
pub record RunsBench (items : List Item) (before written before_told told : Option (List ℕ)) (faults_before faults : ℕ) (heap : HeapSeen) (status : Status) : Type 0 where
  pub answer : Result (Unit {0}) BenchEnd
  pub status_is : status ≡ answer_status (answer_of_bench answer)
  pub ends : EndsBench items before written heap answer
  pub tells : Tells before_told told faults_before faults (answer_text (answer_of_bench answer))

-- Where no unit is refused, nor by the limit, and no count of faults rose, the run comes to its end, or memory runs out.
abbrev pub IsComplete : Option (List ℕ) → Type 0 → Type 0 → Status → Type 0
IsComplete None read_rose write_rose status = Unit {0}
IsComplete (Some script) read_rose write_rose status =
    IsNeverRefused script → (read_rose → ⊥) → (write_rose → ⊥) → (status ≡ statuses.Done) ⊎ (status ≡ statuses.OutOfMemory)
