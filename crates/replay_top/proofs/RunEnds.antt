-- How a run ends.
use Rattle.std.proofs.Common.{◌≡◌, ℕ, ◌+◌, List, [], ◌∷◌, ◌++◌, length, Option, Some, None, Result, Ok, Err, refl, sym, ap, ◌∙◌, subst, inl, inr, append_assoc}
use Rattle.std.specs.Prelude.{IfSome}
use Rattle.std.specs.Io.KnownBytes.{Consumes, IsAtEnd}
use Rattle.std.proofs.KnownBytes.{Appends-trans, Appends-nil, Appends-kept}
use Rattle.text_model.specs.declared.item.Item.{Item}
use Rattle.text_model.specs.Units.{Said, units_of}
use Rattle.store_model.specs.Progress.{at_start}
use Rattle.store_model.specs.Transcript.{transcript_text}
use Rattle.script_text.specs.Mark.{BreaksMark}
use Rattle.script_convert.specs.declared.reader.UnitEnd.{UnitEnd}
use Rattle.script_convert.specs.declared.reader.UnitEnd.TheVariants.{Refused, ReadFault as UnitFault}
use Rattle.script_convert.specs.declared.reader.ScriptReader.{ScriptReader}
use Rattle.store_model.specs.WholeUnits.{PassesEnd, whole_units_of}
use Rattle.script_convert.specs.Reader.{HandedOut, MayRead, ReadsUnit}
use Rattle.script_convert.proofs.FormLaws.{handed_lead, handed_count}
use Rattle.script_convert.proofs.FormEnds.{whole_of_mark}
use Rattle.session_core.specs.Seen.{SessionSeen}
use Rattle.heap_core.specs.Heap.{HeapSeen, closed_heap}
use Rattle.session_core.specs.Standing.{HeapStandsAt}
use Rattle.session_core.proofs.Places.{heap_stands, heap_stands_first}
use Rattle.replay_top.specs.declared.line.Stop.{Stop}
use Rattle.replay_top.specs.declared.line.Stop.TheVariants.{Malformed, HeapLimit, OutOfMemory, ReadFault, WriteFault}
use Rattle.store_model.specs.EndOfRun.{Stands}
use Rattle.replay_top.specs.Units.{EndsUnit}
use Rattle.replay_top.specs.Run.{EndsRun, stop_of_unit}
use Rattle.replay_top.proofs.DoneLaws.{IsDone-none, IsDone-passed}
use Rattle.replay_top.proofs.RunsOn.{RunsOn}

stands_none : (written : Option (List ℕ)) (heap : HeapSeen) → heap ≡ closed_heap → Stands [] written written (HeapStandsAt heap)
stands_none written heap closed = rw closed (record { after = at_start; text = []; done = IsDone-none; appended = Appends-nil written; stands_for = heap_stands_first })

pub ends_unbegun : (script : Option (List ℕ)) (begun begun_after : Option ℕ) (rest written : Option (List ℕ)) (heap : HeapSeen) → begun_after ≡ begun → heap ≡ closed_heap
    → EndsRun script begun begun_after rest written written heap (Err ReadFault)
ends_unbegun None begun begun_after rest written heap same closed = tt
ends_unbegun (Some script) begun begun_after rest written heap same closed = record { taken = []; begins = inl (same, refl); stands = stands_none written heap closed }

pub ends_unread : (script : Option (List ℕ)) (begun begun_after : Option ℕ) (rest written : Option (List ℕ)) (heap : HeapSeen) (answer : Result (Unit {0}) Stop) → answer ≡ Err OutOfMemory → EndsRun script begun begun_after rest written written heap answer
ends_unread None begun begun_after rest written heap answer is = tt
ends_unread (Some script) begun begun_after rest written heap answer is =
    rw is (record { front = []; behind = units_of script; units = refl; after = at_start; text = []; done = IsDone-none; appended = Appends-nil written })

-- a read failed within the mark of a binary script
pub ends_marking : (script begun_rest : Option (List ℕ)) (begun begun_after : Option ℕ) (rest written : Option (List ℕ)) (heap : HeapSeen) → begun_rest ≡ script
    → heap ≡ closed_heap → BreaksMark begun_rest rest → EndsRun script begun begun_after rest written written heap (Err ReadFault)
ends_marking None begun_rest begun begun_after rest written heap same closed broken = tt
ends_marking (Some script) begun_rest begun begun_after rest written heap same closed broken = record {
  taken = broken.part;
  begins = inr (subst (λ before. Consumes before rest broken.part) same broken.taken);
  stands = subst (λ units. Stands units written written (HeapStandsAt heap)) (sym (whole_of_mark begun_rest rest broken)) (stands_none written heap closed);
}

stands_now : (script rest before written : Option (List ℕ)) (reader : ScriptReader) (number : ℕ) (session : SessionSeen) (heap : HeapSeen) (passed : List Said)
    → (run : RunsOn script rest before written reader number session heap) → PassesEnd run.units passed → Stands passed before written (HeapStandsAt heap)
stands_now script rest before written reader number session heap passed run passes =
    record { after = run.at; text = run.text; done = IsDone-passed run.units passed run.text run.at run.done passes; appended = run.appended; stands_for = heap_stands session heap run.at run.stands }

pub ends_done : (script : Option (List ℕ)) (begun begun_after : Option ℕ) (rest rest_after before written : Option (List ℕ)) (reader : ScriptReader) (number : ℕ) (session : SessionSeen) (heap : HeapSeen)
    → (run : RunsOn script rest before written reader number session heap) → IfSome script (λ bytes. PassesEnd run.units (units_of bytes)) → IsAtEnd rest_after
    → EndsRun script begun begun_after rest_after before written heap (Ok tt)
ends_done None begun begun_after rest rest_after before written reader number session heap run passes end = tt
ends_done (Some script) begun begun_after rest rest_after before written reader number session heap run passes end =
    (stands_now (Some script) rest before written reader number session heap (units_of script) run passes, end)

-- a unit is not read
pub ends_reading : (script : Option (List ℕ)) (begun begun_after : Option ℕ) (rest rest_after before written : Option (List ℕ)) (reader : ScriptReader) (number : ℕ) (session : SessionSeen) (heap : HeapSeen)
    (handed_after : List Said → Type 0) (end : UnitEnd) (stop : Stop) → (run : RunsOn script rest before written reader number session heap)
    → ReadsUnit script rest_after handed_after run.units (Err end) → stop ≡ stop_of_unit end → EndsRun script begun begun_after rest_after before written heap (Err stop)
ends_reading None begun begun_after rest rest_after before written reader number session heap handed_after end stop run reads is = tt
ends_reading (Some script) begun begun_after rest rest_after before written reader number session heap handed_after (Refused k why) stop run reads is =
    rw is (record {
      front = reads.front;
      unit = Err why;
      behind = reads.behind;
      units = reads.units_are;
      number = reads.number;
      stands = stands_now (Some script) rest before written reader number session heap reads.front run reads.passes;
      refused = inl refl;
    })
ends_reading (Some script) begun begun_after rest rest_after before written reader number session heap handed_after UnitFault stop run reads is =
    rw is (record {
      taken = reads.taken;
      begins = inr reads.begins;
      stands = stands_now (Some script) rest before written reader number session heap (whole_units_of reads.taken) run (inl reads.whole);
    })

ends_by : (script : List ℕ) (begun begun_after : Option ℕ) (rest rest_after before written written_after : Option (List ℕ)) (reader : ScriptReader) (number : ℕ) (unit : Said) (behind : List Said) (session session_after : SessionSeen) (heap heap_after : HeapSeen) (stop : Stop)
    (run : RunsOn (Some script) rest before written reader number session heap) → units_of script ≡ run.units ++ unit ∷ behind → number ≡ length run.units
    → EndsUnit run.at (number + 1) unit written written_after session_after heap_after (Err stop)
    → EndsRun (Some script) begun begun_after rest_after before written_after heap_after (Err stop)
ends_by script begun begun_after rest rest_after before written written_after reader number unit behind session session_after heap heap_after (Malformed k reason) run units counted ends = record {
  front = run.units;
  unit = unit;
  behind = behind;
  units = units;
  number = ends.0 ∙ ap (λ n. n + 1) counted;
  stands = record { after = run.at; text = run.text; done = run.done; appended = Appends-kept before written written_after run.text run.appended ends.2; stands_for = heap_stands session_after heap_after run.at ends.3 };
  refused = ends.1;
}
ends_by script begun begun_after rest rest_after before written written_after reader number unit behind session session_after heap heap_after (HeapLimit k counted_words request limit) run units counted ends =
    let e = ends.1 in
    record {
      stops = record {
        front = run.units;
        unit = unit;
        behind = behind;
        units = units;
        number = ends.0 ∙ ap (λ n. n + 1) counted;
        mid = run.at;
        text = run.text;
        done = run.done;
        groups = e.groups;
        after = e.after;
        exceeds = e.exceeds;
        appended = Appends-trans before written written_after run.text (transcript_text e.groups) run.appended e.text;
        stands_for = heap_stands session_after heap_after e.after e.stands;
      };
      retained = e.retained;
    }
ends_by script begun begun_after rest rest_after before written written_after reader number unit behind session session_after heap heap_after ReadFault run units counted ends = absurd ends
ends_by script begun begun_after rest rest_after before written written_after reader number unit behind session session_after heap heap_after WriteFault run units counted ends = record {
  front = run.units;
  unit = unit;
  behind = behind;
  units = units;
  mid = run.at;
  text = run.text;
  done = run.done;
  groups = ends.groups;
  after = ends.after;
  adds = ends.adds;
  part = ends.text.part;
  cut = ends.text.rest;
  parts = ends.text.piece_is;
  some = ends.text.some;
  appended = Appends-trans before written written_after run.text ends.text.part run.appended ends.text.written;
  stands_for = heap_stands session_after heap_after ends.after ends.stands;
}
ends_by script begun begun_after rest rest_after before written written_after reader number unit behind session session_after heap heap_after OutOfMemory run units counted ends = record {
  front = run.units;
  behind = unit ∷ behind;
  units = units;
  after = run.at;
  text = run.text;
  done = run.done;
  appended = Appends-kept before written written_after run.text run.appended ends;
}

-- a unit ends the run
pub ends_unit : (script : Option (List ℕ)) (begun begun_after : Option ℕ) (rest rest_after before written written_after : Option (List ℕ)) (reader new : ScriptReader) (number : ℕ) (item : Item) (session session_after : SessionSeen) (heap heap_after : HeapSeen) (stop : Stop)
    (run : RunsOn script rest before written reader number session heap)
    → HandedOut script rest_after new (run.units ++ Ok (Some item) ∷ []) → MayRead reader rest number
    → EndsUnit run.at (number + 1) (Ok (Some item)) written written_after session_after heap_after (Err stop)
    → EndsRun script begun begun_after rest_after before written_after heap_after (Err stop)
ends_unit None begun begun_after rest rest_after before written written_after reader new number item session session_after heap heap_after stop run handed may ends = tt
ends_unit (Some script) begun begun_after rest rest_after before written written_after reader new number item session session_after heap heap_after stop run handed may ends =
    let next = handed_lead script rest_after new (run.units ++ Ok (Some item) ∷ []) handed in
    ends_by script begun begun_after rest rest_after before written written_after reader number (Ok (Some item)) next.0 session session_after heap heap_after stop run
    (next.1 ∙ append_assoc run.units (Ok (Some item) ∷ []) next.0) (handed_count (Some script) rest reader number run.units run.handed may) ends
