-- Calls of a heap that collect, and calls of births.
use Rattle.std.proofs.Common.{◌≡◌, ℕ, false, List, [], ◌++◌, Some, Result, Ok, Err, OnOk, OnErr, append-nil, refl, sym, ap, ◌∙◌, subst, inl, inr}
use Rattle.std.specs.Prelude.{IfErr}
use Rattle.std.specs.declared.alloc.AllocError.{AllocError}
use Rattle.text_model.specs.declared.command.Command.{Command}
use Rattle.text_model.specs.declared.line.Line.{Line}
use Rattle.heap_parts.specs.Parts.{HeapParts}
use Rattle.collect_laws.specs.Events.{Undergoes}
use Rattle.collect_laws.specs.Room.{IsCommandRefused}
use Rattle.collect_laws.proofs.TestLaws.{needs_in, exceeds_in}
use Rattle.heap_core.specs.declared.fault.HeapFault.{HeapFault}
use Rattle.heap_core.specs.declared.fault.HeapFault.TheVariants.{Spent, OutOfMemory, HeapLimit}
use Rattle.heap_core.specs.Heap.{HeapSeen, heap_of, spent_heap}
use Rattle.heap_core.specs.Commands.{Performs, fault_of}
use Rattle.heap_core.specs.Bearing.{PartsAppend}
use Rattle.heap_core.specs.Room.{LedByRoom, CollectsForCommand, EndsBirth}
use Rattle.heap_core.specs.HeapBirths.{Exceeds, LeavesBirth, BecomesSpent, AnswersBirth, EndsCall, EndsBirthCall}
use Rattle.heap_core.proofs.Calls.{performs_appended}

-- What a call that collects answers.
pub record Collected (now new : HeapSeen) (command : Command) (before after : List Line) (result : Result (Unit {0}) HeapFault) : Type 0 where
  pub performs : OnOk result (Performs now new command before after)
  pub err : OnErr result (new ≡ spent_heap)
  pub err_out : OnErr result (after ≡ before)
  pub cause : IfErr result (λ fault. fault ≡ fault_of now.is_spent)

pub collected : (now new : HeapSeen) (parts after : HeapParts) (command : Command) (before told : List Line) (ended : Result (Unit {0}) AllocError) (result : Result (Unit {0}) HeapFault)
    → now ≡ heap_of parts → OnOk ended (PartsAppend parts after command before told) → OnErr ended (told ≡ before) → EndsCall ended (heap_of after) new result
    → Collected now new command before told result
collected now new parts after command before told (Ok done) result is does err ends =
    subst (Collected now new command before told) (sym ends.0)
    (record { performs = performs_appended now new parts after command before told is ends.1 does; err = tt; err_out = tt; cause = tt })
collected now new parts after command before told (Err error) result is does err ends =
    subst (Collected now new command before told) (sym ends.0)
    (record { performs = tt; err = ends.1; err_out = err; cause = ap (λ (h : HeapSeen). fault_of h.is_spent) (sym is) })

-- of a birth no more was done than its collections
leaves_birth : (parts after : HeapParts) → LedByRoom parts after → LeavesBirth (heap_of parts) (heap_of after)
leaves_birth parts after led = record {
  setup = ap Some led.1.undergoes.setup;
  same_spent = refl;
  words = led.0;
  lines = led.1.undergoes.lines;
  leaves = λ store s. led.1.undergoes.leads store s;
}

-- the limit refuses it
exceeds_birth : (parts after : HeapParts) (command : Command) (counted request limit : ℕ) (before told : List Line)
    → Undergoes (IsCommandRefused command counted request limit) parts after before told → Exceeds (heap_of parts) (heap_of after) command counted request limit before told
exceeds_birth parts after command counted request limit before told u = record {
  setup = ap Some u.setup;
  same_spent = refl;
  lines = u.lines;
  appended = u.appended;
  exceeds = λ store s. u.leads store s;
}

-- memory ran out inside a collection, which was due in each store
becomes_spent : (parts : HeapParts) (new : HeapSeen) (command : Command) → new ≡ spent_heap → CollectsForCommand command parts → BecomesSpent command (heap_of parts) new
becomes_spent parts new command spent c = record {
  spent = spent;
  due = λ store s. record {
    words = c.words;
    asks = c.asks;
    due = elim c.collects [
      | inl needs ↦ inl (needs_in s c.words ∙ needs)
      | inr exceeds ↦ inr (exceeds_in s c.words ∙ exceeds)
    ];
  };
}

-- What the call of a birth answers.
answers_parts : (parts after : HeapParts) (new : HeapSeen) (command : Command) (before told : List Line) (ended result : Result (Unit {0}) HeapFault)
    → EndsBirth command parts after before told ended → EndsBirthCall ended (heap_of after) new result → AnswersBirth command (heap_of parts) new before told result
answers_parts parts after new command before told (Ok done) result b ends =
    subst (AnswersBirth command (heap_of parts) new before told) (sym ends.0) (performs_appended (heap_of parts) new parts after command before told refl ends.1 b)
answers_parts parts after new command before told (Err Spent) result b ends =
    subst (AnswersBirth command (heap_of parts) new before told) (sym ends.0) (refl, ([], b.0 ∙ sym (append-nil before)), inl (becomes_spent parts new command ends.1 b.1))
answers_parts parts after new command before told (Err OutOfMemory) result b ends =
    subst (AnswersBirth command (heap_of parts) new before told) (sym ends.0)
    (refl, b.0, inr (subst (LeavesBirth (heap_of parts)) (sym ends.1) (leaves_birth parts after b.1)))
answers_parts parts after new command before told (Err (HeapLimit counted request limit)) result b ends =
    subst (AnswersBirth command (heap_of parts) new before told) (sym ends.0)
    (refl, subst (λ (h : HeapSeen). Exceeds (heap_of parts) h command counted request limit before told) (sym ends.1) (exceeds_birth parts after command counted request limit before told b))

pub answers_birth : (now new : HeapSeen) (parts after : HeapParts) (command : Command) (before told : List Line) (ended result : Result (Unit {0}) HeapFault)
    → now ≡ heap_of parts → EndsBirth command parts after before told ended → EndsBirthCall ended (heap_of after) new result → AnswersBirth command now new before told result
answers_birth now new parts after command before told ended result is b ends =
    subst (λ (h : HeapSeen). AnswersBirth command h new before told result) (sym is) (answers_parts parts after new command before told ended result b ends)
