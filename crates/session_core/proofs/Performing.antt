-- What the calls of a heap do, and the lines that follow, are what the commands do.
use Rattle.std.proofs.Common.{◌≡◌, ℕ, Bool, true, false, List, [], ◌∷◌, ◌++◌, Option, Some, None, Result, Ok, Err, refl, sym, ap, ◌∙◌, subst, append-nil}
use Rattle.std.specs.Prelude.{OnOk, OnErr, IfErr}
use Rattle.text_model.specs.declared.command.Command.{Command}
use Rattle.text_model.specs.declared.line.Line.{Line}
use Rattle.store_model.specs.Store.{Store}
use Rattle.store_model.specs.Steps.{Does}
use Rattle.heap_core.specs.declared.fault.HeapFault.{HeapFault}
use Rattle.heap_core.specs.declared.fault.HeapFault.TheVariants.{OutOfMemory}
use Rattle.heap_core.specs.Heap.{HeapSeen, StandsFor}
use Rattle.heap_core.specs.Commands.{OfParts, Performs, fault_of}
use Rattle.session_core.specs.Standing.{KeepsFront}

-- a command that is done, whose lines are then appended
pub told : (old new : HeapSeen) (command same : Command) (before lines after : List Line) → command ≡ same → Performs old new same [] lines
    → after ≡ before ++ lines → Performs old new command before after
told old new command same before lines after is performs appended = rw is (record {
  setup = performs.setup;
  same_spent = performs.same_spent;
  lines = performs.lines;
  appended = appended ∙ ap (λ (l : List Line). before ++ l) performs.appended;
  does = performs.does;
})

-- a command that is done, and has no lines
pub quiet : (old new : HeapSeen) (command same : Command) (before : List Line) (r : Result (Unit {0}) HeapFault) → command ≡ same
    → OnOk r (Performs old new same [] []) → OnOk r (Performs old new command before before)
quiet old new command same before (Ok done) is performs = told old new command same before [] before is performs (sym (append-nil before))
quiet old new command same before (Err fault) is performs = tt

-- how a heap that is not spent fails
pub failed : (spent : Bool) {T : Type 0} (r : Result T HeapFault) → spent ≡ false → IfErr r (λ fault. fault ≡ fault_of spent) → IfErr r (λ fault. fault ≡ OutOfMemory)
failed spent (Ok x) is cause = tt
failed spent (Err fault) is cause = cause ∙ ap fault_of is

-- where lines stay as they are, they stand in front
pub front_same : {T : Type 0} (r : Result T HeapFault) (before after : List Line) → OnErr r (after ≡ before) → OnErr r (KeepsFront before after)
front_same (Ok x) before after same = tt
front_same (Err fault) before after same = ([], same ∙ sym (append-nil before))

pub front_refl : {T : Type 0} (r : Result T HeapFault) (lines : List Line) → OnErr r (KeepsFront lines lines)
front_refl (Ok x) lines = tt
front_refl (Err fault) lines = ([], sym (append-nil lines))
