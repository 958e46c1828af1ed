use Rattle.std.proofs.Common.{sym, ap, ◌∙◌}
use Rattle.text_model.specs.declared.item.Item.TheVariants.{Command as CommandItem}
use Rattle.session_core.specs.Standing.{fault_told}
use Rattle.session_core.proofs.Items.{can_do, does_command, leaves_item, found_begun, source_begun, type_begun}
use Rattle.session_core.proofs.Collecting.{answers_fault, fails_alive}
use Rattle.session_core.proofs.session.Session.command.Goals as goal

pub returns-in-Err : goal.returns-in-Err
returns-in-Err c = λ at stands.
    leaves_item c.args.self.now c.begin.new.self c.args.heap.now c.begin.new.heap at (CommandItem c.args.command.now) c.args.out.now.items
    c.run_fault.result (c.run_fault.ensures ∙ ap fault_told c.in-Err.ensures.cause) c.in-Err.ensures.err c.in-Err.ensures.err_heap stands

pub returns-in-Ok-do_command : goal.returns-in-Ok-do_command
returns-in-Ok-do_command c = λ at stands.
    does_command c.args.self.now c.begin.new.self c.args.heap.now c.begin.new.heap c.do_command.new.heap at c.args.command.now
    c.args.out.now.items c.do_command.new.out.items c.requires.accepted c.in-Ok.ensures.begins c.in-Ok-do_command.ensures stands

pub returns-in-Err-do_command : goal.returns-in-Err-do_command
returns-in-Err-do_command c = λ at stands.
    rw c.run_fault-in-Err-do_command.ensures
    (answers_fault c.args.self.now c.begin.new.self c.args.heap.now c.begin.new.heap c.do_command.new.heap at c.args.command.now c.in-Ok.ensures.begins stands
    c.args.out.now.items c.do_command.new.out.items c.in-Err-do_command.fault c.requires.accepted c.in-Err-do_command.ensures)

pub run_fault-requires-in-Err-do_command : goal.run_fault-requires-in-Err-do_command
run_fault-requires-in-Err-do_command c =
    fails_alive c.begin.new.heap c.do_command.new.heap c.args.command.now c.args.out.now.items c.do_command.new.out.items c.in-Err-do_command.fault c.in-Err-do_command.ensures

pub do_command-requires-clause-can : goal.do_command-requires-clause-can
do_command-requires-clause-can c =
    can_do c.args.self.now c.begin.new.self c.args.heap.now c.begin.new.heap c.args.command.now c.requires.accepted c.requires.placed c.in-Ok.ensures.begins

pub do_command-requires-clause-found : goal.do_command-requires-clause-found
do_command-requires-clause-found c =
    c.requires.found ∙ sym (found_begun c.args.self.now c.begin.new.self c.args.heap.now c.begin.new.heap c.args.command.now c.in-Ok.ensures.begins)

pub do_command-requires-clause-source : goal.do_command-requires-clause-source
do_command-requires-clause-source c =
    c.requires.source ∙ sym (source_begun c.args.self.now c.begin.new.self c.args.heap.now c.begin.new.heap c.args.command.now c.in-Ok.ensures.begins)

pub do_command-requires-clause-info : goal.do_command-requires-clause-info
do_command-requires-clause-info c =
    c.requires.info ∙ sym (type_begun c.args.self.now c.begin.new.self c.args.heap.now c.begin.new.heap c.args.command.now c.in-Ok.ensures.begins)
