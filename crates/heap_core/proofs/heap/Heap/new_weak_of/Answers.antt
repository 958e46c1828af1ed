use Rattle.std.proofs.Common.{ap, ◌∙◌}
use Rattle.text_model.specs.declared.command.Command.TheVariants.{NewWeak}
use Rattle.heap_core.specs.Heap.{HeapSeen}
use Rattle.heap_core.specs.Commands.{type_found}
use Rattle.heap_core.specs.declared.heap.State.TheVariants.{Started}
use Rattle.heap_core.proofs.Calls.{in_state}
use Rattle.heap_core.proofs.CollectingCalls.{answers_birth}
use Rattle.heap_core.proofs.RetainedCalls.{weak_retains}
use Rattle.heap_core.proofs.heap.Heap.new_weak_of.Goals as goal

pub returns-in-Started-clause-answers : goal.returns-in-Started-clause-answers
returns-in-Started-clause-answers c =
    answers_birth c.args.self.now c.end_birth.new.self c.in-Started.parts c.bear_weak-ended.new.parts (NewWeak c.args.root c.args.type_id c.args.target) c.args.out.now.items c.bear_weak-ended.new.out.items
    c.bear_weak-ended.result c.end_birth.result (in_state c.args.self.now c.self.inside.state (Started c.in-Started.parts) c.self.view_is c.in-Started.is) c.bear_weak-ended.ensures c.end_birth.ensures

pub returns-in-Started-clause-retained : goal.returns-in-Started-clause-retained
returns-in-Started-clause-retained c =
    weak_retains c.args.self.now c.end_birth.new.self c.args.out.now.items c.bear_weak-ended.new.out.items c.args.root c.args.type_id c.args.target c.end_birth.result
    (answers_birth c.args.self.now c.end_birth.new.self c.in-Started.parts c.bear_weak-ended.new.parts (NewWeak c.args.root c.args.type_id c.args.target) c.args.out.now.items c.bear_weak-ended.new.out.items
    c.bear_weak-ended.result c.end_birth.result (in_state c.args.self.now c.self.inside.state (Started c.in-Started.parts) c.self.view_is c.in-Started.is) c.bear_weak-ended.ensures c.end_birth.ensures)

pub bear_weak-ended-requires-clause-found : goal.bear_weak-ended-requires-clause-found
bear_weak-ended-requires-clause-found c =
    c.requires.found ∙ ap (λ (heap : HeapSeen). type_found heap.parts c.args.type_id)
    (in_state c.args.self.now c.self.inside.state (Started c.in-Started.parts) c.self.view_is c.in-Started.is)
