use Rattle.text_model.specs.declared.command.Command.TheVariants.{Collect}
use Rattle.heap_core.specs.declared.heap.State.TheVariants.{Started}
use Rattle.heap_core.proofs.Calls.{in_state}
use Rattle.heap_core.proofs.CollectingCalls.{Collected, collected}
use Rattle.heap_core.proofs.RetainedCalls.{leaves_retained}
use Rattle.heap_core.proofs.heap.Heap.collect.Goals as goal

pub returns-in-Started-clause-performs : goal.returns-in-Started-clause-performs
returns-in-Started-clause-performs c =
    (collected c.args.self.now c.end.new.self c.in-Started.parts c.collect_all-ended.new.parts Collect c.args.out.now.items c.collect_all-ended.new.out.items c.collect_all-ended.result c.end.result
    (in_state c.args.self.now c.self.inside.state (Started c.in-Started.parts) c.self.view_is c.in-Started.is) c.collect_all-ended.ensures.does c.collect_all-ended.ensures.err_out c.end.ensures).performs

pub returns-in-Started-clause-err : goal.returns-in-Started-clause-err
returns-in-Started-clause-err c =
    (collected c.args.self.now c.end.new.self c.in-Started.parts c.collect_all-ended.new.parts Collect c.args.out.now.items c.collect_all-ended.new.out.items c.collect_all-ended.result c.end.result
    (in_state c.args.self.now c.self.inside.state (Started c.in-Started.parts) c.self.view_is c.in-Started.is) c.collect_all-ended.ensures.does c.collect_all-ended.ensures.err_out c.end.ensures).err

pub returns-in-Started-clause-err_out : goal.returns-in-Started-clause-err_out
returns-in-Started-clause-err_out c =
    (collected c.args.self.now c.end.new.self c.in-Started.parts c.collect_all-ended.new.parts Collect c.args.out.now.items c.collect_all-ended.new.out.items c.collect_all-ended.result c.end.result
    (in_state c.args.self.now c.self.inside.state (Started c.in-Started.parts) c.self.view_is c.in-Started.is) c.collect_all-ended.ensures.does c.collect_all-ended.ensures.err_out c.end.ensures).err_out

pub returns-in-Started-clause-cause : goal.returns-in-Started-clause-cause
returns-in-Started-clause-cause c =
    (collected c.args.self.now c.end.new.self c.in-Started.parts c.collect_all-ended.new.parts Collect c.args.out.now.items c.collect_all-ended.new.out.items c.collect_all-ended.result c.end.result
    (in_state c.args.self.now c.self.inside.state (Started c.in-Started.parts) c.self.view_is c.in-Started.is) c.collect_all-ended.ensures.does c.collect_all-ended.ensures.err_out c.end.ensures).cause

pub returns-in-Started-clause-retained : goal.returns-in-Started-clause-retained
returns-in-Started-clause-retained c =
    leaves_retained c.args.self.now c.end.new.self c.args.out.now.items c.collect_all-ended.new.out.items c.end.result
    (collected c.args.self.now c.end.new.self c.in-Started.parts c.collect_all-ended.new.parts Collect c.args.out.now.items c.collect_all-ended.new.out.items c.collect_all-ended.result c.end.result
    (in_state c.args.self.now c.self.inside.state (Started c.in-Started.parts) c.self.view_is c.in-Started.is) c.collect_all-ended.ensures.does c.collect_all-ended.ensures.err_out c.end.ensures).performs
