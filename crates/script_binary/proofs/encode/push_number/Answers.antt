use Rattle.std.proofs.Common.{refl, arith}
use Rattle.script_binary.proofs.Spelling.{left_all, left_more, left_last, left_kept, kept}
use Rattle.script_binary.proofs.encode.push_number.Goals as goal

pub loop-rest-init : goal.loop-rest-init
loop-rest-init c = left_all c.args.out.now.items c.args.number (omega arith)

pub returns-in_err-extend_from_slice-clause-err : goal.returns-in_err-extend_from_slice-clause-err
returns-in_err-extend_from_slice-clause-err c =
    kept c.from_residual.result c.args.out.now.items c.loop-rest.out.items c.extend_from_slice.new.self.items c.loop-rest.invariant.front
    c.in_err-extend_from_slice.ensures.items

pub loop-rest-preserved : goal.loop-rest-preserved
loop-rest-preserved c =
    left_more c.args.out.now.items c.loop-rest.out.items c.extend_from_slice.new.self.items c.args.number c.loop-rest.rest _ (omega arith) refl
    c.in_ok-extend_from_slice.ensures.items c.loop-rest.invariant

pub returns-clause-ok : goal.returns-clause-ok
returns-clause-ok c =
    left_last c.extend_from_slice-2.result c.args.out.now.items c.loop-rest.out.items c.extend_from_slice-2.new.self.items c.args.number c.loop-rest.rest _
    (omega arith) refl c.extend_from_slice-2.ensures.items c.loop-rest.invariant

pub returns-clause-err : goal.returns-clause-err
returns-clause-err c =
    left_kept c.extend_from_slice-2.result c.args.out.now.items c.loop-rest.out.items c.extend_from_slice-2.new.self.items c.args.number c.loop-rest.rest _
    c.extend_from_slice-2.ensures.items c.loop-rest.invariant
