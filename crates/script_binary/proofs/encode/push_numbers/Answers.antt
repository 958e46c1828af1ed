use Rattle.script_binary.proofs.Spelling.{numbers_more}
use Rattle.script_binary.proofs.encode.push_numbers.Goals as goal

pub loop-number-preserved : goal.loop-number-preserved
loop-number-preserved c =
    numbers_more c.args.out.now.items c.loop-number.out.items c.push_number.new.out.items c.args.numbers.now c.loop-number.number-index
    c.loop-number-test.true c.loop-number.invariant c.in_ok-push_number.ensures.ok
