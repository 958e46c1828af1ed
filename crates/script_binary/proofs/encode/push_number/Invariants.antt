use Rattle.script_binary.proofs.Spelling.{IsLeft}
use Rattle.script_binary.proofs.encode.push_number.Given as goal

-- what is left of the number is to be spelled behind what stands there
abbrev pub invariant-loop-rest : goal.invariant-loop-rest
invariant-loop-rest l = IsLeft l.fn.out.items l.out.items l.number l.rest

abbrev pub decreases-loop-rest : goal.decreases-loop-rest
decreases-loop-rest l = l.rest
