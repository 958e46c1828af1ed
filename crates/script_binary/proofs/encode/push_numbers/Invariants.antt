use Rattle.std.proofs.Common.{◌≡◌, ◌++◌, take}
use Rattle.text_model.specs.Binary.{numbers_bytes}
use Rattle.script_binary.proofs.encode.push_numbers.Given as goal

abbrev pub invariant-loop-number : goal.invariant-loop-number
invariant-loop-number l = l.out.items ≡ l.fn.out.items ++ numbers_bytes (take l.number-index l.numbers)
