use Rattle.std.proofs.Common.{◌≡◌, ◌++◌, take}
use Rattle.text_model.specs.ItemText.{decimals}
use Rattle.script_text.specs.Printing.{spaced}
use Rattle.script_text.proofs.print.print_numbers.Given as goal

abbrev pub invariant-loop-number : goal.invariant-loop-number
invariant-loop-number l = l.out.items ≡ l.fn.out.items ++ spaced (decimals (take l.number-index l.numbers))
