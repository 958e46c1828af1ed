use Rattle.std.proofs.Common.{◌≡◌, ◌++◌, map, take}
use Rattle.text_model.specs.declared.line.Line.TheVariants.{Cleared}
use Rattle.minor_collect.proofs.telling.tell_cleared.Given as goal

abbrev pub invariant-loop-birth : goal.invariant-loop-birth
invariant-loop-birth l = l.events.items ≡ l.fn.events.items ++ map (λ birth. Cleared birth) (take l.birth-index l.births)
