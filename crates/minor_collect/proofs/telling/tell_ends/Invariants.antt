use Rattle.std.proofs.Common.{◌≡◌, ◌++◌, map, take}
use Rattle.text_model.specs.declared.line.Line.TheVariants.{LinkCut}
use Rattle.minor_collect.proofs.telling.tell_ends.Given as goal

abbrev pub invariant-loop-end : goal.invariant-loop-end
invariant-loop-end l = l.events.items ≡ l.fn.events.items ++ map (λ end. LinkCut end) (take l.end-index l.ends)
