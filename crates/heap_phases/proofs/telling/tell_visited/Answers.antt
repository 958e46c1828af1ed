use Rattle.std.proofs.Common.{rules, of_calls}
use Rattle.std.proofs.lemmas.Iterator.{YieldsList-from_slice, YieldsList-from_map}
use Rattle.std.proofs.lemmas.Iterator.Adapters.{items_from_extend}
use Rattle.text_model.specs.declared.line.Line.TheVariants.{Visited}
use Rattle.heap_phases.proofs.telling.tell_visited.Goals as goal

pub returns : goal.returns
returns c =
    let h = items_from_extend c.extend.result c.extend.ensures.ran (YieldsList-from_map _ (λ b. Visited b) (YieldsList-from_slice c.args.births.now cc) (cc) (λ x r q k. search (rules, of_calls))) in search rules
