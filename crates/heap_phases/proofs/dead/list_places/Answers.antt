use Rattle.std.proofs.Common.{ℕ, rules, of_calls}
use Rattle.std.proofs.lemmas.Iterator.{YieldsList-from_slice, YieldsList-from_map}
use Rattle.std.proofs.lemmas.Iterator.Adapters.{items_from_extend}
use Rattle.heap_phases.proofs.dead.list_places.Goals as goal

pub returns : goal.returns
returns c =
    let h = items_from_extend c.extend.result c.extend.ensures.ran (YieldsList-from_map _ (λ (x : ℕ × ℕ). x.0) (YieldsList-from_slice c.args.blocks.now cc) (cc) (λ x r q k. search (rules, of_calls))) in search rules
