use Rattle.std.proofs.Common.{◌∙◌, List, replicate, sym, ap}
use Rattle.heap_space.specs.Memory.{Memory}
use Rattle.heap_space.specs.Places.{Placed, lies_in_one, with_run}
use Rattle.heap_space.specs.Seats.{seen}
use Rattle.heap_space.proofs.Seen.{lies-full, with_run-full}
use Rattle.heap_space.proofs.space.Space.fill_zero.Goals as goal

pub fill_zero-requires : goal.fill_zero-requires
fill_zero-requires c =
    lies-full c.self.inside.areas.blocks c.args.a c.args.n
    (ap (λ (m : Memory). lies_in_one m.blocks c.args.a c.args.n) c.self.view_is ∙ c.requires)

pub returns : goal.returns
returns c =
    let areas = c.self.inside.areas in let zeros = replicate c.args.n 0 in
    ap seen c.fill_zero.ensures
    ∙ ap (λ (ps : List Placed). record areas { blocks = ps }) (sym (with_run-full areas.blocks c.args.a zeros))
    ∙ ap (λ (m : Memory). record m { blocks = with_run m.blocks c.args.a zeros }) c.self.view_is
