use Rattle.std.proofs.Common.{◌∙◌, List, sym, ap}
use Rattle.heap_space.specs.Memory.{Memory}
use Rattle.heap_space.specs.Places.{Placed, has, with_word}
use Rattle.heap_space.specs.Seats.{seen}
use Rattle.heap_space.proofs.Seen.{has-full, with_word-full}
use Rattle.heap_space.proofs.space.Space.write.Goals as goal

pub write-requires : goal.write-requires
write-requires c =
    sym (has-full c.self.inside.areas.blocks c.args.a) ∙ ap (λ (m : Memory). has m.blocks c.args.a) c.self.view_is
    ∙ c.requires

pub returns : goal.returns
returns c =
    let areas = c.self.inside.areas in
    ap seen c.write.ensures
    ∙ ap (λ (ps : List Placed). record areas { blocks = ps }) (sym (with_word-full areas.blocks c.args.a c.args.v))
    ∙ ap (λ (m : Memory). record m { blocks = with_word m.blocks c.args.a c.args.v }) c.self.view_is
