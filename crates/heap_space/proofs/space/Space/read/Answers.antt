use Rattle.std.proofs.Common.{◌∙◌, sym, ap}
use Rattle.heap_space.specs.Memory.{Memory}
use Rattle.heap_space.specs.Places.{has, word_at}
use Rattle.heap_space.proofs.Seen.{has-full, word_at-full}
use Rattle.heap_space.proofs.space.Space.read.Goals as goal

pub read-requires : goal.read-requires
read-requires c =
    sym (has-full c.self.inside.areas.blocks c.args.a) ∙ ap (λ (m : Memory). has m.blocks c.args.a) c.self.view_is
    ∙ c.requires

pub returns : goal.returns
returns c =
    c.read.ensures ∙ sym (word_at-full c.self.inside.areas.blocks c.args.a)
    ∙ ap (λ (m : Memory). word_at m.blocks c.args.a) c.self.view_is
