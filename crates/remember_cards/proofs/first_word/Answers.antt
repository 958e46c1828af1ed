use Rattle.std.proofs.Common.{List, ap}
use Rattle.heap_space.specs.Places.{Placed}
use Rattle.remember_cards.proofs.HeadLaws.{with_word-same}
use Rattle.remember_cards.proofs.first_word.Goals as goal

pub returns-clause-same : goal.returns-clause-same
returns-clause-same c =
    let m = c.args.space.now in
    ap (λ (ps : List Placed). record m { blocks = ps }) (with_word-same 1 m.next_large c.args.a m.blocks c.arena_words.ensures.ordered.rises)
