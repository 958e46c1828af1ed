use Rattle.std.proofs.Common.{◌+◌, arith}
use Rattle.heap_space.specs.Places.{word_at}
use Rattle.object_view.proofs.ViewLaws.{has_length}
use Rattle.object_view.proofs.fields.length_of.Goals as goal

pub overflow_add-a : goal.overflow_add-a
overflow_add-a c =
    omega (arith, (has_length c.args.space.now c.args.shape c.args.a (word_at c.args.space.now.blocks (c.args.a + 2)) c.arena_words-ordered.ensures.ordered c.in-IntArray.is c.requires).fits)

pub read-requires : goal.read-requires
read-requires c =
    (has_length c.args.space.now c.args.shape c.args.a (word_at c.args.space.now.blocks (c.args.a + 2)) c.arena_words-ordered.ensures.ordered c.in-IntArray.is c.requires).place
