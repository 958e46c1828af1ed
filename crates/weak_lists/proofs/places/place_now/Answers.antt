use Rattle.std.proofs.Common.{sym, ◌∙◌, arith}
use Rattle.weak_lists.proofs.PlaceLaws.{has-two, place-read}
use Rattle.weak_lists.proofs.places.place_now.Goals as goal

pub read-requires : goal.read-requires
read-requires c = (has-two c.args.space.now c.args.a c.arena_words-ordered.ensures.ordered c.requires).first

pub overflow_add-a : goal.overflow_add-a
overflow_add-a c = let two = has-two c.args.space.now c.args.a c.arena_words-ordered.ensures.ordered c.requires in omega (arith, two.fits)

pub read-requires-then-read : goal.read-requires-then-read
read-requires-then-read c = (has-two c.args.space.now c.args.a c.arena_words-ordered.ensures.ordered c.requires).second

pub returns-then-read : goal.returns-then-read
returns-then-read c =
    place-read c.args.space.now c.args.a c.read-then-read.result c.arena_words-ordered.ensures.ordered c.requires (sym c.read.ensures ∙ c.if-read.true) c.read-then-read.ensures
