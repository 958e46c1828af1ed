use Rattle.std.proofs.Common.{get_or, ap, ◌∙◌}
use Rattle.heap_space.specs.Places.{with_word}
use Rattle.object_header.specs.Words.{without_flag}
use Rattle.object_header.specs.declared.flags.Flag.TheVariants.{Order1}
use Rattle.finalizer_order.proofs.Steps.{has_next, changes_next}
use Rattle.finalizer_order.proofs.passes.set_chosen.Goals as goal

pub read-word-requires : goal.read-word-requires
read-word-requires c = has_next (λ word. without_flag word Order1) c.args.found.now c.loop-place.place-index c.args.space.now c.loop-place.space c.requires c.loop-place-test.true c.loop-place.invariant

pub write-requires : goal.write-requires
write-requires c = has_next (λ word. without_flag word Order1) c.args.found.now c.loop-place.place-index c.args.space.now c.loop-place.space c.requires c.loop-place-test.true c.loop-place.invariant

pub loop-place-preserved : goal.loop-place-preserved
loop-place-preserved c = changes_next (λ word. without_flag word Order1) c.args.found.now c.loop-place.place-index c.args.space.now c.loop-place.space c.write.new.self c.loop-place-test.true c.loop-place.invariant
    (c.write.ensures ∙ ap (λ w. record c.loop-place.space { blocks = with_word c.loop-place.space.blocks (get_or c.args.found.now c.loop-place.place-index 0) w }) (c.clear.ensures ∙ ap (λ w. without_flag w Order1) c.read-word.ensures))
