use Rattle.std.proofs.Common.{ap, ◌∙◌}
use Rattle.rawref_links.specs.Objects.{links_at}
use Rattle.rawref_links.proofs.CutSteps.{forgotten_more}
use Rattle.rawref_links.proofs.objects.Objects.forget.Goals as goal

pub loop-place-preserved : goal.loop-place-preserved
loop-place-preserved c = λ place.
    ap (λ t. links_at t place) c.remove.ensures
    ∙ forgotten_more c.loop-place.self c.args.places.now c.loop-place.place-index place (links_at c.args.self.now place) c.loop-place-test.true (c.loop-place.invariant place)
