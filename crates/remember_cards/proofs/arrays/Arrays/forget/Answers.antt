use Rattle.remember_cards.specs.Entries.{marks_in}
use Rattle.remember_cards.proofs.TableLaws.{forgotten_more}
use Rattle.remember_cards.proofs.arrays.Arrays.forget.Goals as goal

pub loop-place-preserved : goal.loop-place-preserved
loop-place-preserved c = λ place.
    forgotten_more (marks_in c.loop-place.self) (marks_in c.remove.new.self) c.args.places.now c.loop-place.place-index place (marks_in c.args.self.now place)
    c.loop-place-test.true c.remove.ensures (c.loop-place.invariant place)
