use Rattle.std.proofs.Common.{◌∙◌, ap, arith}
use Rattle.heap_space.specs.Places.{lies_in_one}
use Rattle.heap_space.proofs.Blocks.{lies-with_word}
use Rattle.object_view.proofs.SpaceLaws.{lies-at}
use Rattle.object_view.proofs.InitLaws.{lies-part}
use Rattle.memory_tests.proofs.views.ones.Goals as goal

pub write-requires : goal.write-requires
write-requires c = lies-at c.loop-a.space.blocks 1 16 c.loop-a.a c.loop-a.invariant (omega (arith, c.loop-a.auto)) (omega (arith, c.loop-a-test.true))

pub loop-a-preserved : goal.loop-a-preserved
loop-a-preserved c = ap (λ m. lies_in_one m.blocks 1 16) c.write.ensures ∙ lies-with_word c.loop-a.space.blocks c.loop-a.a 1 1 16 ∙ c.loop-a.invariant

pub returns : goal.returns
returns c = lies-part c.loop-a.space.blocks 1 16 5 12 c.loop-a.invariant (omega arith) (omega arith)
