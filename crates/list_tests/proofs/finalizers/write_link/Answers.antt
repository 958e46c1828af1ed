use Rattle.std.proofs.Common.{◌+◌, ap, ◌∙◌, arith}
use Rattle.heap_space.specs.Memory.{Memory}
use Rattle.heap_space.specs.Places.{has}
use Rattle.heap_space.proofs.Blocks.{has-with_word}
use Rattle.object_view.proofs.SpaceLaws.{lies-at}
use Rattle.list_tests.proofs.finalizers.write_link.Goals as goal

pub write-requires : goal.write-requires
write-requires c = lies-at c.args.space.now.blocks c.args.a 3 c.args.a c.requires.room (omega arith) (omega arith)

pub write-requires-2 : goal.write-requires-2
write-requires-2 c =
    ap (λ (m : Memory). has m.blocks (c.args.a + 1)) c.write.ensures
    ∙ has-with_word c.args.space.now.blocks c.args.a 7 (c.args.a + 1)
    ∙ lies-at c.args.space.now.blocks c.args.a 3 (c.args.a + 1) c.requires.room (omega arith) (omega arith)

pub write-requires-3 : goal.write-requires-3
write-requires-3 c =
    ap (λ (m : Memory). has m.blocks (c.args.a + 2)) c.write-2.ensures
    ∙ has-with_word c.write.new.self.blocks (c.args.a + 1) c.args.birth (c.args.a + 2)
    ∙ ap (λ (m : Memory). has m.blocks (c.args.a + 2)) c.write.ensures
    ∙ has-with_word c.args.space.now.blocks c.args.a 7 (c.args.a + 2)
    ∙ lies-at c.args.space.now.blocks c.args.a 3 (c.args.a + 2) c.requires.room (omega arith) (omega arith)
