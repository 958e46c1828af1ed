use Rattle.std.proofs.Common.{◌+◌, ap, ◌∙◌, arith}
use Rattle.heap_space.specs.Memory.{Memory}
use Rattle.heap_space.specs.Places.{has, run_at}
use Rattle.heap_space.proofs.Blocks.{has-with_word, has-with_run}
use Rattle.object_view.proofs.SpaceLaws.{lies-at, lies-fits}
use Rattle.minor_collect.proofs.moves.move_words.Goals as goal

pub write-requires : goal.write-requires
write-requires c =
    let ps = c.args.space.now.blocks in
    ap (λ (m : Memory). has m.blocks c.args.p) c.copy_words.ensures ∙ (has-with_run ps c.args.a (run_at ps c.args.p c.args.n) c.args.p
    ∙ lies-at ps c.args.p c.args.n c.args.p c.requires.source (omega arith) (omega (arith, c.requires.n)))

pub overflow_add-p : goal.overflow_add-p
overflow_add-p c =
    let fits = (lies-fits c.args.space.now c.args.p c.args.n c.arena_words-ordered.ensures.ordered (omega (arith, c.requires.n)) c.requires.source).1 in
    omega (arith, fits, c.requires.n)

pub write-requires-2 : goal.write-requires-2
write-requires-2 c =
    let ps = c.args.space.now.blocks in
    ap (λ (m : Memory). has m.blocks (c.args.p + 1)) c.write.ensures ∙ (has-with_word c.copy_words.new.self.blocks c.args.p 18446744073709551615 (c.args.p + 1)
    ∙ (ap (λ (m : Memory). has m.blocks (c.args.p + 1)) c.copy_words.ensures ∙ (has-with_run ps c.args.a (run_at ps c.args.p c.args.n) (c.args.p + 1)
    ∙ lies-at ps c.args.p c.args.n (c.args.p + 1) c.requires.source (omega arith) (omega (arith, c.requires.n)))))

pub write-requires-3 : goal.write-requires-3
write-requires-3 c =
    let ps = c.args.space.now.blocks in
    ap (λ (m : Memory). has m.blocks c.args.a) c.write-2.ensures ∙ (has-with_word c.write.new.self.blocks (c.args.p + 1) c.args.a c.args.a
    ∙ (ap (λ (m : Memory). has m.blocks c.args.a) c.write.ensures ∙ (has-with_word c.copy_words.new.self.blocks c.args.p 18446744073709551615 c.args.a
    ∙ (ap (λ (m : Memory). has m.blocks c.args.a) c.copy_words.ensures ∙ (has-with_run ps c.args.a (run_at ps c.args.p c.args.n) c.args.a
    ∙ lies-at ps c.args.a c.args.n c.args.a c.requires.target (omega arith) (omega (arith, c.requires.n)))))))
