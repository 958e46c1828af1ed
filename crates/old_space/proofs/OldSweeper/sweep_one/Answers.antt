use Rattle.std.proofs.Common.{arith}
use Rattle.std.proofs.lemmas.Result.{on_err_weaker}
use Rattle.old_space.proofs.StepLaws.{page-ready, page-step, page-less, page-error, block-step, block-less, block-error, stands-either, pages-told}
use Rattle.old_space.proofs.OldSweeper.sweep_one.Goals as goal

pub sweep_page-requires : goal.sweep_page-requires
sweep_page-requires c =
    let told = pages-told c.args.self.now _ _ c.requires.stands c.waiting.ensures in
    page-ready _ _ c.requires.stands (omega (arith, told, c.if-waiting-gt0.true))

pub returns-then-waiting-gt0-clause-step : goal.returns-then-waiting-gt0-clause-step
returns-then-waiting-gt0-clause-step c =
    let told = pages-told c.args.self.now _ _ c.requires.stands c.waiting.ensures in let to = c.sweep_page.ensures in
    page-step c.args.self.now _ _ _ _ _ c.sweep_page.result c.requires.stands (omega (arith, told, c.if-waiting-gt0.true)) to.swept to.arenas to.sizes

pub returns-then-waiting-gt0-clause-less : goal.returns-then-waiting-gt0-clause-less
returns-then-waiting-gt0-clause-less c =
    let told = pages-told c.args.self.now _ _ c.requires.stands c.waiting.ensures in let to = c.sweep_page.ensures in
    page-less c.args.self.now _ _ _ _ _ c.sweep_page.result c.requires.stands (omega (arith, told, c.if-waiting-gt0.true)) to.swept

pub returns-then-waiting-gt0-clause-stands : goal.returns-then-waiting-gt0-clause-stands
returns-then-waiting-gt0-clause-stands c =
    let told = pages-told c.args.self.now _ _ c.requires.stands c.waiting.ensures in let to = c.sweep_page.ensures in
    stands-either c.args.self.now _ _ _ _ _ c.sweep_page.result c.requires.stands c.requires.some
    (page-step c.args.self.now _ _ _ _ _ c.sweep_page.result c.requires.stands (omega (arith, told, c.if-waiting-gt0.true)) to.swept to.arenas to.sizes)
    (page-error _ _ c.sweep_page.result to.err) to.err_space

pub sweep_block-requires-clause-some : goal.sweep_block-requires-clause-some
sweep_block-requires-clause-some c =
    let told = pages-told c.args.self.now _ _ c.requires.stands c.waiting.ensures in
    omega (arith, told, c.if-waiting-gt0.false, c.requires.some)

pub returns-else-waiting-gt0-clause-step : goal.returns-else-waiting-gt0-clause-step
returns-else-waiting-gt0-clause-step c =
    let told = pages-told c.args.self.now _ _ c.requires.stands c.waiting.ensures in let to = c.sweep_block.ensures in
    block-step c.args.self.now _ _ _ _ _ c.sweep_block.result c.requires.stands (omega (arith, told, c.if-waiting-gt0.false)) c.requires.some
    c.arena_words-in_order.ensures.ordered to.swept to.space to.births to.outside

pub returns-else-waiting-gt0-clause-less : goal.returns-else-waiting-gt0-clause-less
returns-else-waiting-gt0-clause-less c =
    let told = pages-told c.args.self.now _ _ c.requires.stands c.waiting.ensures in let to = c.sweep_block.ensures in
    block-less c.args.self.now _ _ _ c.sweep_block.result c.requires.stands (omega (arith, told, c.if-waiting-gt0.false)) c.requires.some to.swept

pub returns-else-waiting-gt0-clause-stands : goal.returns-else-waiting-gt0-clause-stands
returns-else-waiting-gt0-clause-stands c =
    let told = pages-told c.args.self.now _ _ c.requires.stands c.waiting.ensures in let to = c.sweep_block.ensures in
    stands-either c.args.self.now _ _ _ _ _ c.sweep_block.result c.requires.stands c.requires.some
    (block-step c.args.self.now _ _ _ _ _ c.sweep_block.result c.requires.stands (omega (arith, told, c.if-waiting-gt0.false)) c.requires.some
    c.arena_words-in_order.ensures.ordered to.swept to.space to.births to.outside)
    (block-error _ _ c.sweep_block.result (on_err_weaker c.sweep_block.result (λ p. p.0) to.err)) (on_err_weaker c.sweep_block.result (λ p. p.1) to.err)
