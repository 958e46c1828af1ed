use Rattle.std.proofs.Common.{◌∙◌, ℕ, List, ap, sym}
use Rattle.heap_space.specs.Places.{Placed, with_run, run_at}
use Rattle.heap_space.proofs.Blocks.{with_run-nil}
use Rattle.heap_space.proofs.areas.Areas.copy_words.Goals as goal

pub returns-then-n-eq0 : goal.returns-then-n-eq0
returns-then-n-eq0 c =
    let old = c.args.self.now in
    let none = ap (λ (n : ℕ). with_run old.blocks c.args.to (run_at old.blocks c.args.from n)) c.if-n-eq0.true ∙ with_run-nil old.blocks c.args.to in
    ap (λ (ps : List Placed). record old { blocks = ps }) (sym none)
