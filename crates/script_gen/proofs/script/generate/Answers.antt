use Rattle.std.proofs.Common.{List, ℕ, ◌++◌, ◌∙◌, ap, sym}
use Rattle.script_gen.proofs.AheadLaws.{header-bytes, prints-first}
use Rattle.script_gen.proofs.script.generate.Goals as goal

pub loop-command-init : goal.loop-command-init
loop-command-init c =
    prints-first c.args.out.now.items c.extend_from_slice.new.self.items c.args.start c.args.commands c.new-ahead.result
    (c.in_ok-extend_from_slice.ensures.items ∙ ap (λ (text : List ℕ). c.args.out.now.items ++ text) (sym header-bytes)) c.new-ahead.ensures
