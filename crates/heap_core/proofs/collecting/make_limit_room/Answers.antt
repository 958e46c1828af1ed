use Rattle.std.proofs.Common.{refl, sym, ◌∙◌}
use Rattle.collect_laws.proofs.BlockLaws.{collect_comes, no_collect}
use Rattle.heap_core.proofs.BearLaws.{on_ok, on_err}
use Rattle.heap_core.proofs.collecting.make_limit_room.Goals as goal

pub returns-then-exceeds_limit-clause-makes : goal.returns-then-exceeds_limit-clause-makes
returns-then-exceeds_limit-clause-makes c =
    on_ok c.make_cycles.result (λ cycles. collect_comes c.args.words (sym c.exceeds_limit.ensures ∙ c.if-exceeds_limit.true) cycles) c.make_cycles.ensures

pub returns-then-exceeds_limit-clause-due : goal.returns-then-exceeds_limit-clause-due
returns-then-exceeds_limit-clause-due c = on_err c.make_cycles.result (sym c.exceeds_limit.ensures ∙ c.if-exceeds_limit.true)

pub returns-clause-makes : goal.returns-clause-makes
returns-clause-makes c = no_collect c.args.words (sym c.exceeds_limit.ensures ∙ c.if-exceeds_limit.false) refl refl
