use Rattle.std.proofs.Common.{sym, ◌∙◌}
use Rattle.collect_laws.proofs.CycleLaws.{collects_once, collects_twice}
use Rattle.heap_core.proofs.BearLaws.{on_ok}
use Rattle.heap_core.proofs.RoomCalls.{standing_after, scanning_of, other_than_scanning}
use Rattle.heap_core.proofs.collecting.make_cycles.Goals as goal

pub returns-then-is_scanning : goal.returns-then-is_scanning
returns-then-is_scanning c =
    on_ok c.make_cycle.result (λ cycle. collects_once (scanning_of c.args.parts.now.phase (sym c.is_scanning.ensures ∙ c.if-is_scanning.true)) cycle) c.make_cycle.ensures

pub make_cycle-requires-3 : goal.make_cycle-requires-3
make_cycle-requires-3 c = standing_after c.in_ok-make_cycle.ensures c.requires

pub returns : goal.returns
returns c =
    on_ok c.make_cycle-3.result (λ cycle. collects_twice (other_than_scanning c.args.parts.now.phase (sym c.is_scanning.ensures ∙ c.if-is_scanning.false)) c.in_ok-make_cycle.ensures cycle)
    c.make_cycle-3.ensures
