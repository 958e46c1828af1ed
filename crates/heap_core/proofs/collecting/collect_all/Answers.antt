use Rattle.collect_laws.proofs.BlockLaws.{told_into}
use Rattle.collect_laws.proofs.CommandLaws.{collect_does}
use Rattle.heap_core.proofs.BearLaws.{on_ok}
use Rattle.heap_core.proofs.RoomCalls.{appended_ok, appends_event}
use Rattle.heap_core.proofs.collecting.collect_all.Goals as goal

pub returns-clause-does : goal.returns-clause-does
returns-clause-does c =
    on_ok c.append.result (λ told. appends_event (told_into (collect_does c.in_ok-make_cycles.ensures) c.clear.ensures.items told)) (appended_ok c.append.result c.append.new.self.items c.args.out.now.items _ c.append.ensures.items)
