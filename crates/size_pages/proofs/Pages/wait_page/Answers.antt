use Rattle.std.proofs.Common.{arith, ◌+◌, ◌∙◌, sym, subst}
use Rattle.size_pages.specs.Kinds.{kind_number}
use Rattle.size_pages.specs.Steps.{CanTakeOff}
use Rattle.size_pages.proofs.KindLaws.{class_list}
use Rattle.size_pages.proofs.QueueLaws.{wait_facts, wait_off, can_put_waiting, waits_more}
use Rattle.size_pages.proofs.Pages.wait_page.Goals as goal
use Rattle.size_pages.proofs.Pages.wait_page.Goals.{After-take_off}

pub class-class-requires : goal.class-class-requires
class-class-requires c = (wait_facts c.args.self.now c.args.space.now c.args.page c.requires).header c.args.page (omega arith) (omega arith)

pub kind-kind-requires : goal.kind-kind-requires
kind-kind-requires c = let g = wait_facts c.args.self.now c.args.space.now c.args.page c.requires in (g.header (c.args.page + 6) (omega arith) (omega arith), g.kind_most)

-- its class has the list of its kind
listed : (c : After-take_off) → CanTakeOff c.args.self.now c.args.space.now c.args.page c.list.result
listed c =
    let g = wait_facts c.args.self.now c.args.space.now c.args.page c.requires in
    subst (CanTakeOff c.args.self.now c.args.space.now c.args.page)
    (class_list c.kind-kind.result c.class-class.result (omega (arith, g.kind, c.kind-kind.ensures)) (λ e. c.requires.not_waiting (sym c.kind-kind.ensures ∙ e)) ∙ sym c.list.ensures)
    (wait_off c.args.self.now c.args.space.now c.args.page c.class-class.result (kind_number c.kind-kind.result) c.requires c.class-class.ensures c.kind-kind.ensures)

pub put_waiting-requires : goal.put_waiting-requires
put_waiting-requires c =
    can_put_waiting c.args.self.now c.take_off.new.self c.args.space.now c.take_off.new.space c.args.page c.list.result c.requires
    c.take_off.ensures.off c.take_off.ensures.signs c.take_off.ensures.heads

pub returns : goal.returns
returns c =
    waits_more c.args.self.now c.take_off.new.self c.put_waiting.new.self c.args.space.now c.take_off.new.space c.put_waiting.new.space c.args.page c.list.result c.requires
    (listed (goal.at.returns c).After-take_off)
    c.take_off.ensures.off c.take_off.ensures.unlinks c.take_off.ensures.signs c.take_off.ensures.heads c.take_off.ensures.arenas c.put_waiting.ensures.on c.put_waiting.ensures.links c.put_waiting.ensures.sizes c.put_waiting.ensures.count c.put_waiting.ensures.order c.put_waiting.ensures.arenas
