use Rattle.std.proofs.Common.{arith, ◌∙◌, ◌+◌, ℕ, sym, subst}
use Rattle.size_pages.specs.Kinds.{kind_number}
use Rattle.size_pages.specs.Steps.{CanPutOn}
use Rattle.size_pages.proofs.KindLaws.{listed_kind}
use Rattle.size_pages.proofs.RelistLaws.{is_listed_page, first_header, ended_relists, swept_put, swept_relists}
use Rattle.size_pages.proofs.Pages.relist.Goals as goal

pub live_count-requires : goal.live_count-requires
live_count-requires c = first_header c.args.self.now c.take_off_first.new.self c.args.space.now c.take_off_first.new.space c.args.page c.requires c.take_off_first.ensures.off c.take_off_first.ensures.unlinks c.take_off_first.ensures.signs c.take_off_first.ensures.lists c.take_off_first.ensures.arenas (c.args.page + 2) (omega arith) (omega arith)

pub class-class-requires : goal.class-class-requires
class-class-requires c = first_header c.args.self.now c.take_off_first.new.self c.args.space.now c.take_off_first.new.space c.args.page c.requires c.take_off_first.ensures.off c.take_off_first.ensures.unlinks c.take_off_first.ensures.signs c.take_off_first.ensures.lists c.take_off_first.ensures.arenas c.args.page (omega arith) (omega arith)

pub lower-requires-clause-page : goal.lower-requires-clause-page
lower-requires-clause-page c = is_listed_page c.args.self.now c.take_off_first.new.self c.args.space.now c.take_off_first.new.space c.args.page c.requires c.take_off_first.ensures.off c.take_off_first.ensures.unlinks c.take_off_first.ensures.signs c.take_off_first.ensures.lists c.take_off_first.ensures.arenas

pub clear_page-requires : goal.clear_page-requires
clear_page-requires c = first_header c.args.self.now c.take_off_first.new.self c.args.space.now c.take_off_first.new.space c.args.page c.requires c.take_off_first.ensures.off c.take_off_first.ensures.unlinks c.take_off_first.ensures.signs c.take_off_first.ensures.lists c.take_off_first.ensures.arenas

pub right_kind-kind-requires-clause-header : goal.right_kind-kind-requires-clause-header
right_kind-kind-requires-clause-header c = first_header c.args.self.now c.take_off_first.new.self c.args.space.now c.take_off_first.new.space c.args.page c.requires c.take_off_first.ensures.off c.take_off_first.ensures.unlinks c.take_off_first.ensures.signs c.take_off_first.ensures.lists c.take_off_first.ensures.arenas

pub returns-then-live_count-eq0 : goal.returns-then-live_count-eq0
returns-then-live_count-eq0 c = ended_relists c.args.self.now c.take_off_first.new.self c.args.space.now c.take_off_first.new.space c.args.page c.requires c.take_off_first.ensures.off c.take_off_first.ensures.unlinks c.take_off_first.ensures.signs c.take_off_first.ensures.lists c.take_off_first.ensures.arenas c.lower.new.self c.clear_page.new.space (sym c.live_count.ensures ∙ c.if-live_count-eq0.true) c.lower.ensures c.clear_page.ensures.clears c.clear_page.ensures.arenas

pub put_on-requires : goal.put_on-requires
put_on-requires c =
    subst (λ (t : ℕ). CanPutOn c.take_off_first.new.self c.take_off_first.new.space c.args.page t (kind_number c.right_kind-kind.result)) (listed_kind c.right_kind-kind.result c.class-class.result c.right_kind-kind.ensures.known ∙ sym c.list.ensures)
    (swept_put c.args.self.now c.take_off_first.new.self c.args.space.now c.take_off_first.new.space c.args.page c.requires c.take_off_first.ensures.off c.take_off_first.ensures.unlinks c.take_off_first.ensures.signs c.take_off_first.ensures.lists c.take_off_first.ensures.arenas c.class-class.result (kind_number c.right_kind-kind.result) c.class-class.ensures (λ e. c.if-live_count-eq0.false (c.live_count.ensures ∙ e)) c.right_kind-kind.ensures.known c.right_kind-kind.ensures.room c.right_kind-kind.ensures.full)

pub returns : goal.returns
returns c = swept_relists c.args.self.now c.take_off_first.new.self c.args.space.now c.take_off_first.new.space c.args.page c.requires c.take_off_first.ensures.off c.take_off_first.ensures.unlinks c.take_off_first.ensures.signs c.take_off_first.ensures.lists c.take_off_first.ensures.arenas c.put_on.new.self c.put_on.new.space c.list.result (kind_number c.right_kind-kind.result) c.put_on.ensures.on c.put_on.ensures.links c.put_on.ensures.heads c.put_on.ensures.arenas
