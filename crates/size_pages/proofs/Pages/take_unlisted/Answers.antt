use Rattle.std.proofs.Common.{◌∙◌, ◌+◌, ◌∷◌, ◌≤◌, arith, ℕ, sym, subst}
use Rattle.size_pages.specs.Kinds.{kind_number}
use Rattle.size_pages.specs.Steps.{CanPutOn}
use Rattle.size_pages.proofs.KindLaws.{listed_kind}
use Rattle.size_pages.proofs.KeepLaws.{taken_keeps, taken_clear, links_keep, keeps_then}
use Rattle.size_pages.proofs.TakeLaws.{can_take, can_put_back, taken_fits, taken_place, taken_page}
use Rattle.size_pages.proofs.ArenaLaws.{all_after}
use Rattle.size_pages.proofs.Pages.take_unlisted.Goals as goal

pub take_from-block-requires : goal.take_from-block-requires
take_from-block-requires c = can_take c.args.self.now c.args.space.now c.args.page c.args.n c.requires

pub put_on-requires : goal.put_on-requires
put_on-requires c =
    subst (λ (t : ℕ). CanPutOn c.args.self.now c.take_from-block.new.space c.args.page t (kind_number c.right_kind-kind.result)) (listed_kind c.right_kind-kind.result c.args.n c.right_kind-kind.ensures.known ∙ sym c.list.ensures)
    (can_put_back c.args.self.now c.args.space.now c.take_from-block.new.space c.args.page c.args.n c.take_from-block.result (kind_number c.right_kind-kind.result) c.requires
    (record { chained = c.take_from-block.ensures.chained; fresh = c.take_from-block.ensures.fresh }) c.take_from-block.ensures.arenas
    c.right_kind-kind.ensures.known c.right_kind-kind.ensures.room c.right_kind-kind.ensures.full)

pub returns-clause-taken : goal.returns-clause-taken
returns-clause-taken c live waiting f =
    c.put_on.ensures.on ((c.take_from-block.result, c.args.n) ∷ live) waiting
    (taken_fits c.args.self.now c.args.space.now c.take_from-block.new.space c.args.page c.args.n c.take_from-block.result c.requires
    (record { chained = c.take_from-block.ensures.chained; fresh = c.take_from-block.ensures.fresh }) c.take_from-block.ensures.arenas live waiting f)

pub returns-clause-kept : goal.returns-clause-kept
returns-clause-kept c live waiting f =
    keeps_then c.args.space.now c.take_from-block.new.space c.put_on.new.space live
    (taken_keeps c.args.self.now c.args.space.now c.take_from-block.new.space c.args.page c.args.n c.take_from-block.result c.requires (record { chained = c.take_from-block.ensures.chained; fresh = c.take_from-block.ensures.fresh }) c.take_from-block.ensures.arenas live waiting f)
    (links_keep c.args.self.now c.put_on.new.self.heads.items c.take_from-block.new.space c.put_on.new.space c.args.page _ (kind_number c.right_kind-kind.result) ((c.take_from-block.result, c.args.n) ∷ live) waiting c.requires.is_page c.put_on.ensures.links
    (taken_fits c.args.self.now c.args.space.now c.take_from-block.new.space c.args.page c.args.n c.take_from-block.result c.requires (record { chained = c.take_from-block.ensures.chained; fresh = c.take_from-block.ensures.fresh }) c.take_from-block.ensures.arenas live waiting f)).1

pub returns-clause-cleared : goal.returns-clause-cleared
returns-clause-cleared c =
    let s = c.requires.stands in
    let two : 2 ≤ c.args.n = c.requires.low in
    (links_keep c.args.self.now c.put_on.new.self.heads.items c.take_from-block.new.space c.put_on.new.space c.args.page _ (kind_number c.right_kind-kind.result) ((c.take_from-block.result, c.args.n) ∷ s.live) s.waiting c.requires.is_page c.put_on.ensures.links
    (taken_fits c.args.self.now c.args.space.now c.take_from-block.new.space c.args.page c.args.n c.take_from-block.result c.requires (record { chained = c.take_from-block.ensures.chained; fresh = c.take_from-block.ensures.fresh }) c.take_from-block.ensures.arenas s.live s.waiting s.fits)).0
    c.take_from-block.result (omega arith, omega arith)
    ∙ taken_clear c.args.space.now c.take_from-block.new.space c.args.page c.args.n c.take_from-block.result (record { chained = c.take_from-block.ensures.chained; fresh = c.take_from-block.ensures.fresh })

pub right_kind-kind-requires-clause-header : goal.right_kind-kind-requires-clause-header
right_kind-kind-requires-clause-header c = all_after c.args.space.now c.take_from-block.new.space c.args.page (c.args.page + 8) c.take_from-block.ensures.arenas (can_take c.args.self.now c.args.space.now c.args.page c.args.n c.requires).header

pub returns-clause-page : goal.returns-clause-page
returns-clause-page c = taken_page c.args.self.now c.args.space.now c.take_from-block.new.space c.args.page c.args.n c.take_from-block.result c.requires (record { chained = c.take_from-block.ensures.chained; fresh = c.take_from-block.ensures.fresh })

pub returns-clause-place : goal.returns-clause-place
returns-clause-place c = taken_place c.args.self.now c.args.space.now c.take_from-block.new.space c.args.page c.args.n c.take_from-block.result c.requires (record { chained = c.take_from-block.ensures.chained; fresh = c.take_from-block.ensures.fresh })

pub returns-clause-next : goal.returns-clause-next
returns-clause-next c = record {
  chained = λ e. (c.take_from-block.ensures.chained e).first;
  fresh = λ e. (c.take_from-block.ensures.fresh e).first;
}
