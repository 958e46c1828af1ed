use Rattle.std.proofs.Common.{sym, ◌∙◌, ℕ, subst}
use Rattle.size_pages.specs.PageLists.{IsIn}
use Rattle.size_pages.proofs.WaitLaws.{live_page, waits_exactly}
use Rattle.size_pages.proofs.Pages.waits.Goals as goal

pub kind-requires : goal.kind-requires
kind-requires c = (live_page c.args.self.now c.args.space.now c.args.a c.page_of.result c.requires c.page_of.ensures).header

pub returns : goal.returns
returns c live waiting f =
    let at = live_page c.args.self.now c.args.space.now c.args.a c.page_of.result c.requires c.page_of.ensures in
    let both = waits_exactly c.args.self.now c.args.space.now c.page_of.result live waiting f at.is_page in (
      λ t. subst (λ (p : ℕ). IsIn p waiting) c.page_of.ensures (both.0 (sym c.kind.ensures ∙ c.is_waiting.ensures.yes t)),
      λ i. c.is_waiting.ensures.waits (c.kind.ensures ∙ both.1 (subst (λ (p : ℕ). IsIn p waiting) (sym c.page_of.ensures) i)),
    )
