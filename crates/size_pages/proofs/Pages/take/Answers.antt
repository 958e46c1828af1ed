use Rattle.std.proofs.Common.{◌∙◌, ◌∷◌, arith, ap, ℕ, subst}
use Rattle.heap_space.specs.Memory.{Memory}
use Rattle.size_pages.specs.PageWords.{word_in}
use Rattle.size_pages.specs.Calls.{page_of, IsInNone, TakesFrom, TakesFirst, AddsArena}
use Rattle.size_pages.specs.declared.Pages.{Pages}
use Rattle.size_pages.proofs.ResultLaws.{on_err_any}
use Rattle.size_pages.proofs.TakeLaws.{stands_on}
use Rattle.size_pages.proofs.KeepLaws.{keeps_same, keeps_then}
use Rattle.size_pages.proofs.GrowthLaws.{arenas_outside, outside_then}
use Rattle.size_pages.proofs.BeginLaws.{same_stands}
use Rattle.size_pages.proofs.ChoiceLaws.{finds_grown, heads_grown, sizes_grown, arena_later}
use Rattle.size_pages.proofs.Pages.take.Goals as goal

pub returns-in_err-grow_heads-clause-err_blocks : goal.returns-in_err-grow_heads-clause-err_blocks
returns-in_err-grow_heads-clause-err_blocks c live waiting f = on_err_any c.from_residual.result _ (c.grow_heads.ensures.keeps c.args.space.now live waiting f)

pub find_page-requires-clause-stands : goal.find_page-requires-clause-stands
find_page-requires-clause-stands c = stands_on c.args.self.now c.grow_heads.new.self c.args.space.now c.requires.stands (c.grow_heads.ensures.keeps c.args.space.now)

pub find_page-requires-clause-heads : goal.find_page-requires-clause-heads
find_page-requires-clause-heads c = heads_grown c.args.self.now c.grow_heads.new.self c.grow_heads.ensures.heads c.in_ok-grow_heads.ensures.long

pub returns-in_err-page-clause-err_blocks : goal.returns-in_err-page-clause-err_blocks
returns-in_err-page-clause-err_blocks c live waiting f = on_err_any c.from_residual-in_err-page.result _ (same_stands c.grow_heads.new.self c.find_page.new.self c.args.space.now c.find_page.new.space live waiting c.in_err-page.ensures.err_blocks c.in_err-page.ensures.err (c.grow_heads.ensures.keeps c.args.space.now live waiting f))

pub returns-in_err-page-clause-kept : goal.returns-in_err-page-clause-kept
returns-in_err-page-clause-kept c live waiting f = keeps_same c.args.space.now c.find_page.new.space live (λ e. ap (λ (m : Memory). word_in m e) c.in_err-page.ensures.err)

pub returns-clause-taken : goal.returns-clause-taken
returns-clause-taken c live waiting f = c.take_unlisted.ensures.taken live waiting (c.in_ok-page.ensures.found.found live waiting (c.grow_heads.ensures.keeps c.args.space.now live waiting f))

pub returns-clause-elsewhere : goal.returns-clause-elsewhere
returns-clause-elsewhere c live waiting f =
    let g = finds_grown c.args.self.now c.grow_heads.new.self c.find_page.new.self c.args.space.now c.find_page.new.space c.in_ok-page.page c.args.n c.grow_heads.ensures.heads (c.grow_heads.ensures.keeps c.args.space.now) c.in_ok-page.ensures.found in
    let place = c.take_unlisted.ensures.place in
    g.apart live waiting f c.take_unlisted.result (omega (arith, place.0)) (omega (arith, place.1, g.sizes.page, c.requires.n.0))

pub returns-clause-from : goal.returns-clause-from
returns-clause-from c =
    let g = finds_grown c.args.self.now c.grow_heads.new.self c.find_page.new.self c.args.space.now c.find_page.new.space c.in_ok-page.page c.args.n c.grow_heads.ensures.heads (c.grow_heads.ensures.keeps c.args.space.now) c.in_ok-page.ensures.found in
    subst (TakesFrom (word_in c.args.space.now) c.args.self.now.page c.args.self.now.count c.args.n) (c.take_unlisted.ensures.page ∙ ap (λ (k : ℕ). page_of k c.take_unlisted.result) g.sizes.page) g.from

pub returns-clause-first : goal.returns-clause-first
returns-clause-first c =
    let g = finds_grown c.args.self.now c.grow_heads.new.self c.find_page.new.self c.args.space.now c.find_page.new.space c.in_ok-page.page c.args.n c.grow_heads.ensures.heads (c.grow_heads.ensures.keeps c.args.space.now) c.in_ok-page.ensures.found in
    subst (λ (p : ℕ). TakesFirst (word_in c.args.space.now) p c.take_unlisted.result) (c.take_unlisted.ensures.page ∙ ap (λ (k : ℕ). page_of k c.take_unlisted.result) g.sizes.page) (g.next c.take_unlisted.result c.take_unlisted.ensures.next)

pub returns-clause-arena : goal.returns-clause-arena
returns-clause-arena c =
    let g = finds_grown c.args.self.now c.grow_heads.new.self c.find_page.new.self c.args.space.now c.find_page.new.space c.in_ok-page.page c.args.n c.grow_heads.ensures.heads (c.grow_heads.ensures.keeps c.args.space.now) c.in_ok-page.ensures.found in
    arena_later (word_in c.args.space.now) c.args.self.now.page c.args.self.now.count c.args.n c.args.space.now c.find_page.new.space c.take_unlisted.new.space g.arena c.take_unlisted.ensures.arenas.next_arena

pub returns-clause-kept : goal.returns-clause-kept
returns-clause-kept c live waiting f =
    let g = c.in_ok-page.ensures.found in
    let was = c.grow_heads.ensures.keeps c.args.space.now live waiting f in
    keeps_then c.args.space.now c.find_page.new.space c.take_unlisted.new.space live (g.kept live waiting was) (c.take_unlisted.ensures.kept live waiting (g.found live waiting was))

pub returns-clause-outside : goal.returns-clause-outside
returns-clause-outside c = outside_then c.args.space.now c.find_page.new.space c.take_unlisted.new.space c.in_ok-page.ensures.found.outside (arenas_outside c.find_page.new.space c.take_unlisted.new.space c.take_unlisted.ensures.arenas)

pub returns-in_err-grow_heads-clause-stands : goal.returns-in_err-grow_heads-clause-stands
returns-in_err-grow_heads-clause-stands c = stands_on c.args.self.now c.grow_heads.new.self c.args.space.now c.requires.stands (c.grow_heads.ensures.keeps c.args.space.now)

pub returns-in_err-page-clause-stands : goal.returns-in_err-page-clause-stands
returns-in_err-page-clause-stands c =
    let st = c.requires.stands in
    record { live = st.live; waiting = st.waiting; fits = same_stands c.grow_heads.new.self c.find_page.new.self c.args.space.now c.find_page.new.space st.live st.waiting c.in_err-page.ensures.err_blocks c.in_err-page.ensures.err (c.grow_heads.ensures.keeps c.args.space.now st.live st.waiting st.fits) }

pub returns-clause-stands : goal.returns-clause-stands
returns-clause-stands c =
    let st = c.requires.stands in
    record { live = (c.take_unlisted.result, c.args.n) ∷ st.live; waiting = st.waiting; fits = c.take_unlisted.ensures.taken st.live st.waiting (c.in_ok-page.ensures.found.found st.live st.waiting (c.grow_heads.ensures.keeps c.args.space.now st.live st.waiting st.fits)) }

pub open_page-listed-requires-clause-stands : goal.open_page-listed-requires-clause-stands
open_page-listed-requires-clause-stands c = stands_on c.args.self.now c.grow_heads.new.self c.args.space.now c.requires.stands (c.grow_heads.ensures.keeps c.args.space.now)

pub open_page-listed-requires-clause-heads : goal.open_page-listed-requires-clause-heads
open_page-listed-requires-clause-heads c = heads_grown c.args.self.now c.grow_heads.new.self c.grow_heads.ensures.heads c.in_ok-grow_heads.ensures.long

pub take_listed-requires : goal.take_listed-requires
take_listed-requires c = c.open_page-listed.ensures c.if-listed-ne0.true

pub returns-then-listed-ne0-clause-taken : goal.returns-then-listed-ne0-clause-taken
returns-then-listed-ne0-clause-taken c live waiting f = c.take_listed.ensures.taken live waiting (c.grow_heads.ensures.keeps c.args.space.now live waiting f)

pub returns-then-listed-ne0-clause-cleared : goal.returns-then-listed-ne0-clause-cleared
returns-then-listed-ne0-clause-cleared c = c.take_listed.ensures.cleared

pub returns-then-listed-ne0-clause-elsewhere : goal.returns-then-listed-ne0-clause-elsewhere
returns-then-listed-ne0-clause-elsewhere c live waiting f =
    subst (λ (p : Pages). IsInNone p.page waiting c.take_listed.result) c.grow_heads.ensures.heads (c.take_listed.ensures.apart live waiting (c.grow_heads.ensures.keeps c.args.space.now live waiting f))

pub returns-then-listed-ne0-clause-from : goal.returns-then-listed-ne0-clause-from
returns-then-listed-ne0-clause-from c =
    subst (λ (p : Pages). TakesFrom (word_in c.args.space.now) p.page p.count c.args.n (page_of p.page c.take_listed.result)) c.grow_heads.ensures.heads c.take_listed.ensures.from

pub returns-then-listed-ne0-clause-first : goal.returns-then-listed-ne0-clause-first
returns-then-listed-ne0-clause-first c =
    subst (λ (p : Pages). TakesFirst (word_in c.args.space.now) (page_of p.page c.take_listed.result) c.take_listed.result) c.grow_heads.ensures.heads c.take_listed.ensures.first

pub returns-then-listed-ne0-clause-arena : goal.returns-then-listed-ne0-clause-arena
returns-then-listed-ne0-clause-arena c =
    subst (λ (p : Pages). AddsArena (word_in c.args.space.now) p.page p.count c.args.n c.args.space.now c.take_listed.new.space) c.grow_heads.ensures.heads c.take_listed.ensures.arena

pub returns-then-listed-ne0-clause-kept : goal.returns-then-listed-ne0-clause-kept
returns-then-listed-ne0-clause-kept c live waiting f = c.take_listed.ensures.kept live waiting (c.grow_heads.ensures.keeps c.args.space.now live waiting f)

pub returns-then-listed-ne0-clause-outside : goal.returns-then-listed-ne0-clause-outside
returns-then-listed-ne0-clause-outside c = arenas_outside c.args.space.now c.take_listed.new.space c.take_listed.ensures.arenas

pub returns-then-listed-ne0-clause-arena_words : goal.returns-then-listed-ne0-clause-arena_words
returns-then-listed-ne0-clause-arena_words c = c.take_listed.ensures.arenas.arena_words

pub returns-then-listed-ne0-clause-next_large : goal.returns-then-listed-ne0-clause-next_large
returns-then-listed-ne0-clause-next_large c = c.take_listed.ensures.arenas.next_large

pub returns-then-listed-ne0-clause-stands : goal.returns-then-listed-ne0-clause-stands
returns-then-listed-ne0-clause-stands c =
    let st = c.requires.stands in
    record { live = (c.take_listed.result, c.args.n) ∷ st.live; waiting = st.waiting; fits = c.take_listed.ensures.taken st.live st.waiting (c.grow_heads.ensures.keeps c.args.space.now st.live st.waiting st.fits) }

pub returns-then-listed-ne0-clause-sizes : goal.returns-then-listed-ne0-clause-sizes
returns-then-listed-ne0-clause-sizes c = sizes_grown c.args.self.now c.grow_heads.new.self c.grow_heads.ensures.heads
