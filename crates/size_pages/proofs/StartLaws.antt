-- An unused page gets a class.
use Rattle.std.proofs.Common.{◌≡◌, ℕ, ◌+◌, ◌<◌, ◌≤◌, ◌⊎◌, inl, inr, List, [], arith, refl, sym, ◌∙◌, ap, subst}
use Rattle.heap_space.specs.Memory.{Memory}
use Rattle.heap_space.specs.Extents.{Extent}
use Rattle.size_pages.specs.PageWords.{Words, word_in, IsInArenas}
use Rattle.size_pages.specs.PageBlocks.{PageHolds, Starts}
use Rattle.size_pages.specs.LiveBlocks.{page_at, blocks_of, PageIs}
use Rattle.size_pages.specs.PageLists.{IsPage, ListsFit}
use Rattle.size_pages.specs.HasBlocks.{HasBlocksBut, HasBlocks}
use Rattle.size_pages.specs.Steps.{CanTakeUnlisted}
use Rattle.size_pages.specs.Growth.{CanBegin}
use Rattle.size_pages.specs.declared.Pages.{Pages}
use Rattle.size_pages.proofs.PageLaws.{page_holds}
use Rattle.size_pages.proofs.FitLaws.{fits_one, stays_elsewhere, page_used}
use Rattle.size_pages.proofs.ListMoves.{lists_hold}
use Rattle.size_pages.proofs.GiveLaws.{IsOnlyPage, page_changes}

started_holds : (new old : Words) (size p n : ℕ) (live : List Extent) → 64 ≤ size → 2 ≤ n → Starts old new p n → live ≡ [] → PageHolds new size p [] live
started_holds new old size p n live wide two s none =
    subst (λ (bs : List Extent). PageHolds new size p [] bs) (sym none)
    (page_holds new size p n (p + 8) [] [] s.class s.fresh two s.chain s.count (omega arith) (omega arith) tt tt (omega arith) (λ i low. absurd (omega arith)))

-- the unused page at which the search begins is on no list
unlisted : (pages : Pages) (m : Memory) (page : ℕ) (live : List Extent) (waiting : List ℕ) → pages.lowest < pages.count → word_in m (page_at pages.page pages.lowest) ≡ 0 → page ≡ page_at pages.page pages.lowest → HasBlocks pages m live waiting → HasBlocksBut pages m live waiting page
unlisted pages m page live waiting below unused is f = record {
  setup = f.setup;
  arenas = f.arenas;
  blocks = f.blocks;
  classes = f.classes;
  lists = subst (λ (p : ℕ). ListsFit (word_in m) pages.page pages.count pages.heads.items waiting p) (sym is) (lists_hold (word_in m) pages.page pages.count pages.heads.items waiting pages.lowest below f.lists unused);
  heads = f.heads;
  waits = f.waits;
  rising = f.rising;
  room = f.room;
}

-- it gets the class n
module _ (pages : Pages) (m new : Memory) (page n : ℕ) (c : CanBegin pages m n) (is : page ≡ page_at pages.page pages.lowest) (g : Starts (word_in m) (word_in new) page n) (s : IsInArenas m new) where
  pub begun_page : IsPage pages.page pages.count page
  begun_page = record { number = pages.lowest; below = c.below; is = is }

  pub started_fits : (live : List Extent) (waiting : List ℕ) → HasBlocks pages m live waiting → HasBlocksBut pages new live waiting page
  started_fits live waiting f =
      let size = pages.page in
      let w = word_in m in
      let now = word_in new in
      let wide : 64 ≤ size = f.blocks.size_low in
      let two : 2 ≤ n = c.low in
      let only : IsOnlyPage w now page size = λ e out. elim out [ inl x ↦ g.rest e (omega arith) (omega arith) (omega arith) (omega arith) | inr y ↦ g.rest e (omega arith) (omega arith) (omega arith) (omega arith) ] in
      let was : PageIs w size page (blocks_of size page live) = subst (λ (r : ℕ). PageIs w size r (blocks_of size r live)) (sym is) (f.blocks.pages pages.lowest c.below) in
      let holds : PageHolds now size page [] (blocks_of size page live) = started_holds now w size page n (blocks_of size page live) wide two g (was.unused (ap w is ∙ c.unused)) in
      page_changes pages m new live live waiting page page (unlisted pages m page live waiting c.below c.unused is f) begun_page s only
      (fits_one w now size pages.count pages.lowest live live f.blocks
      (subst (λ (r : ℕ). PageIs now size r (blocks_of size r live)) is (page_used now size page [] (blocks_of size page live) holds))
      (λ j other. refl)
      (stays_elsewhere w now size pages.count pages.lowest (subst (λ (r : ℕ). (e : ℕ) → (e < r) ⊎ (r + size ≤ e) → now e ≡ w e) is only)) f.blocks.inside f.blocks.apart)
      (subst (λ (k : ℕ). k ≤ pages.small) (sym g.class) c.small) (λ z. omega (arith, sym g.class ∙ z, two))
      (g.rest (page + 7) (omega arith) (omega arith) (omega arith) (omega arith)) (λ ne. absurd (ne refl))

  pub can_take_started : CanTakeUnlisted pages new page n
  can_take_started =
      let f = c.stands.fits in
      let small : n ≤ pages.small = c.small in
      let small_high : pages.small + 8 ≤ pages.page = f.setup.small_high in
      let class : word_in new page ≡ n = g.class in
      let fresh : word_in new (page + 3) ≡ page + 8 = g.fresh in
      record {
        stands = record { live = c.stands.live; waiting = c.stands.waiting; fits = started_fits c.stands.live c.stands.waiting f };
        is_page = begun_page;
        class = class;
        low = c.low;
        small = small;
        room = inr (omega arith);
      }
