-- The sweep of a page, of its steps.
use Rattle.std.proofs.Common.{◌≡◌, ℕ, ◌<◌, List, ◌∷◌, length, slice_index, sym, ◌∙◌, ap, subst}
use Rattle.heap_space.specs.Memory.{Memory}
use Rattle.heap_space.specs.Extents.{Extent, IsInside}
use Rattle.heap_space.proofs.ExtentLaws.{Each-both}
use Rattle.size_pages.specs.PageWords.{word_in}
use Rattle.size_pages.specs.PageLists.{EachPlace, IsPage, first_of_list}
use Rattle.size_pages.specs.HasBlocks.{HasBlocks, Stands}
use Rattle.size_pages.specs.Headers.{HasHeaders}
use Rattle.size_pages.specs.Sweeping.{CanSweep, SweepsPage, kept_blocks, swept_word}
use Rattle.size_pages.specs.SlotSteps.{CanSweepAt, GathersBirths, SweepsBlocks, CanRelist, Relists}
use Rattle.size_pages.specs.declared.Pages.{Pages}
use Rattle.size_pages.proofs.FitsLaws.{index_in}
use Rattle.size_pages.proofs.ListMoves.{not_zero}

-- the head of the waiting pages is the first of them
pub head_is : (pages : Pages) (m : Memory) (live : List Extent) (page : ℕ) (rest : List ℕ) → HasBlocks pages m live (page ∷ rest) → slice_index pages.heads.items 1 ≡ page
head_is pages m live page rest f = f.lists.heads_are 1 ∙ ap first_of_list f.lists.waits

pub heads_there : (pages : Pages) (m : Memory) → CanSweep pages m → 1 < length pages.heads.items
heads_there pages m c =
    let f = c.has.fits in
    let is = (subst (EachPlace (IsPage pages.page pages.count)) f.lists.waits (f.lists.pages 1)).0 in
    index_in pages.heads.items 1 (λ z. not_zero pages.page pages.count c.page is (sym (head_is pages m c.live c.page c.rest f) ∙ z))

pub can_sweep_at : (pages : Pages) (m : Memory) (page : ℕ) → CanSweep pages m → page ≡ slice_index pages.heads.items 1 → CanSweepAt pages m page
can_sweep_at pages m page c is =
    let e : c.page ≡ page = sym (is ∙ head_is pages m c.live c.page c.rest c.has.fits) in
    record { live = c.live; rest = c.rest; has = subst (λ (p : ℕ). HasHeaders pages m c.live (p ∷ c.rest)) e c.has }

pub can_relist : (pages : Pages) (m after : Memory) (page : ℕ) → CanSweepAt pages m page → SweepsBlocks pages m after page → CanRelist pages after page
can_relist pages m after page c s = record { live = kept_blocks (word_in m) pages.page page c.live; rest = c.rest; fits = s.fits c.live c.rest c.has }

swept_here : (pages new : Pages) (m after last : Memory) (page : ℕ) (before now : List ℕ) → GathersBirths pages m page before now → SweepsBlocks pages m after page → Relists pages new after last page → (live : List Extent) (rest : List ℕ) → HasHeaders pages m live (page ∷ rest) → SweepsPage new m last pages.page live page rest before now
swept_here pages new m after last page before now g s r live rest h =
    let births = g.gathered live rest h in
    let kept = kept_blocks (word_in m) pages.page page live in
    let f = s.fits live rest h in
    record {
      fits = r.fits kept rest f;
      births = births.0;
      appended = births.1;
      freed = births.2;
      words = Each-both (λ x. (a : ℕ) → IsInside x a → word_in last a ≡ word_in after a) (λ x. (a : ℕ) → IsInside x a → word_in after a ≡ swept_word (word_in m) pages.page page x a) (λ x. (a : ℕ) → IsInside x a → word_in last a ≡ swept_word (word_in m) pages.page page x a) (λ x k w a i. k a i ∙ w a i) kept (r.kept kept rest f) (s.words live rest h);
    }

pub page_swept : (pages new : Pages) (m after last : Memory) (page : ℕ) (before now : List ℕ) → page ≡ slice_index pages.heads.items 1 → GathersBirths pages m page before now → SweepsBlocks pages m after page → Relists pages new after last page → (live : List Extent) (first : ℕ) (rest : List ℕ) → HasHeaders pages m live (first ∷ rest) → SweepsPage new m last pages.page live first rest before now
page_swept pages new m after last page before now is g s r live first rest h =
    let e : page ≡ first = is ∙ head_is pages m live first rest h.fits in
    subst (λ (p : ℕ). SweepsPage new m last pages.page live p rest before now) e
    (swept_here pages new m after last page before now g s r live rest (subst (λ (p : ℕ). HasHeaders pages m live (p ∷ rest)) (sym e) h))

pub stands_swept : (pages new : Pages) (m after last : Memory) (page : ℕ) → CanSweepAt pages m page → SweepsBlocks pages m after page → Relists pages new after last page → Stands new last
stands_swept pages new m after last page c s r =
    let kept = kept_blocks (word_in m) pages.page page c.live in record { live = kept; waiting = c.rest; fits = r.fits kept c.rest (s.fits c.live c.rest c.has) }
