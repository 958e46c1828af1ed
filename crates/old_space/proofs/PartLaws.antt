-- What each part knows of its blocks, and that the other part's changes leave it alone.
use Rattle.std.proofs.Common.{◌≡◌, ℕ, ◌+◌, ◌<◌, ◌≤◌, List, [], ◌∷◌, ◌++◌, refl, sym, ◌∙◌, arith, subst, append_assoc}
use Rattle.heap_space.specs.Memory.{Memory}
use Rattle.heap_space.specs.Extents.{Extent, Each, KeepsOutside}
use Rattle.heap_space.proofs.ExtentLaws.{Each-map}
use Rattle.size_pages.specs.HasBlocks as pages
use Rattle.size_pages.specs.LiveBlocks.{page_at}
use Rattle.size_pages.specs.PageLists.{EachPlace, IsPage}
use Rattle.size_pages.proofs.FitLaws.{pages_part}
use Rattle.size_pages.specs.declared.Pages.{Pages}
use Rattle.size_pages.proofs.FrameLaws.{IsBlock, HasBlocks_first, HasBlocks_untouched}
use Rattle.size_pages.proofs.OrderLaws.{HasBlocks_front}
use Rattle.large_objects.specs.Large as larges
use Rattle.large_objects.specs.declared.Large.{Large}
use Rattle.large_objects.proofs.LargeLaws.{blocks-as}
use Rattle.old_space.proofs.Narrow.{narrow, whole}
use Rattle.size_pages.specs.HasBlocks.{greatest_block, page_count}

each-split : (P : Extent → Type 0) (all front xs : List Extent) → all ≡ front ++ xs
    → ((fs ls : List Extent) (x : Extent) → all ≡ fs ++ x ∷ ls → P x) → Each P xs
each-split P all front [] e f = tt
each-split P all front (x ∷ xs) e f =
    (f front xs x e, each-split P all (front ++ x ∷ []) xs (e ∙ sym (append_assoc front (x ∷ []) xs)) f)

-- each block of a page lies in one block of the memory, below the large blocks
pub pages-each : (p : Pages) (m : Memory) (small : List Extent) (waiting : List ℕ) → pages.HasBlocks p m small waiting
    → Each (IsBlock m (greatest_block p)) small
pages-each p m small waiting h =
    each-split (IsBlock m (greatest_block p)) small [] small refl
    (λ fs ls x e. HasBlocks_first p m x.0 x.1 (fs ++ ls) waiting
    (HasBlocks_front p m fs ls x waiting (subst (λ (xs : List Extent). pages.HasBlocks p m xs waiting) e h)))

pub pages-below : (p : Pages) (m : Memory) (small : List Extent) (waiting : List ℕ) → pages.HasBlocks p m small waiting
    → Each (λ x. x.0 + x.1 ≤ 1099511627776) small
pages-below p m small waiting h =
    Each-map (IsBlock m (greatest_block p)) (λ x. x.0 + x.1 ≤ 1099511627776) (λ x b. b.high) small (pages-each p m small waiting h)

pub arenas-below : (p : Pages) (m : Memory) (small : List Extent) (waiting : List ℕ) → pages.HasBlocks p m small waiting
    → m.next_arena ≤ 1099511627776
arenas-below p m small waiting h = let e = h.arenas.end in let b = h.arenas.below in omega arith

-- changes among the large blocks
pub pages-kept : (p : Pages) (m new : Memory) (small : List Extent) (waiting : List ℕ) → pages.HasBlocks p m small waiting
    → new.next_arena ≡ m.next_arena → new.arena_words ≡ m.arena_words → KeepsOutside 1099511627776 9223372036854775808 m new
    → pages.HasBlocks p new small waiting
pages-kept p m new small waiting h next words k =
    let top = arenas-below p m small waiting h in
    HasBlocks_untouched p m new small waiting h next words
    (whole 4294967296 m.next_arena m new small (narrow 0 1099511627776 4294967296 m.next_arena m new [] (omega arith) (omega arith) k.below))

-- changes among the arenas
pub larges-kept : (l : Large) (m new : Memory) (large : List Extent) (waiting : List ℕ) → larges.HasBlocks l m large waiting
    → KeepsOutside 4294967296 1099511627776 m new → larges.HasBlocks l new large waiting
larges-kept l m new large waiting h k =
    let u = k.above 9223372036854775808 in blocks-as l m new large waiting h u.blocks

-- the places of pages lie below those of the large blocks

waiting-each : (size count top : ℕ) (xs : List ℕ) → 0 < size → page_at size count ≤ top → EachPlace (IsPage size count) xs → EachPlace (λ q. q < top) xs
waiting-each size count top [] some high all = tt
waiting-each size count top (x ∷ xs) some high all =
    let page = all.0 in
    let at : x ≡ page_at size page.number = page.is in
    let part : page_at size page.number + size ≤ page_at size count = pages_part size page.number count page.below in
    (omega arith, waiting-each size count top xs some high all.1)

pub waiting-below : (p : Pages) (m : Memory) (small : List Extent) (waiting : List ℕ) → pages.HasBlocks p m small waiting
    → EachPlace (λ q. q < 1099511627776) waiting
waiting-below p m small waiting h =
    let wide = h.blocks.size_low in
    let below = h.arenas.below in
    subst (λ (xs : List ℕ). EachPlace (λ q. q < 1099511627776) xs) h.lists.waits
    (waiting-each (pages.page_size p) (page_count p) 1099511627776 (h.lists.lists 1) (omega arith) (omega arith) (h.lists.pages 1))
