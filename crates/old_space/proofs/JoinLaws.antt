-- The laws of the live blocks, for callers.
use Rattle.std.proofs.Common.{inl, inr, ◌≡◌, ℕ, ◌+◌, ◌<◌, ◌≤◌, ◌⊎◌, IsTrue, List, [], ◌∷◌, ◌++◌, arith}
use Rattle.std.specs.List.Sorted.{IsPermutation}
use Rattle.std.proofs.lemmas.List.Sorted.{IsPermutation-trans, IsPermutation-middle}
use Rattle.heap_space.specs.Places.{lies_in_one}
use Rattle.heap_space.specs.Memory.{Memory}
use Rattle.heap_space.specs.Extents.{Extent, Each, IsApart, AreApart, IsOutside, IsUntouched}
use Rattle.heap_space.proofs.ExtentLaws.{Each-map, Each-both, Each-join}
use Rattle.large_objects.proofs.Same.{Same, Each-same, AreApart-same, same-permutation}
use Rattle.large_objects.specs.Large as larges
use Rattle.large_objects.specs.declared.Large.{Large}
use Rattle.large_objects.proofs.LargeLaws as large_laws
use Rattle.size_pages.proofs.FrameLaws as page_laws
use Rattle.old_space.specs.HasBlocks.{HasBlocks, IsBlock}
use Rattle.old_space.specs.declared.Old.{Old}
use Rattle.old_space.proofs.Narrow.{narrow}
use Rattle.old_space.proofs.PartLaws.{pages-each, pages-below, arenas-below}
use Rattle.size_pages.specs.HasBlocks.{greatest_block}

-- outside the blocks of one part, a place of that part is outside them all

outside-small : (small large live : List Extent) (a : ℕ) → Same (small ++ large) live → Each (λ x. 1099511627776 ≤ x.0) large → a < 1099511627776
    → IsOutside small a → IsOutside live a
outside-small small large live a s above low out =
    Each-same (λ x. (a < x.0) ⊎ (x.0 + x.1 ≤ a)) (small ++ large) live s
    (Each-join (λ x. (a < x.0) ⊎ (x.0 + x.1 ≤ a)) small large out
    (Each-map (λ x. 1099511627776 ≤ x.0) (λ x. (a < x.0) ⊎ (x.0 + x.1 ≤ a)) (λ x h. inl (omega arith)) large above))

outside-large : (small large live : List Extent) (a : ℕ) → Same (small ++ large) live → Each (λ x. x.0 + x.1 ≤ 1099511627776) small
    → 1099511627776 ≤ a → IsOutside large a → IsOutside live a
outside-large small large live a s below high out =
    Each-same (λ x. (a < x.0) ⊎ (x.0 + x.1 ≤ a)) (small ++ large) live s
    (Each-join (λ x. (a < x.0) ⊎ (x.0 + x.1 ≤ a)) small large
    (Each-map (λ x. x.0 + x.1 ≤ 1099511627776) (λ x. (a < x.0) ⊎ (x.0 + x.1 ≤ a)) (λ x h. inr (omega arith)) small below) out)

-- the large blocks begin above the arenas
pub larges-above : (large : Large) (m : Memory) (live : List Extent) (waiting : List ℕ) → larges.HasBlocks large m live waiting
    → Each (λ x. 1099511627776 ≤ x.0) live
larges-above large m live waiting h =
    Each-map (λ x. (1099511627776 ≤ x.0) × (x.0 < 9223372036854775808)) (λ x. 1099511627776 ≤ x.0) (λ x p. p.0) live
    (large_laws.HasBlocks-within large m live waiting h)

small-untouched : (old : Old) (m new : Memory) (live : List Extent) (waiting : List ℕ) (h : HasBlocks old m live waiting)
    → IsUntouched 4294967296 9223372036854775808 m new live → IsUntouched 4294967296 m.next_arena m new h.small
small-untouched old m new live waiting h u =
    let top = arenas-below old.pages m h.small h.waiting_pages h.in_pages in
    let n = narrow 4294967296 9223372036854775808 4294967296 m.next_arena m new live (omega arith) (omega arith) u in
    record {
      blocks = n.blocks;
      words = λ a low high out. n.words a low high
          (outside-small h.small h.large live a (same-permutation (h.small ++ h.large) live h.same)
          (larges-above old.large m h.large h.waiting_blocks h.in_larges) (omega arith) out);
    }

large-untouched : (old : Old) (m new : Memory) (live : List Extent) (waiting : List ℕ) (h : HasBlocks old m live waiting)
    → IsUntouched 4294967296 9223372036854775808 m new live → IsUntouched 1099511627776 9223372036854775808 m new h.large
large-untouched old m new live waiting h u =
    let n = narrow 4294967296 9223372036854775808 1099511627776 9223372036854775808 m new live (omega arith) (omega arith) u in
    record {
      blocks = n.blocks;
      words = λ a low high out. n.words a low high
          (outside-large h.small h.large live a (same-permutation (h.small ++ h.large) live h.same)
          (pages-below old.pages m h.small h.waiting_pages h.in_pages) low out);
    }

-- THE FRAME LAW: writes inside live blocks, and changes outside the arenas and the large blocks, change neither list
pub HasBlocks_untouched : (old : Old) (m new : Memory) (live : List Extent) (waiting : List ℕ) → HasBlocks old m live waiting
    → new.next_arena ≡ m.next_arena → new.arena_words ≡ m.arena_words → IsUntouched 4294967296 9223372036854775808 m new live
    → HasBlocks old new live waiting
HasBlocks_untouched old m new live waiting h next words u = record {
  small = h.small;
  large = h.large;
  waiting_pages = h.waiting_pages;
  waiting_blocks = h.waiting_blocks;
  in_pages = page_laws.HasBlocks_untouched old.pages m new h.small h.waiting_pages h.in_pages next words (small-untouched old m new live waiting h u);
  in_larges = large_laws.HasBlocks_untouched old.large m new h.large h.waiting_blocks h.in_larges (large-untouched old m new live waiting h u);
  same = h.same;
  waits = h.waits;
  greatest = h.greatest;
}

-- the live blocks may be told in any order
pub HasBlocks_permuted : (old : Old) (m : Memory) (live other : List Extent) (waiting : List ℕ) → HasBlocks old m live waiting
    → IsPermutation live other → HasBlocks old m other waiting
HasBlocks_permuted old m live other waiting h p = record {
  small = h.small;
  large = h.large;
  waiting_pages = h.waiting_pages;
  waiting_blocks = h.waiting_blocks;
  in_pages = h.in_pages;
  in_larges = h.in_larges;
  same = IsPermutation-trans (h.small ++ h.large) live other h.same p;
  waits = h.waits;
  greatest = h.greatest;
}

-- any of them first
pub HasBlocks_front : (old : Old) (m : Memory) (fs ls : List Extent) (x : Extent) (waiting : List ℕ) → HasBlocks old m (fs ++ x ∷ ls) waiting
    → HasBlocks old m (x ∷ (fs ++ ls)) waiting
HasBlocks_front old m fs ls x waiting h =
    HasBlocks_permuted old m (fs ++ x ∷ ls) (x ∷ (fs ++ ls)) waiting h (IsPermutation-middle fs x ls)

-- what holds of the blocks of both parts holds of the live ones
pub HasBlocks-each : (P : Extent → Type 0) (old : Old) (m : Memory) (live : List Extent) (waiting : List ℕ) (h : HasBlocks old m live waiting)
    → Each P h.small → Each P h.large → Each P live
HasBlocks-each P old m live waiting h small large =
    Each-same P (h.small ++ h.large) live (same-permutation (h.small ++ h.large) live h.same) (Each-join P h.small h.large small large)

AreApart-join : (xs ys : List Extent) → AreApart xs → AreApart ys → Each (λ x. x.0 + x.1 ≤ 1099511627776) xs → Each (λ y. 1099511627776 ≤ y.0) ys
    → AreApart (xs ++ ys)
AreApart-join [] ys a b low high = b
AreApart-join (x ∷ xs) ys a b low high =
    let end = low.0 in (
      Each-join (IsApart x) xs ys a.0 (Each-map (λ y. 1099511627776 ≤ y.0) (IsApart x) (λ y h. inl (omega arith)) ys high),
      AreApart-join xs ys a.1 b low.1 high,
    )

large-blocks : (large : Large) (m : Memory) (live : List Extent) (waiting : List ℕ) → larges.HasBlocks large m live waiting → Each (IsBlock m) live
large-blocks large m live waiting h =
    Each-both (λ x. IsTrue (lies_in_one m.blocks x.0 x.1)) (λ x. (2 ≤ x.1) × (1099511627776 ≤ x.0)) (IsBlock m)
    (λ x l p. let low = p.1 in record { lies = l; low = omega arith; wide = p.0 }) live
    (large_laws.HasBlocks-lies large m live waiting h)
    (Each-both (λ x. 2 ≤ x.1) (λ x. 1099511627776 ≤ x.0) (λ x. (2 ≤ x.1) × (1099511627776 ≤ x.0)) (λ x p q. (p, q)) live
    (large_laws.HasBlocks-wide large m live waiting h) (larges-above large m live waiting h))

-- no two live blocks share a word
pub HasBlocks-apart : (old : Old) (m : Memory) (live : List Extent) (waiting : List ℕ) → HasBlocks old m live waiting → AreApart live
HasBlocks-apart old m live waiting h =
    AreApart-same (h.small ++ h.large) live (same-permutation (h.small ++ h.large) live h.same)
    (AreApart-join h.small h.large
    (page_laws.HasBlocks_apart old.pages m h.small h.waiting_pages h.in_pages)
    (large_laws.HasBlocks-apart old.large m h.large h.waiting_blocks h.in_larges)
    (pages-below old.pages m h.small h.waiting_pages h.in_pages)
    (larges-above old.large m h.large h.waiting_blocks h.in_larges))

-- each lies in one block of the memory, outside the nursery, and has two words or more
pub HasBlocks-blocks : (old : Old) (m : Memory) (live : List Extent) (waiting : List ℕ) → HasBlocks old m live waiting → Each (IsBlock m) live
HasBlocks-blocks old m live waiting h =
    HasBlocks-each (IsBlock m) old m live waiting h
    (Each-map (page_laws.IsBlock m (greatest_block old.pages)) (IsBlock m) (λ x b. let l = b.low in record { lies = b.lies; low = omega arith; wide = b.wide }) h.small
    (pages-each old.pages m h.small h.waiting_pages h.in_pages))
    (large-blocks old.large m h.large h.waiting_blocks h.in_larges)

-- so is the first
pub HasBlocks-first : (old : Old) (m : Memory) (x : Extent) (live : List Extent) (waiting : List ℕ) → HasBlocks old m (x ∷ live) waiting → IsBlock m x
HasBlocks-first old m x live waiting h = (HasBlocks-blocks old m (x ∷ live) waiting h).0
