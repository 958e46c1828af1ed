-- Laws of the live blocks, for callers.
use Rattle.std.proofs.Common.{inl, inr, ◌≡◌, ℕ, ◌<◌, ◌≤◌, true, List, [], ◌∷◌, ◌++◌, sym, ap, ◌∙◌, arith, subst, IsTrue, map}
use Rattle.std.specs.Prelude.{filter}
use Rattle.std.specs.List.Sorted.{IsPermutation}
use Rattle.std.proofs.lemmas.Bool.{cases_Bool}
use Rattle.std.proofs.lemmas.Bool.Decides.{nat_tests}
use Rattle.std.proofs.lemmas.List.Sorted.{IsPermutation-trans, IsPermutation-middle}
use Rattle.heap_space.specs.Places.{lies_in_one}
use Rattle.heap_space.specs.Memory.{Memory, fresh_memory}
use Rattle.heap_space.specs.Extents.{Extent, extent_of, Each, AreApart, begins_between, lies_within, IsUntouched}
use Rattle.heap_space.proofs.ExtentLaws.{lies_in_one-between, Each-map}
use Rattle.large_objects.specs.Blocks.{larges_of, places_of, AreRising}
use Rattle.large_objects.specs.Large.{HasBlocks}
use Rattle.large_objects.specs.declared.Large.{Large}
use Rattle.large_objects.proofs.Same.{Each-same, AreApart-same, same-permutation}
use Rattle.large_objects.proofs.Rising.{AreApart-rising}

-- where the large blocks are the same, so are both lists
pub blocks-as : (large : Large) (old new : Memory) (live : List Extent) (waiting : List ℕ)
    → HasBlocks large old live waiting → larges_of new ≡ larges_of old → HasBlocks large new live waiting
blocks-as large old new live waiting h e = record {
  listed = h.listed ∙ sym e;
  same = subst (λ (xs : List Extent). IsPermutation xs live) (sym e) h.same;
  rising = subst (λ (xs : List Extent). AreRising xs) (sym e) h.rising;
  wide = subst (λ (xs : List Extent). Each (λ x. 2 ≤ x.1) xs) (sym e) h.wide;
  waits = h.waits ∙ ap (λ (xs : List Extent). places_of (filter (begins_between large.wait_from large.wait_end) xs)) (sym e);
  counted = h.counted;
}

-- a fresh memory has none
pub larges-fresh : (m : Memory) (nursery arena_words : ℕ) → m ≡ fresh_memory nursery arena_words → larges_of m ≡ []
larges-fresh m nursery arena_words e = ap (λ (k : Memory). larges_of k) e

-- THE FRAME LAW: writes inside live blocks, and changes outside the large blocks, change neither list
pub HasBlocks_untouched : (large : Large) (old new : Memory) (live : List Extent) (waiting : List ℕ)
    → HasBlocks large old live waiting → IsUntouched 1099511627776 9223372036854775808 old new live → HasBlocks large new live waiting
HasBlocks_untouched large old new live waiting h u = blocks-as large old new live waiting h u.blocks

-- the live blocks may be told in any order
pub HasBlocks_permuted : (large : Large) (m : Memory) (live other : List Extent) (waiting : List ℕ)
    → HasBlocks large m live waiting → IsPermutation live other → HasBlocks large m other waiting
HasBlocks_permuted large m live other waiting h p = record {
  listed = h.listed;
  same = IsPermutation-trans (larges_of m) live other h.same p;
  rising = h.rising;
  wide = h.wide;
  waits = h.waits;
  counted = h.counted;
}

-- any of them first
pub HasBlocks_front : (large : Large) (m : Memory) (fs ls : List Extent) (x : Extent) (waiting : List ℕ)
    → HasBlocks large m (fs ++ x ∷ ls) waiting → HasBlocks large m (x ∷ (fs ++ ls)) waiting
HasBlocks_front large m fs ls x waiting h =
    HasBlocks_permuted large m (fs ++ x ∷ ls) (x ∷ (fs ++ ls)) waiting h (IsPermutation-middle fs x ls)

-- what each law below says of the blocks by rising place holds of them in any order
pub HasBlocks-each : (P : Extent → Type 0) (large : Large) (m : Memory) (live : List Extent) (waiting : List ℕ)
    → HasBlocks large m live waiting → Each P (larges_of m) → Each P live
HasBlocks-each P large m live waiting h all = Each-same P (larges_of m) live (same-permutation (larges_of m) live h.same) all

-- no two live blocks share a word
pub HasBlocks-apart : (large : Large) (m : Memory) (live : List Extent) (waiting : List ℕ) → HasBlocks large m live waiting → AreApart live
HasBlocks-apart large m live waiting h =
    AreApart-same (larges_of m) live (same-permutation (larges_of m) live h.same) (AreApart-rising (larges_of m) h.rising)

-- each has two words or more
pub HasBlocks-wide : (large : Large) (m : Memory) (live : List Extent) (waiting : List ℕ) → HasBlocks large m live waiting
    → Each (λ x. 2 ≤ x.1) live
HasBlocks-wide large m live waiting h = HasBlocks-each (λ x. 2 ≤ x.1) large m live waiting h h.wide

passes : (low high : ℕ) (xs : List Extent) → Each (λ x. (low ≤ x.0) × (x.0 < high)) (filter (begins_between low high) xs)
passes low high [] = tt
passes low high (x ∷ xs) = elim (cases_Bool (begins_between low high x)) [
  | inl h ↦ (let a : low ≤ x.0 = grind (arith, nat_tests) in let b : x.0 < high = grind (arith, nat_tests) in rw h ((a, b), passes low high xs))
  | inr h ↦ rw h (passes low high xs)
]

pub larges-within : (m : Memory) → Each (λ x. (1099511627776 ≤ x.0) × (x.0 < 9223372036854775808)) (larges_of m)
larges-within m = passes 1099511627776 9223372036854775808 (map extent_of m.blocks)

-- each begins among the places of the large blocks
pub HasBlocks-within : (large : Large) (m : Memory) (live : List Extent) (waiting : List ℕ) → HasBlocks large m live waiting
    → Each (λ x. (1099511627776 ≤ x.0) × (x.0 < 9223372036854775808)) live
HasBlocks-within large m live waiting h = HasBlocks-each _ large m live waiting h (larges-within m)

lies-more : (x : Extent) (xs ys : List Extent) → Each (λ y. lies_within xs y.0 y.1 ≡ true) ys → Each (λ y. lies_within (x ∷ xs) y.0 y.1 ≡ true) ys
lies-more x xs ys all = Each-map (λ y. lies_within xs y.0 y.1 ≡ true) (λ y. lies_within (x ∷ xs) y.0 y.1 ≡ true) (λ y h. grind (arith, h)) ys all

lies-themselves : (xs : List Extent) → Each (λ y. lies_within xs y.0 y.1 ≡ true) xs
lies-themselves [] = tt
lies-themselves (x ∷ xs) = (grind (arith, nat_tests), lies-more x xs xs (lies-themselves xs))

-- each lies in one block of the memory
pub HasBlocks-lies : (large : Large) (m : Memory) (live : List Extent) (waiting : List ℕ) → HasBlocks large m live waiting
    → Each (λ x. IsTrue (lies_in_one m.blocks x.0 x.1)) live
HasBlocks-lies large m live waiting h =
    HasBlocks-each _ large m live waiting h
    (Each-map (λ x. lies_within (larges_of m) x.0 x.1 ≡ true) _ (λ x l. lies_in_one-between m 1099511627776 9223372036854775808 x.0 x.1 l) (larges_of m) (lies-themselves (larges_of m)))
