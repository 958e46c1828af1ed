-- Which words stay as a block comes or goes.
use Rattle.std.proofs.Common.{inl, inr, ◌≡◌, ℕ, ◌≤◌, List, [], ◌∷◌, sym, ap, arith, subst}
use Rattle.heap_space.specs.Places.{Placed, word_at}
use Rattle.heap_space.specs.Memory.{Memory, with_large, without_large}
use Rattle.heap_space.specs.Order.{IsInOrder}
use Rattle.heap_space.specs.Extents.{Extent, IsApart, IsInside, KeepsOutside, KeepsWords}
use Rattle.heap_space.proofs.Order.{word_at-with_large}
use Rattle.heap_space.proofs.ExtentLaws.{Each-map}
use Rattle.large_objects.specs.Blocks.{larges_of}
use Rattle.large_objects.specs.Large.{HasBlocks}
use Rattle.large_objects.specs.declared.Large.{Large}
use Rattle.large_objects.proofs.PlaceLaws.{Each-splits, word_at-dropped, outside-with_large, outside-without_large}
use Rattle.large_objects.proofs.LargeLaws.{HasBlocks-apart}
use Rattle.large_objects.proofs.NextLaws.{IsBlock, live-splits}

pub outside-dropped : (m now : Memory) (a : ℕ) → IsInOrder m → IsBlock m a → now ≡ without_large m a
    → KeepsOutside 1099511627776 9223372036854775808 m now
outside-dropped m now a o b e =
    let two = b.wide in
    subst (λ (k : Memory). KeepsOutside 1099511627776 9223372036854775808 m k) (sym e) (outside-without_large m (a, b.words) o (omega arith) b.splits)

-- no word of the other live blocks changes
pub kept-dropped : (large : Large) (m now : Memory) (a n : ℕ) (live : List Extent) (waiting : List ℕ) → IsInOrder m
    → HasBlocks large m ((a, n) ∷ live) waiting → now ≡ without_large m a → KeepsWords m now live
kept-dropped large m now a n live waiting o h e =
    let at = live-splits large m (a, n) live waiting h in
    let two : 2 ≤ n = Each-splits (λ x. 2 ≤ x.1) (a, n) (larges_of m) at h.wide in
    let apart = HasBlocks-apart large m ((a, n) ∷ live) waiting h in
    subst (λ (k : Memory). KeepsWords m k live) (sym e)
    (Each-map (IsApart (a, n)) (λ x. (p : ℕ) → IsInside x p → word_at (without_large m a).blocks p ≡ word_at m.blocks p)
    (λ x away p in-x. word_at-dropped m (a, n) p o (omega arith) at (elim away [ inl f ↦ inr (omega (arith, in-x.0)) | inr f ↦ inl (omega (arith, in-x.1)) ])) live apart.0)

-- a new block changes no word
pub kept-grown : (m now : Memory) (n : ℕ) (live : List Extent) → IsInOrder m → now ≡ with_large m n → KeepsWords m now live
kept-grown m now n live o e = subst (λ (k : Memory). KeepsWords m k live) (sym e) (all live) where
  all : (xs : List Extent) → KeepsWords m (with_large m n) xs
  all [] = tt
  all (x ∷ xs) = (λ p inside. word_at-with_large m n p o, all xs)

pub outside-grown : (m now : Memory) (n : ℕ) → IsInOrder m → now ≡ with_large m n → KeepsOutside 1099511627776 9223372036854775808 m now
outside-grown m now n o e = subst (λ (k : Memory). KeepsOutside 1099511627776 9223372036854775808 m k) (sym e) (outside-with_large m n o)

-- the same blocks have the same words
pub kept-same : (m now : Memory) (live : List Extent) → now.blocks ≡ m.blocks → KeepsWords m now live
kept-same m now [] e = tt
kept-same m now (x ∷ xs) e = (λ p inside. ap (λ (ps : List Placed). word_at ps p) e, kept-same m now xs e)
