-- What the words of a page say of its blocks, and what the steps inside a page change.
use Rattle.std.specs.Prelude.{◌≡◌, ◌≢◌, ℕ, ◌+◌, ◌*◌, ◌<◌, ◌≤◌, ◌⊎◌, List, [], ◌∷◌, ◌++◌, length}
use Rattle.heap_space.specs.Extents.{Extent, Each, AreApart}
use Rattle.size_pages.specs.PageWords.{Words}
use Rattle.size_pages.specs.PageHeader.{first_free_at, live_count_at, first_fresh_at, kind_at, blocks_at}
use Rattle.size_pages.specs.PageHeader.{link_at, class_of, first_free, live_count, first_fresh, kind_of}
use Rattle.size_pages.specs.PageHeader.{next_free}

-- the free blocks of n words from p on: word 0 of each is the flag Free alone, and word 1 the place of the next
abbrev pub Chain : Words → ℕ → ℕ → List Extent → Type 0
Chain w n p [] = p ≡ 0
Chain w n p (x ∷ xs) = (p ≡ x.0) × (0 < p) × (w p ≡ 4194304) × Chain w n (next_free w p) xs

-- the block has n words, from low on and below high
abbrev pub IsBlockOf : ℕ → ℕ → ℕ → Extent → Type 0
IsBlockOf n low high x = (x.1 ≡ n) × (low ≤ x.0) × (x.0 + x.1 ≤ high)

-- one of the blocks begins at a
abbrev pub BeginsAt : ℕ → List Extent → Type 0
BeginsAt a [] = ⊥
BeginsAt a (x ∷ xs) = (x.0 ≡ a) ⊎ BeginsAt a xs

-- the page in use at p has these free blocks, chained, and these live ones
pub record PageHolds (w : Words) (size : ℕ) (p : ℕ) (free : List Extent) (live : List Extent) : Type 0 where
  pub words : 2 ≤ class_of w p
  pub chain : Chain w (class_of w p) (first_free w p) free
  pub count : live_count w p ≡ length live
  pub fresh_low : blocks_at p ≤ first_fresh w p
  pub fresh_high : first_fresh w p ≤ p + size
  pub blocks : Each (IsBlockOf (class_of w p) (blocks_at p) (first_fresh w p)) (free ++ live)
  pub apart : AreApart (free ++ live)
  -- below its first fresh word each block is free or live
  pub all : (length free + length live) * class_of w p + blocks_at p ≡ first_fresh w p
  pub filled : (i : ℕ) → blocks_at p + i * class_of w p < first_fresh w p
      → BeginsAt (blocks_at p + i * class_of w p) (free ++ live)

-- all words but those at these four places stay
abbrev pub SameBut : Words → Words → ℕ → ℕ → ℕ → ℕ → Type 0
SameBut old new a b c d = (e : ℕ) → e ≢ a → e ≢ b → e ≢ c → e ≢ d → new e ≡ old e

-- the first block of the chain is handed out
pub record TakesChained (old new : Words) (p x : ℕ) : Type 0 where
  pub first : x ≡ first_free old p
  pub head : first_free new p ≡ next_free old x
  pub count : live_count new p ≡ live_count old p + 1
  pub cleared : new x ≡ 0
  pub rest : SameBut old new (first_free_at p) (live_count_at p) (live_count_at p) x

-- the first of the blocks that were never handed out is handed out
pub record TakesFresh (old new : Words) (p x n : ℕ) : Type 0 where
  pub first : x ≡ first_fresh old p
  pub fresh : first_fresh new p ≡ x + n
  pub count : live_count new p ≡ live_count old p + 1
  pub cleared : new x ≡ 0
  pub rest : SameBut old new (live_count_at p) (first_fresh_at p) (first_fresh_at p) x

-- the block at x goes on the chain
pub record GivesBack (old new : Words) (p x : ℕ) : Type 0 where
  pub head : first_free new p ≡ x
  pub next : next_free new x ≡ first_free old p
  pub free : new x ≡ 4194304
  pub count : live_count new p + 1 ≡ live_count old p
  pub rest : SameBut old new (first_free_at p) (live_count_at p) x (link_at x)

-- the page becomes one of no class, on no list
pub record Clears (old new : Words) (p : ℕ) : Type 0 where
  pub class : class_of new p ≡ 0
  pub chain : first_free new p ≡ 0
  pub count : live_count new p ≡ 0
  pub fresh : first_fresh new p ≡ 0
  pub kind : kind_of new p ≡ 0
  pub rest : (e : ℕ) → e ≢ kind_at p → e ≢ p → e ≢ first_free_at p → e ≢ live_count_at p → e ≢ first_fresh_at p
      → new e ≡ old e

-- the page gets the class n, with no block handed out
pub record Starts (old new : Words) (p n : ℕ) : Type 0 where
  pub class : class_of new p ≡ n
  pub chain : first_free new p ≡ 0
  pub count : live_count new p ≡ 0
  pub fresh : first_fresh new p ≡ blocks_at p
  pub rest : SameBut old new p (first_free_at p) (live_count_at p) (first_fresh_at p)
