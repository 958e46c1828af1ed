-- What sweeping the next block does, by whether it is kept.
use Rattle.std.proofs.Common.{◌≡◌, ℕ, ◌+◌, true, false, List, [], ◌∷◌, ◌++◌, refl, sym, ◌∙◌, subst, append-nil}
use Rattle.heap_space.specs.Places.{word_at}
use Rattle.heap_space.specs.Memory.{Memory, without_large}
use Rattle.heap_space.specs.Extents.{Extent, KeepsOutside}
use Rattle.object_header.specs.Words.{survives_sweep, without_flag}
use Rattle.object_header.specs.declared.flags.Flag.TheVariants.{Visited}
use Rattle.large_objects.specs.Blocks.{begin_elsewhere}
use Rattle.large_objects.specs.Sweep.{unvisited, swept, left_over, freed_births}
use Rattle.large_objects.specs.Large.{HasBlocks, IsNext}
use Rattle.large_objects.specs.declared.Large.{Large}
use Rattle.large_objects.proofs.PlaceLaws.{outside-written}
use Rattle.large_objects.proofs.NextLaws.{next-block, block-within}

-- there is one next block
pub next-same : (large : Large) (m : Memory) (r a : ℕ) (live : List Extent) (waiting : List ℕ) → IsNext large m r
    → HasBlocks large m live (a ∷ waiting) → r ≡ a
next-same large m r a live waiting next h = let one = next.blocks.waits in let two = h.waits in let both = one ∙ sym two in cc

-- what is said of the next block is said of the first that waits
pub at-next : (P : ℕ → Type 0) (large : Large) (m : Memory) (r : ℕ) (live : List Extent) (a : ℕ) (waiting : List ℕ) → IsNext large m r → P r
    → HasBlocks large m live (a ∷ waiting) → P a
at-next P large m r live a waiting next holds h = subst P (next-same large m r a live waiting next h) holds

-- the other way round
pub first-next : (large : Large) (m : Memory) (r : ℕ) (live : List Extent) (a : ℕ) (waiting : List ℕ) → IsNext large m r
    → HasBlocks large m live (a ∷ waiting) → HasBlocks large m live (r ∷ waiting)
first-next large m r live a waiting next h =
    subst (λ (b : ℕ). HasBlocks large m live (b ∷ waiting)) (sym (next-same large m r a live waiting next h)) h

-- a block that is kept

pub live-kept : (m : Memory) (a : ℕ) (live : List Extent) → survives_sweep (word_at m.blocks a) ≡ true → left_over m a live ≡ live
live-kept m a live k = rw k refl

pub space-kept : (m : Memory) (a : ℕ) → survives_sweep (word_at m.blocks a) ≡ true → swept m a ≡ unvisited m a
space-kept m a k = rw k refl

pub births-kept : (m : Memory) (a : ℕ) (old : List ℕ) → survives_sweep (word_at m.blocks a) ≡ true → old ≡ old ++ freed_births m a
births-kept m a old k = rw k (sym (append-nil old))

pub outside-kept : (large : Large) (m now : Memory) (a : ℕ) → IsNext large m a → now ≡ unvisited m a
    → KeepsOutside 1099511627776 9223372036854775808 m now
outside-kept large m now a next e =
    let w = block-within m a (next-block large m a next) in
    subst (λ (k : Memory). KeepsOutside 1099511627776 9223372036854775808 m k) (sym e)
    (outside-written m a (without_flag (word_at m.blocks a) Visited) w.0 w.1)

-- a block that goes

pub live-freed : (m : Memory) (a : ℕ) (live : List Extent) → survives_sweep (word_at m.blocks a) ≡ false → left_over m a live ≡ begin_elsewhere a live
live-freed m a live k = rw k refl

pub space-freed : (m : Memory) (a : ℕ) → survives_sweep (word_at m.blocks a) ≡ false → swept m a ≡ without_large m a
space-freed m a k = rw k refl

pub births-freed : (m : Memory) (a : ℕ) → survives_sweep (word_at m.blocks a) ≡ false → freed_births m a ≡ word_at m.blocks (a + 1) ∷ []
births-freed m a k = rw k refl
