-- What `take` answers, by the part that gives the block.
use Rattle.std.proofs.Common.{◌≡◌, ℕ, ◌<◌, ◌≤◌, List, ◌∷◌, Result, Ok, Err, IfOk, OnErr, ap, arith}
use Rattle.std.specs.declared.alloc.AllocError.{AllocError}
use Rattle.heap_space.specs.Memory.{Memory, with_large}
use Rattle.heap_space.specs.Extents.{Extent, KeepsOutside}
use Rattle.size_pages.specs.HasBlocks as pages
use Rattle.size_pages.specs.declared.Pages.{Pages}
use Rattle.size_pages.proofs.FrameLaws.{HasBlocks_first}
use Rattle.large_objects.specs.Large as larges
use Rattle.large_objects.specs.declared.Large.{Large}
use Rattle.old_space.specs.HasBlocks.{HasBlocks, Stands}
use Rattle.old_space.specs.Calls.{ComesFrom}
use Rattle.old_space.specs.declared.Old.{Old}
use Rattle.old_space.proofs.CallLaws.{taken-small, taken-large, same-small, same-large, stands-after}
use Rattle.old_space.proofs.JoinLaws.{larges-above}
use Rattle.size_pages.specs.HasBlocks.{greatest_block}

-- a page gives it

pub small-ok : (old : Old) (p : Pages) (m now : Memory) (n : ℕ) (r : Result ℕ AllocError) (live : List Extent) (waiting : List ℕ)
    → ((small : List Extent) (w : List ℕ) → pages.HasBlocks old.pages m small w → IfOk r (λ a. pages.HasBlocks p now ((a, n) ∷ small) w))
    → KeepsOutside 4294967296 1099511627776 m now → greatest_block p ≡ greatest_block old.pages → HasBlocks old m live waiting
    → IfOk r (λ a. HasBlocks (record { pages = p; large = old.large; small = old.small }) now ((a, n) ∷ live) waiting)
small-ok old p m now n (Ok a) live waiting taken outside size h = taken-small old p m now (a, n) live waiting taken outside size h
small-ok old p m now n (Err e) live waiting taken outside size h = tt

pub small-err : (old : Old) (p : Pages) (m now : Memory) (r : Result ℕ AllocError) (live : List Extent) (waiting : List ℕ)
    → ((small : List Extent) (w : List ℕ) → pages.HasBlocks old.pages m small w → OnErr r (pages.HasBlocks p now small w))
    → KeepsOutside 4294967296 1099511627776 m now → greatest_block p ≡ greatest_block old.pages → HasBlocks old m live waiting
    → OnErr r (HasBlocks (record { pages = p; large = old.large; small = old.small }) now live waiting)
small-err old p m now (Ok a) live waiting kept outside size h = tt
small-err old p m now (Err e) live waiting kept outside size h = same-small old p m now live waiting kept outside size h

pub small-stands : (old : Old) (p : Pages) (m now : Memory) (n : ℕ) (r : Result ℕ AllocError) → Stands old m
    → ((small : List Extent) (w : List ℕ) → pages.HasBlocks old.pages m small w → IfOk r (λ a. pages.HasBlocks p now ((a, n) ∷ small) w))
    → ((small : List Extent) (w : List ℕ) → pages.HasBlocks old.pages m small w → OnErr r (pages.HasBlocks p now small w))
    → KeepsOutside 4294967296 1099511627776 m now → greatest_block p ≡ greatest_block old.pages
    → Stands (record { pages = p; large = old.large; small = old.small }) now
small-stands old p m now n r s taken kept outside size =
    stands-after old (record { pages = p; large = old.large; small = old.small }) m now n r s
    (λ live waiting h. small-ok old p m now n r live waiting taken outside size h)
    (λ live waiting h. small-err old p m now r live waiting kept outside size h)

-- a block of its own

pub large-ok : (old : Old) (l : Large) (m now : Memory) (n : ℕ) (r : Result ℕ AllocError) (live : List Extent) (waiting : List ℕ)
    → ((large : List Extent) (w : List ℕ) → larges.HasBlocks old.large m large w → IfOk r (λ a. larges.HasBlocks l now ((a, n) ∷ large) w))
    → KeepsOutside 1099511627776 9223372036854775808 m now → IfOk r (λ a. (a ≡ m.next_large) × (now ≡ with_large m n))
    → HasBlocks old m live waiting
    → IfOk r (λ a. HasBlocks (record { pages = old.pages; large = l; small = old.small }) now ((a, n) ∷ live) waiting)
large-ok old l m now n (Ok a) live waiting taken outside place h =
    taken-large old l m now (a, n) live waiting taken outside (ap (λ (k : Memory). k.next_arena) place.1) (ap (λ (k : Memory). k.arena_words) place.1) h
large-ok old l m now n (Err e) live waiting taken outside place h = tt

pub large-err : (old : Old) (l : Large) (m now : Memory) (r : Result ℕ AllocError) (live : List Extent) (waiting : List ℕ)
    → ((large : List Extent) (w : List ℕ) → larges.HasBlocks old.large m large w → OnErr r (larges.HasBlocks l now large w))
    → KeepsOutside 1099511627776 9223372036854775808 m now → OnErr r (now ≡ record m { next_large = now.next_large })
    → HasBlocks old m live waiting → OnErr r (HasBlocks (record { pages = old.pages; large = l; small = old.small }) now live waiting)
large-err old l m now (Ok a) live waiting kept outside same h = tt
large-err old l m now (Err e) live waiting kept outside same h =
    same-large old l m now live waiting kept outside (ap (λ (k : Memory). k.next_arena) same) (ap (λ (k : Memory). k.arena_words) same) h

pub large-stands : (old : Old) (l : Large) (m now : Memory) (n : ℕ) (r : Result ℕ AllocError) → Stands old m
    → ((large : List Extent) (w : List ℕ) → larges.HasBlocks old.large m large w → IfOk r (λ a. larges.HasBlocks l now ((a, n) ∷ large) w))
    → ((large : List Extent) (w : List ℕ) → larges.HasBlocks old.large m large w → OnErr r (larges.HasBlocks l now large w))
    → KeepsOutside 1099511627776 9223372036854775808 m now → IfOk r (λ a. (a ≡ m.next_large) × (now ≡ with_large m n))
    → OnErr r (now ≡ record m { next_large = now.next_large })
    → Stands (record { pages = old.pages; large = l; small = old.small }) now
large-stands old l m now n r s taken kept outside place same =
    stands-after old (record { pages = old.pages; large = l; small = old.small }) m now n r s
    (λ live waiting h. large-ok old l m now n r live waiting taken outside place h)
    (λ live waiting h. large-err old l m now r live waiting kept outside same h)

-- which part gives it

pub small-from : (old : Old) (p : Pages) (m now : Memory) (n : ℕ) (r : Result ℕ AllocError) → Stands old m → n ≤ old.small
    → ((small : List Extent) (w : List ℕ) → pages.HasBlocks old.pages m small w → IfOk r (λ a. pages.HasBlocks p now ((a, n) ∷ small) w))
    → IfOk r (ComesFrom old.small n)
small-from old p m now n (Ok a) s few taken =
    let b = HasBlocks_first p now a n s.blocks.small s.blocks.waiting_pages (taken s.blocks.small s.blocks.waiting_pages s.blocks.in_pages) in
    let high = b.high in let wide = b.wide in record { page = λ e. omega arith; large = λ e. absurd (omega (arith, e)) }
small-from old p m now n (Err e) s few taken = tt

pub large-from : (old : Old) (l : Large) (m now : Memory) (n : ℕ) (r : Result ℕ AllocError) → Stands old m → old.small < n
    → ((large : List Extent) (w : List ℕ) → larges.HasBlocks old.large m large w → IfOk r (λ a. larges.HasBlocks l now ((a, n) ∷ large) w))
    → IfOk r (ComesFrom old.small n)
large-from old l m now n (Ok a) s many taken =
    let above = larges-above l now ((a, n) ∷ s.blocks.large) s.blocks.waiting_blocks (taken s.blocks.large s.blocks.waiting_blocks s.blocks.in_larges) in
    record { page = λ e. absurd (omega (arith, e)); large = λ e. above.0 }
large-from old l m now n (Err e) s many taken = tt

pub large-arenas : (m now : Memory) (n : ℕ) (r : Result ℕ AllocError) → IfOk r (λ a. (a ≡ m.next_large) × (now ≡ with_large m n))
    → OnErr r (now ≡ record m { next_large = now.next_large }) → now.arena_words ≡ m.arena_words
large-arenas m now n (Ok a) place same = ap (λ (k : Memory). k.arena_words) place.1
large-arenas m now n (Err e) place same = ap (λ (k : Memory). k.arena_words) same
