-- What each call leaves.
use Rattle.std.proofs.Common.{◌≡◌, ℕ, List, [], ◌∷◌, ◌++◌, Result, Ok, Err, IfOk, OnErr, refl, ◌∙◌, arith}
use Rattle.std.proofs.lemmas.List.Sorted.{IsPermutation-refl}
use Rattle.std.specs.declared.alloc.AllocError.{AllocError}
use Rattle.heap_space.specs.Memory.{Memory}
use Rattle.heap_space.specs.Extents.{Extent, KeepsOutside, KeepsWords}
use Rattle.heap_space.proofs.ExtentLaws.{Each-join}
use Rattle.size_pages.specs.HasBlocks as pages
use Rattle.size_pages.specs.declared.Pages.{Pages}
use Rattle.large_objects.specs.Large as larges
use Rattle.large_objects.specs.declared.Large.{Large}
use Rattle.large_objects.proofs.Same.{Same, Each-same, same-permutation, permutation-same, count-middle}
use Rattle.old_space.specs.HasBlocks.{HasBlocks, Stands}
use Rattle.old_space.specs.declared.Old.{Old}
use Rattle.old_space.proofs.Narrow.{kept-below, kept-above}
use Rattle.old_space.proofs.PartLaws.{pages-kept, larges-kept, pages-below}
use Rattle.old_space.proofs.JoinLaws.{larges-above}
use Rattle.size_pages.specs.HasBlocks.{greatest_block}

-- no block yet
pub fresh : (old : Old) (m : Memory) → pages.HasBlocks old.pages m [] [] → larges.HasBlocks old.large m [] [] → greatest_block old.pages ≡ old.small
    → HasBlocks old m [] []
fresh old m p l e = record {
  small = [];
  large = [];
  waiting_pages = [];
  waiting_blocks = [];
  in_pages = p;
  in_larges = l;
  same = IsPermutation-refl [];
  waits = refl;
  greatest = e;
}

-- a block of a page more
pub taken-small : (old : Old) (p : Pages) (m now : Memory) (x : Extent) (live : List Extent) (waiting : List ℕ)
    → ((small : List Extent) (w : List ℕ) → pages.HasBlocks old.pages m small w → pages.HasBlocks p now (x ∷ small) w)
    → KeepsOutside 4294967296 1099511627776 m now → greatest_block p ≡ greatest_block old.pages → HasBlocks old m live waiting
    → HasBlocks (record { pages = p; large = old.large; small = old.small }) now (x ∷ live) waiting
taken-small old p m now x live waiting taken outside size h =
    let before = same-permutation (h.small ++ h.large) live h.same in
    let same : Same (x ∷ (h.small ++ h.large)) (x ∷ live) = record { as_often = λ z. let e = before.as_often z in omega (arith, e) } in
    record {
      small = x ∷ h.small;
      large = h.large;
      waiting_pages = h.waiting_pages;
      waiting_blocks = h.waiting_blocks;
      in_pages = taken h.small h.waiting_pages h.in_pages;
      in_larges = larges-kept old.large m now h.large h.waiting_blocks h.in_larges outside;
      same = permutation-same (x ∷ (h.small ++ h.large)) (x ∷ live) same;
      waits = h.waits;
      greatest = size ∙ h.greatest;
    }

-- a large block more
pub taken-large : (old : Old) (l : Large) (m now : Memory) (x : Extent) (live : List Extent) (waiting : List ℕ)
    → ((large : List Extent) (w : List ℕ) → larges.HasBlocks old.large m large w → larges.HasBlocks l now (x ∷ large) w)
    → KeepsOutside 1099511627776 9223372036854775808 m now → now.next_arena ≡ m.next_arena → now.arena_words ≡ m.arena_words
    → HasBlocks old m live waiting → HasBlocks (record { pages = old.pages; large = l; small = old.small }) now (x ∷ live) waiting
taken-large old l m now x live waiting taken outside next words h =
    let before = same-permutation (h.small ++ h.large) live h.same in
    let same : Same (h.small ++ x ∷ h.large) (x ∷ live) =
    record { as_often = λ z. let e = before.as_often z in omega (arith, e, count-middle z x h.small h.large) } in
    record {
      small = h.small;
      large = x ∷ h.large;
      waiting_pages = h.waiting_pages;
      waiting_blocks = h.waiting_blocks;
      in_pages = pages-kept old.pages m now h.small h.waiting_pages h.in_pages next words outside;
      in_larges = taken h.large h.waiting_blocks h.in_larges;
      same = permutation-same (h.small ++ x ∷ h.large) (x ∷ live) same;
      waits = h.waits;
      greatest = h.greatest;
    }

-- nothing changes in the pages
pub same-small : (old : Old) (p : Pages) (m now : Memory) (live : List Extent) (waiting : List ℕ)
    → ((small : List Extent) (w : List ℕ) → pages.HasBlocks old.pages m small w → pages.HasBlocks p now small w)
    → KeepsOutside 4294967296 1099511627776 m now → greatest_block p ≡ greatest_block old.pages → HasBlocks old m live waiting
    → HasBlocks (record { pages = p; large = old.large; small = old.small }) now live waiting
same-small old p m now live waiting kept outside size h = record {
  small = h.small;
  large = h.large;
  waiting_pages = h.waiting_pages;
  waiting_blocks = h.waiting_blocks;
  in_pages = kept h.small h.waiting_pages h.in_pages;
  in_larges = larges-kept old.large m now h.large h.waiting_blocks h.in_larges outside;
  same = h.same;
  waits = h.waits;
  greatest = size ∙ h.greatest;
}

-- or among the large blocks
pub same-large : (old : Old) (l : Large) (m now : Memory) (live : List Extent) (waiting : List ℕ)
    → ((large : List Extent) (w : List ℕ) → larges.HasBlocks old.large m large w → larges.HasBlocks l now large w)
    → KeepsOutside 1099511627776 9223372036854775808 m now → now.next_arena ≡ m.next_arena → now.arena_words ≡ m.arena_words
    → HasBlocks old m live waiting → HasBlocks (record { pages = old.pages; large = l; small = old.small }) now live waiting
same-large old l m now live waiting kept outside next words h = record {
  small = h.small;
  large = h.large;
  waiting_pages = h.waiting_pages;
  waiting_blocks = h.waiting_blocks;
  in_pages = pages-kept old.pages m now h.small h.waiting_pages h.in_pages next words outside;
  in_larges = kept h.large h.waiting_blocks h.in_larges;
  same = h.same;
  waits = h.waits;
  greatest = h.greatest;
}

-- it stands after either answer
pub stands-after : (old new : Old) (m now : Memory) (n : ℕ) (r : Result ℕ AllocError) → Stands old m
    → ((live : List Extent) (waiting : List ℕ) → HasBlocks old m live waiting → IfOk r (λ a. HasBlocks new now ((a, n) ∷ live) waiting))
    → ((live : List Extent) (waiting : List ℕ) → HasBlocks old m live waiting → OnErr r (HasBlocks new now live waiting)) → Stands new now
stands-after old new m now n (Ok a) s ok err = record { live = (a, n) ∷ s.live; waiting = s.waiting; blocks = ok s.live s.waiting s.blocks }
stands-after old new m now n (Err e) s ok err = record { live = s.live; waiting = s.waiting; blocks = err s.live s.waiting s.blocks }

-- no word of a live block changes

pub kept-small : (old : Old) (m now : Memory) (live : List Extent) (waiting : List ℕ) (h : HasBlocks old m live waiting)
    → KeepsWords m now h.small → KeepsOutside 4294967296 1099511627776 m now → KeepsWords m now live
kept-small old m now live waiting h kept outside =
    Each-same _ (h.small ++ h.large) live (same-permutation (h.small ++ h.large) live h.same)
    (Each-join _ h.small h.large kept (kept-above m now h.large outside (larges-above old.large m h.large h.waiting_blocks h.in_larges)))

pub kept-large : (old : Old) (m now : Memory) (live : List Extent) (waiting : List ℕ) (h : HasBlocks old m live waiting)
    → KeepsWords m now h.large → KeepsOutside 1099511627776 9223372036854775808 m now → KeepsWords m now live
kept-large old m now live waiting h kept outside =
    Each-same _ (h.small ++ h.large) live (same-permutation (h.small ++ h.large) live h.same)
    (Each-join _ h.small h.large (kept-below m now h.small outside (pages-below old.pages m h.small h.waiting_pages h.in_pages)) kept)
