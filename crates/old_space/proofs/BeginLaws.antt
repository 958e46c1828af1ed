-- A sweep begins.
use Rattle.std.proofs.Common.{◌≡◌, ℕ, ◌+◌, ◌<◌, ◌≤◌, List, [], ◌∷◌, ◌++◌, length-append, refl, sym, ◌∙◌, arith, subst}
use Rattle.std.specs.List.{Contains}
use Rattle.std.proofs.lemmas.List.Elements.{Contains-append_left, Contains-append_right}
use Rattle.heap_space.specs.Memory.{Memory}
use Rattle.heap_space.specs.Extents.{Extent, Each, KeepsOutside, KeepsWords}
use Rattle.heap_space.proofs.ExtentLaws.{Each-both, Each-join}
use Rattle.size_pages.specs.HasBlocks as pages
use Rattle.size_pages.specs.PageLists.{IsIn}
use Rattle.size_pages.specs.PageWords.{IsInArenas}
use Rattle.size_pages.specs.Calls as page_calls
use Rattle.size_pages.specs.Calls.{page_of}
use Rattle.size_pages.specs.declared.Pages.{Pages}
use Rattle.size_pages.proofs.FrameLaws.{IsBlock}
use Rattle.large_objects.specs.Blocks.{larges_of, places_of}
use Rattle.large_objects.specs.Large as larges
use Rattle.large_objects.specs.declared.Large.{Large}
use Rattle.large_objects.proofs.Same.{Each-same, length-same, same-permutation}
use Rattle.large_objects.proofs.Rising.{length-places}
use Rattle.old_space.specs.HasBlocks.{HasBlocks}
use Rattle.old_space.specs.Calls.{unit_of, NoneWaits, BeginsSweep}
use Rattle.old_space.specs.declared.Old.{Old}
use Rattle.old_space.proofs.PartLaws.{larges-kept, pages-each}
use Rattle.old_space.proofs.JoinLaws.{larges-above}
use Rattle.old_space.proofs.GiveLaws.{outside-arenas}
use Rattle.old_space.proofs.CallLaws.{kept-small}
use Rattle.old_space.proofs.Narrow.{outside-pages}
use Rattle.old_space.proofs.WaitLaws.{contains-in, unit-page, unit-large}
use Rattle.old_space.proofs.UnitLaws.{only-live}
use Rattle.size_pages.specs.HasBlocks.{greatest_block}
use Rattle.old_space.specs.HasBlocks.{page_size}

-- neither part has a unit that waits

no-pages : (xs ys : List ℕ) → [] ≡ xs ++ ys → xs ≡ []
no-pages [] ys e = refl
no-pages (x ∷ xs) ys e = cc

no-blocks : (xs ys : List ℕ) → [] ≡ xs ++ ys → ys ≡ []
no-blocks [] ys e = sym e
no-blocks (x ∷ xs) ys e = cc

pub no-page-waits : (old : Old) (m : Memory) (live : List Extent) (h : HasBlocks old m live []) → pages.HasBlocks old.pages m h.small []
no-page-waits old m live h =
    subst (λ (w : List ℕ). pages.HasBlocks old.pages m h.small w) (no-pages h.waiting_pages h.waiting_blocks h.waits) h.in_pages

pub no-block-waits : (old : Old) (m : Memory) (live : List Extent) (h : HasBlocks old m live []) → larges.HasBlocks old.large m h.large []
no-block-waits old m live h =
    subst (λ (w : List ℕ). larges.HasBlocks old.large m h.large w) (no-blocks h.waiting_pages h.waiting_blocks h.waits) h.in_larges

-- what the parts ask

pub pages-ready : (old : Old) (m : Memory) → NoneWaits old m → page_calls.NoneWaits old.pages m
pages-ready old m n = record { live = n.blocks.small; fits = no-page-waits old m n.live n.blocks }

pub larges-ready : (old : Old) (m now : Memory) → NoneWaits old m → IsInArenas m now → larges.NoneWaits old.large now
larges-ready old m now n arenas = record {
  live = n.blocks.large;
  blocks = larges-kept old.large m now n.blocks.large [] (no-block-waits old m n.live n.blocks) (outside-arenas m now arenas);
}

-- each large block is told

told : (xs ys : List Extent) → ((a : ℕ) → Contains (places_of ys) a → Contains (places_of xs) a) → Each (λ x. Contains (places_of xs) x.0) ys
told xs [] f = tt
told xs (y ∷ ys) f = (f y.0 (0, omega arith, refl), told xs ys (λ a h. f a (Contains-append_right (y.0 ∷ []) (places_of ys) a h)))

-- a block of a page has a word below the large ones
small-place : (x : Extent) → x.0 + x.1 ≤ 1099511627776 → 2 ≤ x.1 → x.0 < 1099511627776
small-place x below wide = omega arith

page-told : (new : Old) (a : ℕ) (ps bs : List ℕ) → IsIn (page_of (page_size new) a) ps → a < 1099511627776 → Contains (ps ++ bs) (unit_of new a)
page-told new a ps bs is low =
    subst (λ (u : ℕ). Contains (ps ++ bs) u) (sym (unit-page new a low)) (Contains-append_left ps bs (page_of (page_size new) a) (contains-in (page_of (page_size new) a) ps is))

pub begun : (old : Old) (p : Pages) (l : Large) (m now : Memory) (live : List Extent)
    → ((small : List Extent) → pages.HasBlocks old.pages m small [] → page_calls.BeginsSweep p now small) → IsInArenas m now → greatest_block p ≡ greatest_block old.pages
    → ((large : List Extent) → larges.HasBlocks old.large now large [] → larges.HasBlocks l now large (places_of (larges_of now)))
    → HasBlocks old m live [] → BeginsSweep (record { pages = p; large = l; small = old.small }) now live
begun old p l m now live pages_begin arenas size larges_begin h =
    let new : Old = record { pages = p; large = l; small = old.small } in
    let first = pages_begin h.small (no-page-waits old m live h) in
    let second = larges_begin h.large (larges-kept old.large m now h.large [] (no-block-waits old m live h) (outside-arenas m now arenas)) in
    let blocks : List ℕ = places_of (larges_of now) in
    let whole = same-permutation (h.small ++ h.large) live h.same in
    let same = same-permutation (larges_of now) h.large second.same in
    record {
      waiting = first.waiting ++ blocks;
      blocks = record {
        small = h.small;
        large = h.large;
        waiting_pages = first.waiting;
        waiting_blocks = blocks;
        in_pages = first.fits;
        in_larges = second;
        same = h.same;
        waits = refl;
        greatest = size ∙ h.greatest;
      };
      every = Each-same (λ x. Contains (first.waiting ++ blocks) (unit_of new x.0)) (h.small ++ h.large) live whole
          (Each-join (λ x. Contains (first.waiting ++ blocks) (unit_of new x.0)) h.small h.large
          (Each-both (λ x. IsIn (page_of (pages.page_size p) x.0) first.waiting) (IsBlock now (greatest_block p)) (λ x. Contains (first.waiting ++ blocks) (unit_of new x.0))
          (λ x is block. page-told new x.0 first.waiting blocks is (small-place x block.high block.wide)) h.small first.every
          (pages-each p now h.small first.waiting first.fits))
          (Each-both (λ x. Contains blocks x.0) (λ x. 1099511627776 ≤ x.0) (λ x. Contains (first.waiting ++ blocks) (unit_of new x.0))
          (λ x is above. subst (λ (u : ℕ). Contains (first.waiting ++ blocks) u) (sym (unit-large new x.0 above))
          (Contains-append_right first.waiting blocks x.0 is))
          h.large
          (Each-same (λ x. Contains blocks x.0) (larges_of now) h.large same (told (larges_of now) (larges_of now) (λ a c. c)))
          (larges-above l now h.large blocks second)));
      only = only-live new now h.small h.large live first second.same (larges-above l now h.large blocks second) h.same;
      most = omega (
        arith,
        first.most,
        length-append first.waiting blocks,
        length-places (larges_of now),
        length-same (larges_of now) h.large same,
        length-same (h.small ++ h.large) live whole,
        length-append h.small h.large,
      );
    }

-- the large blocks change no word
pub begun-last : (old : Old) (p : Pages) (l : Large) (m now last : Memory) (live : List Extent)
    → ((small : List Extent) → pages.HasBlocks old.pages m small [] → page_calls.BeginsSweep p now small) → IsInArenas m now → greatest_block p ≡ greatest_block old.pages
    → ((large : List Extent) → larges.HasBlocks old.large now large [] → larges.HasBlocks l last large (places_of (larges_of now))) → last ≡ now
    → HasBlocks old m live [] → BeginsSweep (record { pages = p; large = l; small = old.small }) last live
begun-last old p l m now last live pages_begin arenas size larges_begin same h =
    subst (λ (k : Memory). BeginsSweep (record { pages = p; large = l; small = old.small }) k live) (sym same)
    (begun old p l m now live pages_begin arenas size
    (λ large g. subst (λ (k : Memory). larges.HasBlocks l k large (places_of (larges_of now))) same (larges_begin large g)) h)

pub kept-begun : (old : Old) (m now last : Memory) (live : List Extent) → ((small : List Extent) → pages.HasBlocks old.pages m small [] → KeepsWords m now small)
    → IsInArenas m now → last ≡ now → HasBlocks old m live [] → KeepsWords m last live
kept-begun old m now last live kept arenas same h =
    subst (λ (k : Memory). KeepsWords m k live) (sym same)
    (kept-small old m now live [] h (kept h.small (no-page-waits old m live h)) (outside-arenas m now arenas))

pub outside-begun : (m now last : Memory) → IsInArenas m now → last ≡ now → KeepsOutside 4294967296 9223372036854775808 m last
outside-begun m now last arenas same =
    subst (λ (k : Memory). KeepsOutside 4294967296 9223372036854775808 m k) (sym same) (outside-pages m now (outside-arenas m now arenas))
