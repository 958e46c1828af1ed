-- Where a sweep begins, each waiting unit has a live block.
use Rattle.std.proofs.Common.{◌≡◌, ℕ, ◌+◌, ◌<◌, ◌≤◌, inl, inr, true, List, [], ◌∷◌, ◌++◌, refl, sym, ap, ◌∙◌, arith, subst}
use Rattle.std.specs.List.{All, Contains}
use Rattle.std.specs.List.Sorted.{IsPermutation}
use Rattle.std.proofs.lemmas.Bool.{cases_Bool}
use Rattle.std.proofs.lemmas.Bool.Decides.{nat_tests}
use Rattle.std.proofs.lemmas.List.{map-append}
use Rattle.std.proofs.lemmas.List.Elements.{All-nil, All-cons, All-append, All-weaker, All-contains_itself, Contains-append_left, Contains-append_right}
use Rattle.std.proofs.lemmas.List.Sorted.{Contains-permutation, IsPermutation-map}
use Rattle.heap_space.specs.Memory.{Memory}
use Rattle.heap_space.specs.Extents.{Extent, Each}
use Rattle.heap_space.proofs.ExtentLaws.{Each-map}
use Rattle.size_pages.specs.LiveBlocks.{page_at, in_page}
use Rattle.size_pages.specs.PageLists.{EachPlace, IsPage}
use Rattle.size_pages.specs.Calls as page_calls
use Rattle.size_pages.specs.Calls.{HasLive, page_of}
use Rattle.size_pages.proofs.FitLaws.{filter_skips}
use Rattle.size_pages.proofs.FrameLaws.{IsBlock}
use Rattle.size_pages.proofs.GiveLaws.{page_number}
use Rattle.size_pages.proofs.ListLaws.{places_both}
use Rattle.large_objects.specs.Blocks.{larges_of, places_of}
use Rattle.old_space.specs.Calls.{unit_of, units_of}
use Rattle.old_space.specs.declared.Old.{Old}
use Rattle.old_space.proofs.PartLaws.{pages-each}
use Rattle.old_space.proofs.WaitLaws.{contains-first, contains-later, unit-page, unit-large}
use Rattle.size_pages.specs.HasBlocks.{greatest_block, page_count}
use Rattle.old_space.specs.HasBlocks.{page_size}

all-places : (P : ℕ → Type 0) (xs : List ℕ) → EachPlace P xs → All P xs
all-places P [] h = All-nil P
all-places P (x ∷ xs) h = All-cons P x xs h.0 (all-places P xs h.1)

-- a block that begins in the page is the page's
its-page : (size p k : ℕ) (x : Extent) → 64 ≤ size → p ≡ page_at size k → in_page size p x ≡ true → page_of size x.0 ≡ p
its-page size p k x wide at here =
    let low : p ≤ x.0 = grind (arith, nat_tests) in
    let high : x.0 < p + size = grind (arith, nat_tests) in
    ap (page_at size) (page_number size k x.0 wide (omega (arith, low, at)) (omega (arith, high, at))) ∙ sym at

-- a page with a live block is the unit of one
some-unit : (old : Old) (p k : ℕ) (xs : List Extent) → 64 ≤ page_size old → p ≡ page_at (page_size old) k → Each (λ x. x.0 < 1099511627776) xs → HasLive (page_size old) xs p → Contains (units_of old xs) p
some-unit old p k [] wide at below some = absurd (some refl)
some-unit old p k (x ∷ xs) wide at below some = elim (cases_Bool (in_page (page_size old) p x)) [
  | inl here ↦ subst (λ (u : ℕ). Contains (u ∷ units_of old xs) p) (sym (unit-page old x.0 below.0 ∙ its-page (page_size old) p k x wide at here)) (contains-first p (units_of old xs))
  | inr away ↦ contains-later (unit_of old x.0) p (units_of old xs) (some-unit old p k xs wide at below.1 (λ none. some (filter_skips (in_page (page_size old) p) x xs away ∙ none)))
]

-- a large block is a unit by itself
places-units : (old : Old) (xs : List Extent) → Each (λ x. 1099511627776 ≤ x.0) xs → places_of xs ≡ units_of old xs
places-units old [] above = refl
places-units old (x ∷ xs) above = ap (λ (a : ℕ). a ∷ places_of xs) (sym (unit-large old x.0 above.0)) ∙ ap (λ (us : List ℕ). unit_of old x.0 ∷ us) (places-units old xs above.1)

units-moved : (old : Old) (small large live : List Extent) (u : ℕ) → IsPermutation (small ++ large) live → Contains (units_of old small ++ units_of old large) u → Contains (units_of old live) u
units-moved old small large live u same c =
    Contains-permutation (units_of old (small ++ large)) (units_of old live) u (IsPermutation-map (λ x. unit_of old x.0) (small ++ large) live same)
    (subst (λ (us : List ℕ). Contains us u) (sym (map-append (λ x. unit_of old x.0) small large)) c)

pub only-live : (old : Old) (m : Memory) (small large live : List Extent) → (b : page_calls.BeginsSweep old.pages m small) → IsPermutation (larges_of m) large → Each (λ x. 1099511627776 ≤ x.0) large → IsPermutation (small ++ large) live
    → All (Contains (units_of old live)) (b.waiting ++ places_of (larges_of m))
only-live old m small large live b larges above same =
    let size = page_size old in
    let blocks = places_of (larges_of m) in
    let pages : EachPlace (IsPage size (page_count old.pages)) b.waiting = subst (EachPlace (IsPage size (page_count old.pages))) b.fits.lists.waits (b.fits.lists.pages 1) in
    let below : Each (λ x. x.0 < 1099511627776) small = Each-map (IsBlock m (greatest_block old.pages)) (λ x. x.0 < 1099511627776) (λ x is. omega (arith, is.high, is.wide)) small (pages-each old.pages m small b.waiting b.fits) in
    let in_pages : EachPlace (Contains (units_of old small)) b.waiting = places_both (IsPage size (page_count old.pages)) (HasLive size small) (Contains (units_of old small)) (λ p is some. some-unit old p is.number small b.fits.blocks.size_low is.is below some) b.waiting pages b.only in
    All-append (Contains (units_of old live)) b.waiting blocks
    (All-weaker (Contains (units_of old small)) (Contains (units_of old live)) (λ u c. units-moved old small large live u same (Contains-append_left (units_of old small) (units_of old large) u c)) b.waiting (all-places (Contains (units_of old small)) b.waiting in_pages))
    (All-weaker (Contains blocks) (Contains (units_of old live)) (λ u c.
    let placed : Contains (places_of large) u = Contains-permutation blocks (places_of large) u (IsPermutation-map (λ x. x.0) (larges_of m) large larges) c in
    units-moved old small large live u same (Contains-append_right (units_of old small) (units_of old large) u (subst (λ (us : List ℕ). Contains us u) (places-units old large above) placed))) blocks (All-contains_itself blocks))
