-- How many units there can be.
use Rattle.std.proofs.Common.{◌≡◌, ℕ, ◌+◌, ◌-◌, ◌<◌, ◌≤◌, ◌^◌, min, List, [], ◌∷◌, length, ap, arith}
use Rattle.std.specs.Prelude.{filter}
use Rattle.heap_space.specs.Memory.{Memory}
use Rattle.heap_space.specs.Extents.{Extent, Each, begins_between}
use Rattle.heap_space.proofs.ExtentLaws.{Each-map}
use Rattle.size_pages.specs.HasBlocks as pages
use Rattle.size_pages.specs.HasBlocks.{IsRising}
use Rattle.size_pages.specs.PageLists.{EachPlace}
use Rattle.size_pages.specs.declared.Pages.{Pages}
use Rattle.large_objects.specs.Blocks.{larges_of, AreRising}
use Rattle.large_objects.specs.Large as larges
use Rattle.large_objects.specs.declared.Large.{Large}
use Rattle.large_objects.proofs.Rising.{Each-filter, AreRising-filter, length-places}
use Rattle.large_objects.proofs.LargeLaws.{larges-within}
use Rattle.old_space.specs.Headers.{StandsWithHeaders}
use Rattle.old_space.specs.Sweeping.{units_left}
use Rattle.old_space.specs.declared.Old.{Old}
use Rattle.old_space.proofs.PartLaws.{waiting-below}

places-map : (P Q : ℕ → Type 0) → ((x : ℕ) → P x → Q x) → (xs : List ℕ) → EachPlace P xs → EachPlace Q xs
places-map P Q f [] all = tt
places-map P Q f (x ∷ xs) all = (f x all.0, places-map P Q f xs all.1)

-- rising numbers from low on and below high are no more than those between
rising-length : (low high : ℕ) (xs : List ℕ) → low ≤ high → IsRising xs → EachPlace (λ q. low ≤ q) xs → EachPlace (λ q. q < high) xs → length xs + low ≤ high
rising-length low high [] l r from below = omega arith
rising-length low high (x ∷ xs) l r from below =
    let here = from.0 in let end = below.0 in
    let rest = rising-length (x + 1) high xs (omega arith) r.1 (places-map (λ q. x < q) (λ q. x + 1 ≤ q) (λ q h. omega arith) xs r.0) below.1 in
    omega (arith, rest)

extents-length : (low high : ℕ) (xs : List Extent) → low ≤ high → AreRising xs → Each (λ x. 2 ≤ x.1) xs → Each (λ x. low ≤ x.0) xs → Each (λ x. x.0 < high) xs
    → length xs + low ≤ high
extents-length low high [] l r wide from below = omega arith
extents-length low high (x ∷ xs) l r wide from below =
    let here = from.0 in let end = below.0 in let two = wide.0 in
    let rest = extents-length (x.0 + 1) high xs (omega arith) r.1 wide.1 (Each-map (λ y. x.0 + x.1 ≤ y.0) (λ y. x.0 + 1 ≤ y.0) (λ y h. omega arith) xs r.0) below.1 in
    omega (arith, rest)

pages-fit : (p : Pages) (m : Memory) (small : List Extent) (w : List ℕ) → pages.HasBlocks p m small w → p.waiting ≤ 1099511627776
pages-fit p m small w h =
    let count = h.waits in
    let all = rising-length 0 1099511627776 w (omega arith) h.rising (places-map (λ q. q < 1099511627776) (λ q. 0 ≤ q) (λ q b. omega arith) w (waiting-below p m small w h))
    (waiting-below p m small w h) in
    omega (arith, count, all)

larges-fit : (l : Large) (m : Memory) (large : List Extent) (w : List ℕ) → larges.HasBlocks l m large w → l.waiting ≤ 9223372036854775808
larges-fit l m large w h =
    let t = begins_between l.wait_from l.wait_end in
    let xs = filter t (larges_of m) in
    let all = extents-length 0 9223372036854775808 xs (omega arith) (AreRising-filter t (larges_of m) h.rising) (Each-filter (λ x. 2 ≤ x.1) t (larges_of m) h.wide)
    (Each-filter (λ x. 0 ≤ x.0) t (larges_of m) (Each-map (λ x. 2 ≤ x.1) (λ x. 0 ≤ x.0) (λ x b. omega arith) (larges_of m) h.wide))
    (Each-filter (λ x. x.0 < 9223372036854775808) t (larges_of m)
    (Each-map (λ x. (1099511627776 ≤ x.0) × (x.0 < 9223372036854775808)) (λ x. x.0 < 9223372036854775808) (λ x p. p.1) (larges_of m) (larges-within m))) in
    omega (arith, h.counted, ap (length {A = ℕ}) h.waits, length-places xs, all)

-- the sum of what the parts tell is the number of units that wait
pub units-told : (old : Old) (n k total : ℕ) (m : Memory) → StandsWithHeaders old m
    → ((j : Memory) (live : List Extent) (w : List ℕ) → pages.HasBlocks old.pages j live w → n ≡ length w) → k ≡ old.large.waiting
    → total ≡ min (n + k) (2 ^ 64 - 1) → total ≡ units_left old
units-told old n k total m s pages_told larges_told is =
    let b = s.has.blocks in
    let one = pages_told m b.small b.waiting_pages b.in_pages in let two = b.in_pages.waits in
    omega (arith, one, two, larges_told, is, pages-fit old.pages m b.small b.waiting_pages b.in_pages, larges-fit old.large m b.large b.waiting_blocks b.in_larges)
