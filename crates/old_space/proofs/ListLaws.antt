-- The live blocks by rising place.
use Rattle.std.proofs.Common.{◌≡◌, ℕ, ◌+◌, ◌<◌, ◌≤◌, List, [], ◌∷◌, ◌++◌, Result, Ok, Err, OnErr, sym, ap, ◌∙◌, arith, append_assoc}
use Rattle.std.proofs.lemmas.List.Sorted.{IsPermutation-append, IsPermutation-trans, IsPermutation-sym}
use Rattle.heap_space.specs.Memory.{Memory}
use Rattle.heap_space.specs.Extents.{Extent, Each}
use Rattle.heap_space.proofs.ExtentLaws.{Each-map, Each-join, Each-left}
use Rattle.size_pages.specs.Headers as headers
use Rattle.size_pages.specs.Headers.{IsHeaded, RiseByPlace, AppendsLive, HoldsMore}
use Rattle.size_pages.proofs.FrameLaws.{IsBlock}
use Rattle.large_objects.specs.Blocks.{AreRising, ListsBlocks}
use Rattle.large_objects.specs.Large as larges
use Rattle.large_objects.proofs.Same.{Same, Each-same, same-permutation}
use Rattle.large_objects.proofs.LargeLaws as large_laws
use Rattle.old_space.specs.Headers.{HasHeaders, StandsWithHeaders}
use Rattle.old_space.specs.declared.Old.{Old}
use Rattle.old_space.proofs.PartLaws.{pages-each}
use Rattle.old_space.proofs.JoinLaws.{larges-above}
use Rattle.size_pages.specs.HasBlocks.{greatest_block}

-- what the pages ask
pub small-headers : (old : Old) (m : Memory) (live : List Extent) (waiting : List ℕ) (h : HasHeaders old m live waiting)
    → headers.HasHeaders old.pages m h.blocks.small h.blocks.waiting_pages
small-headers old m live waiting h =
    let b = h.blocks in
    let back : Same live (b.small ++ b.large) =
    record { as_often = λ x. let s = same-permutation (b.small ++ b.large) live b.same in sym (s.as_often x) } in
    record { fits = b.in_pages; headed = Each-left (IsHeaded m) b.small b.large (Each-same (IsHeaded m) live (b.small ++ b.large) back h.headed) }

pub pages-headed : (old : Old) (m : Memory) → StandsWithHeaders old m → headers.StandsWithHeaders old.pages m
pages-headed old m s = record { live = s.has.blocks.small; waiting = s.has.blocks.waiting_pages; has = small-headers old m s.live s.waiting s.has }

pub larges-stand : (old : Old) (m : Memory) → StandsWithHeaders old m → larges.Stands old.large m
larges-stand old m s = record { live = s.has.blocks.large; waiting = s.has.blocks.waiting_blocks; blocks = s.has.blocks.in_larges }

-- first those of pages, then the large ones

rise-place : (xs : List Extent) → AreRising xs → Each (λ x. 2 ≤ x.1) xs → RiseByPlace xs
rise-place [] r w = tt
rise-place (x ∷ xs) r w =
    let two = w.0 in
    (Each-map (λ y. x.0 + x.1 ≤ y.0) (λ y. x.0 < y.0) (λ y h. omega arith) xs r.0, rise-place xs r.1 w.1)

rise-join : (xs ys : List Extent) → RiseByPlace xs → RiseByPlace ys → Each (λ x. x.0 < 1099511627776) xs → Each (λ y. 1099511627776 ≤ y.0) ys
    → RiseByPlace (xs ++ ys)
rise-join [] ys a b low high = b
rise-join (x ∷ xs) ys a b low high =
    let here = low.0 in (
      Each-join (λ y. x.0 < y.0) xs ys a.0 (Each-map (λ y. 1099511627776 ≤ y.0) (λ y. x.0 < y.0) (λ y h. omega arith) ys high),
      rise-join xs ys a.1 b low.1 high,
    )

pub listed-both : (old : Old) (m : Memory) (before middle after live : List Extent) (waiting : List ℕ)
    → ((small : List Extent) (w : List ℕ) → headers.HasHeaders old.pages m small w → AppendsLive before middle small)
    → ((large : List Extent) (w : List ℕ) → larges.HasBlocks old.large m large w → ListsBlocks middle after large)
    → HasHeaders old m live waiting → AppendsLive before after live
listed-both old m before middle after live waiting first second h =
    let b = h.blocks in
    let one = first b.small b.waiting_pages (small-headers old m live waiting h) in
    let two = second b.large b.waiting_blocks b.in_larges in
    let small-same : Same b.small one.appended = same-permutation b.small one.appended one.same in
    let large-same : Same b.large two.found = same-permutation b.large two.found (IsPermutation-sym two.found b.large two.same) in
    record {
      appended = one.appended ++ two.found;
      is = two.behind ∙ ap (λ (xs : List Extent). xs ++ two.found) one.is ∙ append_assoc before one.appended two.found;
      same = IsPermutation-trans live (b.small ++ b.large) (one.appended ++ two.found) (IsPermutation-sym (b.small ++ b.large) live b.same)
          (IsPermutation-append b.small one.appended b.large two.found one.same (IsPermutation-sym two.found b.large two.same));
      rising = rise-join one.appended two.found one.rising
          (rise-place two.found two.rising (Each-same (λ x. 2 ≤ x.1) b.large two.found large-same (large_laws.HasBlocks-wide old.large m b.large b.waiting_blocks b.in_larges)))
          (Each-same (λ x. x.0 < 1099511627776) b.small one.appended small-same
          (Each-map (IsBlock m (greatest_block old.pages)) (λ x. x.0 < 1099511627776) (λ x k. let high = k.high in let wide = k.wide in omega arith) b.small
          (pages-each old.pages m b.small b.waiting_pages b.in_pages)))
          (Each-same (λ x. 1099511627776 ≤ x.0) b.large two.found large-same (larges-above old.large m b.large b.waiting_blocks b.in_larges));
    }

-- what stands there after an error
pub more-same : (before middle after : List Extent) → HoldsMore before middle → after ≡ middle → HoldsMore before after
more-same before middle after h e = record { more = h.more; is = e ∙ h.is }

pub more-listed : (before middle live : List Extent) → AppendsLive before middle live → HoldsMore before middle
more-listed before middle live a = record { more = a.appended; is = a.is }

-- a fact that holds anyway
pub on-error : {T E : Type 0} (P : Type 0) (r : Result T E) → P → OnErr r P
on-error P (Ok x) h = tt
on-error P (Err e) h = h
