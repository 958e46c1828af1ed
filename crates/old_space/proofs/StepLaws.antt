-- One step of a sweep, by the part whose turn it is.
use Rattle.std.proofs.Common.{◌≡◌, ℕ, ◌+◌, ◌<◌, List, [], inl, inr, ◌∷◌, ◌++◌, length, Result, Ok, Err, OnOk, OnErr, refl, sym, ap, ◌∙◌, arith, subst, length-append}
use Rattle.std.specs.declared.alloc.AllocError.{AllocError}
use Rattle.std.specs.List.Sorted.{IsPermutation}
use Rattle.std.proofs.lemmas.List.{append_cancel_left}
use Rattle.heap_space.specs.Memory.{Memory}
use Rattle.heap_space.specs.Order.{IsInOrder}
use Rattle.heap_space.specs.Extents.{Extent, Each, KeepsOutside}
use Rattle.heap_space.proofs.ExtentLaws.{Each-left}
use Rattle.heap_space.specs.Places.{word_at}
use Rattle.object_header.specs.Words.{survives_sweep}
use Rattle.size_pages.specs.HasBlocks as pages
use Rattle.size_pages.specs.Headers as headers
use Rattle.size_pages.specs.Headers.{IsHeaded}
use Rattle.size_pages.specs.PageWords.{IsInArenas}
use Rattle.size_pages.specs.Sweeping as page_sweep
use Rattle.size_pages.specs.declared.Pages.{Pages}
use Rattle.large_objects.specs.Large as larges
use Rattle.std.proofs.lemmas.Bool.{cases_Bool}
use Rattle.large_objects.specs.Sweep.{swept, left_over, freed_births}
use Rattle.large_objects.specs.declared.Large.{Large}
use Rattle.large_objects.proofs.Same.{same-permutation}
use Rattle.old_space.specs.HasBlocks.{HasBlocks}
use Rattle.old_space.specs.Headers.{HasHeaders, StandsWithHeaders}
use Rattle.old_space.specs.Sweeping.{kept_blocks, SweepsUnit, SweepsLowest, units_left}
use Rattle.old_space.specs.declared.Old.{Old}
use Rattle.old_space.proofs.Narrow.{outside-pages, outside-larges}
use Rattle.old_space.proofs.GiveLaws.{outside-arenas}
use Rattle.old_space.proofs.ListLaws.{small-headers}
use Rattle.old_space.proofs.SweepLaws.{swept-page, headed-parts}
use Rattle.old_space.proofs.BlockSweepLaws.{swept-block}
use Rattle.size_pages.specs.HasBlocks.{greatest_block, waiting_page_count}
use Rattle.old_space.specs.HasBlocks.{page_size}

-- a page's turn

some-page : (old : Old) (m : Memory) (small large live : List Extent) (unit : ℕ) (rest wp wb : List ℕ) (p : Pages) (after : Memory) (before now births : List ℕ)
    → 0 < waiting_page_count old.pages
    → ((s : List Extent) (page : ℕ) (w : List ℕ) → headers.HasHeaders old.pages m s (page ∷ w) → page_sweep.SweepsPage p m after (page_size old) s page w before now)
    → now ≡ before ++ births → IsInArenas m after → greatest_block p ≡ greatest_block old.pages → pages.HasBlocks old.pages m small wp
    → larges.HasBlocks old.large m large wb → IsPermutation (small ++ large) live → greatest_block old.pages ≡ old.small → Each (IsHeaded m) live
    → unit ∷ rest ≡ wp ++ wb → SweepsUnit old m (record { pages = p; large = old.large; small = old.small }) after births live unit rest
some-page old m small large live unit rest [] wb p after before now births some contract appended arenas size in_pages in_larges perm greatest headed e =
    let none = in_pages.waits in absurd (omega (arith, none))
some-page old m small large live unit rest (u ∷ w) wb p after before now births some contract appended arenas size in_pages in_larges perm greatest headed e =
    let new : Old = record { pages = p; large = old.large; small = old.small } in
    let first : u ≡ unit = cc in
    let others : w ++ wb ≡ rest = cc in
    let whole = same-permutation (small ++ large) live perm in
    let heads = Each-left (IsHeaded m) small large (headed-parts m small large live whole headed) in
    let here = swept-page old p m after before now births live small large u w wb (contract small u w (record { fits = in_pages; headed = heads }))
    appended arenas size in_pages in_larges perm greatest headed in
    subst (λ (k : ℕ). SweepsUnit old m new after births live k rest) first
    (subst (λ (ws : List ℕ). SweepsUnit old m new after births live u ws) others here)

page-lowest : (old : Old) (p : Pages) (m after : Memory) (before now births : List ℕ) → 0 < waiting_page_count old.pages
    → ((s : List Extent) (page : ℕ) (w : List ℕ) → headers.HasHeaders old.pages m s (page ∷ w) → page_sweep.SweepsPage p m after (page_size old) s page w before now)
    → now ≡ before ++ births → IsInArenas m after → pages.KeepsSizes old.pages p
    → SweepsLowest old m (record { pages = p; large = old.large; small = old.small }) after births
page-lowest old p m after before now births some contract appended arenas sizes = record {
  lowest = λ live unit rest h.
      let b = h.blocks in
      some-page old m b.small b.large live unit rest b.waiting_pages b.waiting_blocks p after before now births some contract appended arenas sizes.small
      b.in_pages b.in_larges b.same b.greatest h.headed b.waits;
  outside = outside-pages m after (outside-arenas m after arenas);
  arena_words = arenas.arena_words;
  sizes = record { page = sizes.page; arena = sizes.pages_per_arena; small = refl };
}

-- the page that is to be swept
pub page-ready : (old : Old) (m : Memory) → StandsWithHeaders old m → 0 < waiting_page_count old.pages → page_sweep.CanSweep old.pages m
page-ready old m s some = go s.has.blocks.waiting_pages s.has.blocks.in_pages (small-headers old m s.live s.waiting s.has) where
  go : (wp : List ℕ) → pages.HasBlocks old.pages m s.has.blocks.small wp → headers.HasHeaders old.pages m s.has.blocks.small wp → page_sweep.CanSweep old.pages m
  go [] f h = let none = f.waits in absurd (omega (arith, none))
  go (u ∷ w) f h = record { live = s.has.blocks.small; page = u; rest = w; has = h }

pub page-step : {T : Type 0} (old : Old) (p : Pages) (m after : Memory) (before now : List ℕ) (r : Result T AllocError) → StandsWithHeaders old m → 0 < waiting_page_count old.pages
    → ((s : List Extent) (page : ℕ) (w : List ℕ) → headers.HasHeaders old.pages m s (page ∷ w) → OnOk r (page_sweep.SweepsPage p m after (page_size old) s page w before now))
    → IsInArenas m after → pages.KeepsSizes old.pages p
    → OnOk r ((births : List ℕ) × (now ≡ before ++ births) × SweepsLowest old m (record { pages = p; large = old.large; small = old.small }) after births)
page-step old p m after before now (Ok x) s some contract arenas sizes =
    let can = page-ready old m s some in
    let sw = contract can.live can.page can.rest can.has in
    (sw.births, sw.appended, page-lowest old p m after before now sw.births some contract sw.appended arenas sizes)
page-step old p m after before now (Err e) s some contract arenas sizes = tt

-- the units that are left
pub page-less : {T : Type 0} (old : Old) (p : Pages) (m after : Memory) (before now : List ℕ) (r : Result T AllocError) → StandsWithHeaders old m → 0 < waiting_page_count old.pages
    → ((s : List Extent) (page : ℕ) (w : List ℕ) → headers.HasHeaders old.pages m s (page ∷ w) → OnOk r (page_sweep.SweepsPage p m after (page_size old) s page w before now))
    → OnOk r (units_left (record { pages = p; large = old.large; small = old.small }) + 1 ≡ units_left old)
page-less old p m after before now (Ok x) s some contract =
    let can = page-ready old m s some in
    let sw = contract can.live can.page can.rest can.has in
    let one = sw.fits.waits in let two = can.has.fits.waits in omega (arith, one, two)
page-less old p m after before now (Err e) s some contract = tt

-- how many units wait
pub left-length : (old : Old) (m : Memory) (live : List Extent) (waiting : List ℕ) → HasBlocks old m live waiting → units_left old ≡ length waiting
left-length old m live waiting h =
    let one = h.in_pages.waits in let two = h.in_larges.counted in
    omega (arith, one, two, ap (length {A = ℕ}) h.waits, length-append h.waiting_pages h.waiting_blocks)

-- what stands after a step
step-stands : (old new : Old) (m after : Memory) (births : List ℕ) → StandsWithHeaders old m → 0 < units_left old → SweepsLowest old m new after births
    → StandsWithHeaders new after
step-stands old new m after births s some step = go s.waiting s.has where
  go : (w : List ℕ) → HasHeaders old m s.live w → StandsWithHeaders new after
  go [] h = absurd (omega (arith, some, left-length old m s.live [] h.blocks))
  go (u ∷ w) h = record { live = kept_blocks old m u s.live; waiting = w; has = (step.lowest s.live u w h).has }

-- after an error nothing changed
same-stands : (old new : Old) (m after : Memory) → StandsWithHeaders old m → new ≡ old → after ≡ m → StandsWithHeaders new after
same-stands old new m after s e f =
    subst (λ (k : Memory). StandsWithHeaders new k) (sym f) (subst (λ (o : Old). StandsWithHeaders o m) (sym e) s)

pub stands-either : {T : Type 0} (old new : Old) (m after : Memory) (before now : List ℕ) (r : Result T AllocError) → StandsWithHeaders old m → 0 < units_left old
    → OnOk r ((births : List ℕ) × (now ≡ before ++ births) × SweepsLowest old m new after births) → OnErr r (new ≡ old) → OnErr r (after ≡ m)
    → StandsWithHeaders new after
stands-either old new m after before now (Ok x) s some step e f = step-stands old new m after step.0 s some step.2
stands-either old new m after before now (Err x) s some step e f = same-stands old new m after s e f

pub error-either : {T : Type 0} (old new : Old) (before now : List ℕ) (r : Result T AllocError) → OnErr r (new ≡ old) → OnErr r (now ≡ before)
    → OnErr r ((units_left new ≡ units_left old) × (now ≡ before))
error-either old new before now (Ok x) e f = tt
error-either old new before now (Err x) e f = (ap (λ (o : Old). units_left o) e, f)

pub page-error : {T : Type 0} (old : Old) (p : Pages) (r : Result T AllocError) → OnErr r (p ≡ old.pages)
    → OnErr r (let new : Old = record { pages = p; large = old.large; small = old.small } in new ≡ old)
page-error old p (Ok x) e = tt
page-error old p (Err x) e = ap (λ (q : Pages). let new : Old = record { pages = q; large = old.large; small = old.small } in new) e

pub block-error : {T : Type 0} (old : Old) (l : Large) (r : Result T AllocError) → OnErr r (l ≡ old.large)
    → OnErr r (let new : Old = record { pages = old.pages; large = l; small = old.small } in new ≡ old)
block-error old l (Ok x) e = tt
block-error old l (Err x) e = ap (λ (q : Large). let new : Old = record { pages = old.pages; large = q; small = old.small } in new) e

-- a large block's turn

some-block : (old : Old) (m : Memory) (small large live : List Extent) (unit : ℕ) (rest wp wb : List ℕ) (l : Large) (after : Memory) (before now births : List ℕ)
    → waiting_page_count old.pages ≡ 0 → IsInOrder m
    → ((s : List Extent) (a : ℕ) (w : List ℕ) → larges.HasBlocks old.large m s (a ∷ w) → larges.HasBlocks l after (left_over m a s) w)
    → ((s : List Extent) (a : ℕ) (w : List ℕ) → larges.HasBlocks old.large m s (a ∷ w) → after ≡ swept m a)
    → ((s : List Extent) (a : ℕ) (w : List ℕ) → larges.HasBlocks old.large m s (a ∷ w) → now ≡ before ++ freed_births m a)
    → now ≡ before ++ births → KeepsOutside 1099511627776 9223372036854775808 m after → pages.HasBlocks old.pages m small wp
    → larges.HasBlocks old.large m large wb → IsPermutation (small ++ large) live → greatest_block old.pages ≡ old.small → Each (IsHeaded m) live
    → unit ∷ rest ≡ wp ++ wb → SweepsUnit old m (record { pages = old.pages; large = l; small = old.small }) after births live unit rest
some-block old m small large live unit rest (u ∷ w) wb l after before now births none o blocks space told appended outside in_pages in_larges perm greatest headed e =
    let some = in_pages.waits in absurd (omega (arith, some, none))
some-block old m small large live unit rest [] wb l after before now births none o blocks space told appended outside in_pages in_larges perm greatest headed e =
    let here : larges.HasBlocks old.large m large (unit ∷ rest) = subst (λ (ws : List ℕ). larges.HasBlocks old.large m large ws) (sym e) in_larges in
    swept-block old l m after births live small large unit rest o in_pages here (blocks large unit rest here) (space large unit rest here)
    (append_cancel_left before births (freed_births m unit) (sym appended ∙ told large unit rest here)) outside perm greatest headed

-- there is a block to be swept
pub record HasNext (l : Large) (m : Memory) : Type 0 where
  pub live : List Extent
  pub first : ℕ
  pub rest : List ℕ
  pub blocks : larges.HasBlocks l m live (first ∷ rest)

next-in : (l : Large) (m : Memory) (live : List Extent) (waiting : List ℕ) → larges.HasBlocks l m live waiting → 0 < l.waiting → HasNext l m
next-in l m live [] h some = (let none = h.counted in absurd (omega (arith, none)))
next-in l m live (a ∷ w) h some = record { live = live; first = a; rest = w; blocks = h }

pub block-next : (old : Old) (m : Memory) → StandsWithHeaders old m → waiting_page_count old.pages ≡ 0 → 0 < units_left old → HasNext old.large m
block-next old m s none some = next-in old.large m s.has.blocks.large s.has.blocks.waiting_blocks s.has.blocks.in_larges (omega (arith, none))

-- no arena changes its words
swept-arenas : (m : Memory) (a : ℕ) → (swept m a).arena_words ≡ m.arena_words
swept-arenas m a = elim (cases_Bool (survives_sweep (word_at m.blocks a))) [ inl e ↦ rw e refl | inr e ↦ rw e refl ]

pub block-step : {T : Type 0} (old : Old) (l : Large) (m after : Memory) (before now : List ℕ) (r : Result T AllocError) → StandsWithHeaders old m
    → waiting_page_count old.pages ≡ 0 → 0 < units_left old → IsInOrder m
    → ((s : List Extent) (a : ℕ) (w : List ℕ) → larges.HasBlocks old.large m s (a ∷ w) → OnOk r (larges.HasBlocks l after (left_over m a s) w))
    → ((s : List Extent) (a : ℕ) (w : List ℕ) → larges.HasBlocks old.large m s (a ∷ w) → OnOk r (after ≡ swept m a))
    → ((s : List Extent) (a : ℕ) (w : List ℕ) → larges.HasBlocks old.large m s (a ∷ w) → OnOk r (now ≡ before ++ freed_births m a))
    → KeepsOutside 1099511627776 9223372036854775808 m after
    → OnOk r ((births : List ℕ) × (now ≡ before ++ births) × SweepsLowest old m (record { pages = old.pages; large = l; small = old.small }) after births)
block-step old l m after before now (Ok x) s none some o blocks space told outside =
    let n = block-next old m s none some in
    let appended = told n.live n.first n.rest n.blocks in (
      freed_births m n.first,
      appended,
      record {
        lowest = λ live unit rest h.
            let b = h.blocks in
            some-block old m b.small b.large live unit rest b.waiting_pages b.waiting_blocks l after before now (freed_births m n.first) none o blocks space told
            appended outside b.in_pages b.in_larges b.same b.greatest h.headed b.waits;
        outside = outside-larges m after outside;
        arena_words = ap (λ (k : Memory). k.arena_words) (space n.live n.first n.rest n.blocks) ∙ swept-arenas m n.first;
        sizes = record { page = refl; arena = refl; small = refl };
      },
    )
block-step old l m after before now (Err e) s none some o blocks space told outside = tt

pub block-less : {T : Type 0} (old : Old) (l : Large) (m after : Memory) (r : Result T AllocError) → StandsWithHeaders old m
    → waiting_page_count old.pages ≡ 0 → 0 < units_left old
    → ((s : List Extent) (a : ℕ) (w : List ℕ) → larges.HasBlocks old.large m s (a ∷ w) → OnOk r (larges.HasBlocks l after (left_over m a s) w))
    → OnOk r (units_left (record { pages = old.pages; large = l; small = old.small }) + 1 ≡ units_left old)
block-less old l m after (Ok x) s none some blocks =
    let n = block-next old m s none some in
    let one = (blocks n.live n.first n.rest n.blocks).counted in let two = n.blocks.counted in omega (arith, one, two)
block-less old l m after (Err e) s none some blocks = tt

-- whose turn it is, by the number that the pages tell
pub pages-told : (old : Old) (m : Memory) (n : ℕ) → StandsWithHeaders old m
    → ((k : Memory) (live : List Extent) (w : List ℕ) → pages.HasBlocks old.pages k live w → n ≡ length w) → n ≡ waiting_page_count old.pages
pages-told old m n s told =
    let b = s.has.blocks in told m b.small b.waiting_pages b.in_pages ∙ sym b.in_pages.waits
