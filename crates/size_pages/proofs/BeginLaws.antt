-- A page is begun: it is the lowest unused one, in a new arena where none is unused.
use Rattle.std.proofs.Common.{◌≡◌, ◌≢◌, ℕ, ◌+◌, ◌*◌, ◌^◌, ◌<◌, ◌≤◌, inl, inr, List, length, vec_capacity, arith, refl, sym, ◌∙◌, ap, subst}
use Rattle.std.proofs.lemmas.Bool.{cases_lt}
use Rattle.heap_space.specs.Memory.{Memory, with_arena}
use Rattle.heap_space.specs.Order.{IsInOrder}
use Rattle.heap_space.specs.Extents.{Extent}
use Rattle.size_pages.specs.PageWords.{word_in, HasAll, IsInArenas}
use Rattle.size_pages.specs.PageBlocks.{Starts}
use Rattle.size_pages.specs.LiveBlocks.{page_at}
use Rattle.size_pages.specs.HasBlocks.{HasBlocks, Stands, KeepsSizes}
use Rattle.size_pages.specs.Growth.{AllUsed, FindsUnused, IsOnlyOrder, AddsPages, KeepsBlocks, MakesUnused, CanBegin, BeginsPage}
use Rattle.size_pages.specs.declared.Pages.{Pages}
use Rattle.size_pages.proofs.FitsLaws.{page_mono, header_has, places_of, below_of}
use Rattle.size_pages.proofs.EndLaws.{searched_fits, order_fits}
use Rattle.size_pages.proofs.ArenaLaws.{arenas_same}
use Rattle.size_pages.proofs.KeepLaws.{keeps_then, keeps_same, started_keeps}
use Rattle.size_pages.proofs.StartLaws.{begun_page, started_fits, can_take_started}
use Rattle.size_pages.proofs.GrowthLaws.{arena_fits, arena_unused, arena_words_same, arena_outside, arenas_outside, outside_then}

sizes_at : (a b : Pages) (low : ℕ) → b ≡ record a { lowest = low } → KeepsSizes a b
sizes_at a b low e = record { page = ap (λ (p : Pages). p.page) e; pages_per_arena = ap (λ (p : Pages). p.pages_per_arena) e; small = ap (λ (p : Pages). p.small) e }

sizes_joined : (a b c : Pages) → KeepsSizes a b → KeepsSizes b c → KeepsSizes a c
sizes_joined a b c h g = record { page = g.page ∙ h.page; pages_per_arena = g.pages_per_arena ∙ h.pages_per_arena; small = g.small ∙ h.small }

found_fits : (pages after : Pages) (m : Memory) → FindsUnused pages after m → (live : List Extent) (waiting : List ℕ) → HasBlocks pages m live waiting → HasBlocks after m live waiting
found_fits pages after m u live waiting f = subst (λ (p : Pages). HasBlocks p m live waiting) (sym u.is) (searched_fits pages after.lowest m live waiting 0 u.within u.used f)

pub stands_found : (pages after : Pages) (m : Memory) → FindsUnused pages after m → Stands pages m → Stands after m
stands_found pages after m u st = record { live = st.live; waiting = st.waiting; fits = found_fits pages after m u st.live st.waiting st.fits }

pub heads_found : (pages after : Pages) (m : Memory) → FindsUnused pages after m → 2 * pages.small + 2 ≤ length pages.heads.items → 2 * after.small + 2 ≤ length after.heads.items
heads_found pages after m u long = subst (λ (p : Pages). 2 * p.small + 2 ≤ length p.heads.items) (sym u.is) long

pub some_words : (pages : Pages) (m : Memory) → Stands pages m → 0 < m.arena_words
some_words pages m st =
    let wide : 64 ≤ pages.page = st.fits.blocks.size_low in
    let some : 1 ≤ pages.pages_per_arena = st.fits.setup.arena_low in
    let e : m.arena_words ≡ pages.page * pages.pages_per_arena = st.fits.setup.arena_size in
    let p : pages.page * 1 ≤ pages.page * pages.pages_per_arena = grind arith in omega arith

pub few_pages : (pages : Pages) (m : Memory) → Stands pages m → pages.count + pages.pages_per_arena < 2 ^ 62
few_pages pages m st =
    let wide : 64 ≤ pages.page = st.fits.blocks.size_low in
    let below : page_at pages.page pages.count ≤ 1099511627776 = below_of st.fits in
    let up : pages.count * 64 ≤ pages.count * pages.page = grind arith in
    let per : pages.pages_per_arena ≤ 1024 = st.fits.setup.arena_high in omega arith

-- an arena was added, after room was made for the places of its pages
pub arena_adds : (pages grown : Pages) (m new : Memory) → Stands pages m → IsOnlyOrder pages grown → grown.count + grown.pages_per_arena ≤ vec_capacity grown.order → 2 * pages.small + 2 ≤ length pages.heads.items → IsInOrder m → IsInOrder new → new ≡ with_arena m → AddsPages pages (record grown { count = grown.count + grown.pages_per_arena }) m new
arena_adds pages grown m new st only room long o n e =
    let n1 : IsInOrder (with_arena m) = subst IsInOrder e n in
    let small : grown.small ≡ pages.small = only.sizes.small in
    let count : grown.count ≡ pages.count = only.count in
    let long2 : 2 * grown.small + 2 ≤ length grown.heads.items = omega (arith, small, long, ap length only.heads) in
    let fits : (live : List Extent) (waiting : List ℕ) → HasBlocks pages m live waiting → HasBlocks grown m live waiting = λ live waiting f. order_fits pages grown m live waiting 0 only f in
    let g = fits st.live st.waiting st.fits in
    let some : 1 ≤ grown.pages_per_arena = g.setup.arena_low in
    let end : m.next_arena ≡ page_at grown.page grown.count = g.arenas.end in
    let unused : word_in m (page_at grown.page grown.count) ≡ 0 = arena_unused grown m o n1 room long2 st.live st.waiting g in
    let more : pages.count < grown.count + grown.pages_per_arena = omega arith in
    let base : 4294967296 ≤ m.next_arena = omega arith in
    let P : Memory → Type 0 = λ k. AddsPages pages (record grown { count = grown.count + grown.pages_per_arena }) m k in
    subst P (sym e) (record {
      sizes = record { page = only.sizes.page; pages_per_arena = only.sizes.pages_per_arena; small = only.sizes.small };
      lowest = only.lowest;
      more = more;
      added = λ live waiting f. arena_fits grown m o n1 room long2 live waiting (fits live waiting f);
      words = arena_words_same m o n1;
      unused = subst (λ (s : ℕ). word_in m (page_at s pages.count) ≡ 0) only.sizes.page (subst (λ (k : ℕ). word_in m (page_at grown.page k) ≡ 0) count unused);
      next = refl;
      size = refl;
      large = refl;
      outside = arena_outside m base o n1;
    })

-- some page is unused
pub makes_found : (pages after : Pages) (m : Memory) → Stands pages m → FindsUnused pages after m → after.lowest ≢ after.count → MakesUnused pages after m m
makes_found pages after m st u other =
    let count : after.count ≡ pages.count = ap (λ (p : Pages). p.count) u.is in
    let ne : after.lowest ≢ pages.count = λ e. other (e ∙ sym count) in
    let within : after.lowest ≤ pages.count = u.within in
    let some : 0 < m.arena_words = some_words pages m st in
    record {
      sizes = sizes_at pages after after.lowest u.is;
      below = omega arith;
      lower = u.used;
      unused = u.unused ne;
      fits = found_fits pages after m u;
      words = λ e. refl;
      one = inl refl;
      exactly = (λ e. absurd (omega (arith, e, some)), λ all. absurd (all after.lowest (omega arith) (u.unused ne)));
      size = refl;
      large = refl;
      outside = arenas_outside m m (arenas_same m);
    }

-- none was
pub makes_added : (pages found after : Pages) (m new : Memory) → FindsUnused pages found m → found.lowest ≡ found.count → AddsPages found after m new → MakesUnused pages after m new
makes_added pages found after m new u end a =
    let count : found.count ≡ pages.count = ap (λ (p : Pages). p.count) u.is in
    let sizes = sizes_at pages found found.lowest u.is in
    let all : AllUsed (word_in m) pages.page pages.count = λ k below. u.used k (omega (arith, below, end, count)) in
    let lowest : after.lowest ≡ pages.count = a.lowest ∙ end ∙ count in
    let more : found.count < after.count = a.more in
    record {
      sizes = sizes_joined pages found after sizes a.sizes;
      below = omega arith;
      lower = λ k low. all k (omega (arith, low, lowest));
      unused = ap (λ (k : ℕ). word_in m (page_at pages.page k)) lowest ∙ subst (λ (s : ℕ). word_in m (page_at s pages.count) ≡ 0) sizes.page (subst (λ (k : ℕ). word_in m (page_at found.page k) ≡ 0) count a.unused);
      fits = λ live waiting f. a.added live waiting (found_fits pages found m u live waiting f);
      words = a.words;
      one = inr a.next;
      exactly = (λ e. all, λ e. a.next);
      size = a.size;
      large = a.large;
      outside = a.outside;
    }

-- no arena could be added
pub keeps_found : (pages found after : Pages) (m : Memory) → FindsUnused pages found m → IsOnlyOrder found after → KeepsBlocks pages after m
keeps_found pages found after m u o = record {
  sizes = sizes_joined pages found after (sizes_at pages found found.lowest u.is) o.sizes;
  fits = λ live waiting f. order_fits found after m live waiting 0 o (found_fits pages found m u live waiting f);
}

pub begin_header : (pages : Pages) (m : Memory) (n page : ℕ) → CanBegin pages m n → page ≡ page_at pages.page pages.lowest → HasAll m page (page + 8)
begin_header pages m n page c is =
    let f = c.stands.fits in
    header_has m pages.page pages.count page f.blocks.size_low (places_of f) (below_of f) (record { number = pages.lowest; below = c.below; is = is })

pub can_begin : (pages after : Pages) (m new : Memory) (n : ℕ) → Stands pages m → 2 ≤ n → n ≤ pages.small → MakesUnused pages after m new → CanBegin after new n
can_begin pages after m new n st two small u = record {
  stands = record { live = st.live; waiting = st.waiting; fits = u.fits st.live st.waiting st.fits };
  below = u.below;
  unused = u.words (page_at after.page after.lowest) ∙ ap (λ (s : ℕ). word_in m (page_at s after.lowest)) u.sizes.page ∙ u.unused;
  low = two;
  small = subst (λ (k : ℕ). n ≤ k) (sym u.sizes.small) small;
}

-- the page is begun
pub begins : (pages after : Pages) (m m1 new : Memory) (page n : ℕ) → Stands pages m → 2 ≤ n → n ≤ pages.small → MakesUnused pages after m m1 → page ≡ page_at after.page after.lowest → Starts (word_in m1) (word_in new) page n → IsInArenas m1 new → BeginsPage pages after m new page n
begins pages after m m1 new page n st two small u is g s =
    let c = can_begin pages after m m1 n st two small u in
    let at : page ≡ page_at pages.page after.lowest = is ∙ ap (λ (k : ℕ). page_at k after.lowest) u.sizes.page in
    record {
      sizes = u.sizes;
      can = can_take_started after m1 new page n c is g s;
      started = λ live waiting f. started_fits after m1 new page n c is g s live waiting (u.fits live waiting f);
      kept = λ live waiting f. keeps_then m m1 new live (keeps_same m m1 live u.words) (started_keeps after m1 new page n 0 (begun_page after m1 new page n c is g s) g live waiting (u.fits live waiting f));
      unused = ap (word_in m) at ∙ u.unused;
      lower = λ k less. u.lower k (elim (cases_lt k after.lowest) [ inl a ↦ a | inr b ↦ absurd (let up : page_at pages.page after.lowest ≤ page_at pages.page k = page_mono pages.page after.lowest k b in omega (arith, up, less, at)) ]);
      empty = record { chain = g.chain; fresh = g.fresh };
      one = elim u.one [ inl e ↦ inl (s.next_arena ∙ e) | inr e ↦ inr (s.next_arena ∙ e) ];
      exactly = (λ e. u.exactly.0 (sym s.next_arena ∙ e), λ all. s.next_arena ∙ u.exactly.1 all);
      size = s.arena_words ∙ u.size;
      large = s.next_large ∙ u.large;
      outside = outside_then m m1 new u.outside (arenas_outside m1 new s);
    }

-- what stays where a page could not be begun
pub same_stands : (pages after : Pages) (m new : Memory) (live : List Extent) (waiting : List ℕ) → KeepsBlocks pages after m → new ≡ m → HasBlocks pages m live waiting → HasBlocks after new live waiting
same_stands pages after m new live waiting o g f = subst (λ (k : Memory). HasBlocks after k live waiting) (sym g) (o.fits live waiting f)
