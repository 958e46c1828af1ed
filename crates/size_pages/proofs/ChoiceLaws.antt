-- Which page a block comes from, and that it is none of the waiting ones.
use Rattle.std.proofs.Common.{◌≡◌, ◌≢◌, ℕ, ◌+◌, ◌*◌, ◌<◌, ◌≤◌, ◌⊎◌, inl, inr, List, length, slice_index, arith, sym, ◌∙◌, ap, subst}
use Rattle.std.proofs.lemmas.Bool.Decides.{eqb_tells, nat_tests}
use Rattle.heap_space.specs.Memory.{Memory}
use Rattle.heap_space.specs.Extents.{Extent}
use Rattle.size_pages.specs.PageWords.{Words, word_in, IsInArenas}
use Rattle.size_pages.specs.LiveBlocks.{page_at}
use Rattle.size_pages.specs.PageLists.{EachPlace, IsPage, list_number, list_of, IsListedRightly, ListsFit, HasRoom, Unlinks, SameSigns}
use Rattle.size_pages.specs.HasBlocks.{HasBlocks, HasBlocksBut, Stands, KeepsSizes}
use Rattle.size_pages.specs.Growth.{BeginsPage}
use Rattle.size_pages.specs.Calls.{IsInNone, TakesFrom, TakesFirst, AddsArena}
use Rattle.size_pages.specs.Moves.{FindsPage}
use Rattle.size_pages.specs.Steps.{IsOnlyHeads, IsOpen, TakesNext}
use Rattle.size_pages.specs.declared.Pages.{Pages}
use Rattle.size_pages.proofs.FitLaws.{pages_apart}
use Rattle.size_pages.proofs.ListLaws.{places_map, places_both}
use Rattle.size_pages.proofs.TakeLaws.{first_with_room, can_take_first}
use Rattle.size_pages.proofs.KeepLaws.{off_keeps}
use Rattle.size_pages.proofs.AroundLaws.{sizes_heads}
use Rattle.size_pages.proofs.GrowthLaws.{none_has_room, arenas_outside}
use Rattle.size_pages.proofs.BeginLaws.{some_words}

-- a waiting page: it has a class, and its word 6 says so
pub record IsWaitingPage (w : Words) (size count q : ℕ) : Type 0 where
  pub is_page : IsPage size count q
  pub kind : w (q + 6) ≡ 3
  pub used : 2 ≤ w q

kind_of_one : (kind class : ℕ) → kind ≤ 3 → (kind ≢ 0 → 2 ≤ class) → list_number kind class ≡ 1 → kind ≡ 3
kind_of_one kind class high used e = grind (arith, nat_tests)

waiting_page : (w : Words) (size count : ℕ) (heads waiting : List ℕ) → ListsFit w size count heads waiting 0 → (q : ℕ) → IsPage size count q → (list_of w q ≡ 1) × (q ≢ 0) → IsWaitingPage w size count q
waiting_page w size count heads waiting f q is on =
    let at : q ≡ page_at size is.number = is.is in
    let right : IsListedRightly w size q = subst (λ (p : ℕ). IsListedRightly w size p) (sym at) (f.rightly is.number is.below (omega arith)) in
    let kind = kind_of_one (w (q + 6)) (w q) right.known right.used on.0 in
    record { is_page = is; kind = kind; used = right.used (omega arith) }

pub waiting_pages : (w : Words) (size count : ℕ) (heads waiting : List ℕ) → ListsFit w size count heads waiting 0 → EachPlace (IsWaitingPage w size count) waiting
waiting_pages w size count heads waiting f =
    subst (EachPlace (IsWaitingPage w size count)) f.waits
    (places_both (IsPage size count) (λ q. (list_of w q ≡ 1) × (q ≢ 0)) (IsWaitingPage w size count) (waiting_page w size count heads waiting f) (f.lists 1) (f.pages 1) (f.right 1))

-- a block of a page that is none of them
pub in_none : (w : Words) (size count p a : ℕ) (waiting : List ℕ) → EachPlace (IsWaitingPage w size count) waiting → (n : ℕ) → IsPage size n p → (w (p + 6) ≢ 3) ⊎ (w p ≡ 0) → p ≤ a → a < p + size → IsInNone size waiting a
in_none w size count p a waiting all n is free low high =
    places_map (IsWaitingPage w size count) (λ q. (a < q) ⊎ (q + size ≤ a)) (λ q wait.
    let at : p ≡ page_at size is.number = is.is in
    let to : q ≡ page_at size wait.is_page.number = wait.is_page.is in
    let used : 2 ≤ w q = wait.used in
    elim (eqb_tells is.number wait.is_page.number) [
      | inl e ↦ (let same : q ≡ p = to ∙ ap (page_at size) (sym e.1) ∙ sym at in
          elim free [ inl k ↦ absurd (k (ap (λ (r : ℕ). w (r + 6)) (sym same) ∙ wait.kind)) | inr z ↦ absurd (let e : w q ≡ 0 = ap w same ∙ z in omega arith) ])
      | inr ne ↦ elim (pages_apart size is.number wait.is_page.number ne.1) [ inl x ↦ inl (omega arith) | inr y ↦ inr (omega arith) ]
    ]) waiting all

list_two : (kind class n : ℕ) → 2 ≤ n → list_number kind class ≡ 2 * n → kind ≢ 3
list_two kind class n two e = grind (arith, nat_tests)

pub first_not_waiting : (pages : Pages) (m : Memory) (page n : ℕ) → 2 ≤ n → IsOpen pages m page n → word_in m (page + 6) ≢ 3
first_not_waiting pages m page n two g = list_two (word_in m (page + 6)) (word_in m page) n two (sym g.off.is_list)

-- the block comes from a page with room
pub from_first : (pages : Pages) (m : Memory) (page n : ℕ) → 2 ≤ n → IsOpen pages m page n → TakesFrom (word_in m) pages.page pages.count n page
from_first pages m page n two g = record {
  class = inl g.class;
  full = λ z. absurd (let e : n ≡ 0 = sym g.class ∙ z in omega arith);
  lowest = λ z. absurd (let e : n ≡ 0 = sym g.class ∙ z in omega arith);
}

-- and is the first of its chain, or the first that was never handed out
pub next_first : (pages : Pages) (m off : Memory) (page n a : ℕ) → 2 ≤ n → IsOpen pages m page n → SameSigns (word_in m) (word_in off) page → TakesNext (word_in off) page a → TakesFirst (word_in m) page a
next_first pages m off page n a two g same t =
    let w = word_in m in record {
      chained = λ used some. t.chained (λ z. some (sym same.chain ∙ z)) ∙ same.chain;
      fresh = λ used none. t.fresh (same.chain ∙ none) ∙ same.fresh;
      begun = λ z. absurd (let e : n ≡ 0 = sym g.class ∙ z in omega arith);
    }

pub next_begun : (pages after : Pages) (m new : Memory) (page n a : ℕ) → BeginsPage pages after m new page n → TakesNext (word_in new) page a → TakesFirst (word_in m) page a
next_begun pages after m new page n a b t = record {
  chained = λ used some. absurd (used b.unused);
  fresh = λ used none. absurd (used b.unused);
  begun = λ z. t.fresh b.empty.chain ∙ b.empty.fresh;
}

pub arena_first : (pages : Pages) (m new : Memory) (page n : ℕ) → 2 ≤ n → Stands pages m → IsOpen pages m page n → new.next_arena ≡ m.next_arena → AddsArena (word_in m) pages.page pages.count n m new
arena_first pages m new page n two st g same =
    let some : 0 < m.arena_words = some_words pages m st in
    let k = g.off.is_page.number in
    let at : page ≡ page_at pages.page k = g.off.is_page.is in
    let w = word_in m in
    record {
      one = inl same;
      exactly = (
        λ e. absurd (omega arith),
        λ none. absurd (none.0 k g.off.is_page.below (subst (λ (p : ℕ). w p ≡ n) at g.class) (subst (λ (p : ℕ). w (p + 6) ≢ 3) at (first_not_waiting pages m page n two g)) (subst (λ (p : ℕ). HasRoom w pages.page p) at g.room)),
      );
    }

-- the block comes from a page that is begun
pub from_begun : (pages after : Pages) (m new : Memory) (page n : ℕ) → Stands pages m → 2 ≤ n → slice_index pages.heads.items (2 * n) ≡ 0 → BeginsPage pages after m new page n → TakesFrom (word_in m) pages.page pages.count n page
from_begun pages after m new page n st two none b = record {
  class = inr b.unused;
  full = λ z. none_has_room pages m n st.live st.waiting st.fits two none;
  lowest = λ z. b.lower;
}

-- a page with room is found
pub finds_first : (pages p2 : Pages) (m m2 : Memory) (page n : ℕ) → Stands pages m → 2 ≤ n → n ≤ pages.small → page ≢ 0 → page ≡ slice_index pages.heads.items (2 * n) → ((live : List Extent) (waiting : List ℕ) → HasBlocks pages m live waiting → HasBlocksBut p2 m2 live waiting page) → Unlinks (word_in m) (word_in m2) pages.heads.items p2.heads.items page (2 * n)
    → SameSigns (word_in m) (word_in m2) page → IsOnlyHeads pages p2 → IsInArenas m m2 → FindsPage pages p2 m m2 page n
finds_first pages p2 m m2 page n st two small ne is off u signs only s =
    let g = first_with_room pages m page n st two ne is in
    record {
      sizes = sizes_heads pages p2 only;
      can = can_take_first pages p2 m m2 page n st two small ne is off signs only;
      found = off;
      kept = off_keeps pages p2.heads.items m m2 page (2 * n) g.off u;
      apart = λ live waiting f a low high. in_none (word_in m) pages.page pages.count page a waiting (waiting_pages (word_in m) pages.page pages.count pages.heads.items waiting f.lists) pages.count g.off.is_page (inl (first_not_waiting pages m page n two g)) low high;
      from = from_first pages m page n two g;
      next = λ a t. next_first pages m m2 page n a two g signs t;
      arena = arena_first pages m m2 page n two st g s.next_arena;
      size = s.arena_words;
      large = s.next_large;
      outside = arenas_outside m m2 s;
    }

-- a page is begun, where none has room
pub finds_begun : (pages after : Pages) (m new : Memory) (page n : ℕ) → Stands pages m → 2 ≤ n → slice_index pages.heads.items (2 * n) ≡ 0 → BeginsPage pages after m new page n → FindsPage pages after m new page n
finds_begun pages after m new page n st two none b =
    let full = none_has_room pages m n st.live st.waiting st.fits two none in
    record {
      sizes = b.sizes;
      can = b.can;
      found = b.started;
      kept = b.kept;
      apart = λ live waiting f a low high. in_none (word_in m) pages.page pages.count page a waiting (waiting_pages (word_in m) pages.page pages.count pages.heads.items waiting f.lists) after.count (subst (λ (k : ℕ). IsPage k after.count page) b.sizes.page b.can.is_page) (inr b.unused) low high;
      from = from_begun pages after m new page n st two none b;
      next = λ a t. next_begun pages after m new page n a b t;
      arena = record { one = b.one; exactly = (λ e. (full, b.exactly.0 e), λ h. b.exactly.1 h.1) };
      size = b.size;
      large = b.large;
      outside = b.outside;
    }

-- pages that got room for their heads before
pub finds_grown : (pages grown new : Pages) (m after : Memory) (page n : ℕ) → grown ≡ record pages { heads = grown.heads } → ((live : List Extent) (waiting : List ℕ) → HasBlocks pages m live waiting → HasBlocks grown m live waiting) → FindsPage grown new m after page n → FindsPage pages new m after page n
finds_grown pages grown new m after page n e keeps g =
    let P : Pages → Type 0 = λ p. FindsPage p new m after page n in
    let h : FindsPage (record pages { heads = grown.heads }) new m after page n = subst P e g in
    record {
      sizes = record { page = h.sizes.page; pages_per_arena = h.sizes.pages_per_arena; small = h.sizes.small };
      can = h.can;
      found = λ live waiting f. g.found live waiting (keeps live waiting f);
      kept = λ live waiting f. g.kept live waiting (keeps live waiting f);
      apart = λ live waiting f. h.apart live waiting (subst (λ (p : Pages). HasBlocks p m live waiting) e (keeps live waiting f));
      from = h.from;
      next = h.next;
      arena = h.arena;
      size = h.size;
      large = h.large;
      outside = h.outside;
    }

-- the arena that was added, where a block is taken then
pub arena_later : (w : Words) (size count n : ℕ) (m after last : Memory) → AddsArena w size count n m after → last.next_arena ≡ after.next_arena → AddsArena w size count n m last
arena_later w size count n m after last h same = record {
  one = elim h.one [ inl e ↦ inl (same ∙ e) | inr e ↦ inr (same ∙ e) ];
  exactly = (λ e. h.exactly.0 (sym same ∙ e), λ c. same ∙ h.exactly.1 c);
}

pub heads_grown : (pages grown : Pages) → grown ≡ record pages { heads = grown.heads } → 2 * pages.small + 2 ≤ length grown.heads.items → 2 * grown.small + 2 ≤ length grown.heads.items
heads_grown pages grown e long = subst (λ (k : ℕ). 2 * k + 2 ≤ length grown.heads.items) (sym (ap (λ (p : Pages). p.small) e)) long

pub sizes_grown : (pages grown : Pages) → grown ≡ record pages { heads = grown.heads } → KeepsSizes pages grown
sizes_grown pages grown e = record {
  page = ap (λ (p : Pages). p.page) e;
  pages_per_arena = ap (λ (p : Pages). p.pages_per_arena) e;
  small = ap (λ (p : Pages). p.small) e;
}
