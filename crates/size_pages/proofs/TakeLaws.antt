-- Taking a block, over all pages.
use Rattle.std.proofs.Common.{◌≡◌, ◌≢◌, ℕ, ◌+◌, ◌-◌, ◌*◌, ◌<◌, ◌≤◌, ◌⊎◌, inl, inr, List, [], ◌∷◌, length, slice_index, arith, refl, sym, ◌∙◌, ap, subst}
use Rattle.std.proofs.lemmas.Bool.Decides.{eqb_tells, nat_tests}
use Rattle.heap_space.specs.Memory.{Memory}
use Rattle.heap_space.specs.Extents.{Extent}
use Rattle.size_pages.specs.PageWords.{Words, word_in, IsInArenas}
use Rattle.size_pages.specs.PageBlocks.{IsBlockOf, PageHolds, TakesChained, TakesFresh}
use Rattle.size_pages.specs.LiveBlocks.{page_at, blocks_of, BlocksFit, PageIs}
use Rattle.size_pages.specs.PageLists.{EachPlace, first_of_list, IsPage, list_number, list_of, IsListedRightly, SameSigns}
use Rattle.size_pages.specs.HasBlocks.{HasBlocksBut, HasBlocks, Stands}
use Rattle.size_pages.specs.Steps.{CanTake, CanTakeFrom, CanTakeUnlisted, IsOpen, CanPutOn, IsOnlyHeads}
use Rattle.size_pages.specs.Calls.{page_of}
use Rattle.size_pages.specs.declared.Pages.{Pages}
use Rattle.size_pages.proofs.ListMoves.{SameLinks}
use Rattle.size_pages.proofs.PageLaws.{holds_chained, holds_fresh}
use Rattle.size_pages.proofs.FitLaws.{fits_more, stays_elsewhere}
use Rattle.size_pages.proofs.FitsLaws.{page_facts, header_has, below_of, places_of}
use Rattle.size_pages.proofs.GiveLaws.{page_number, IsOnlyPage, page_changes}
use Rattle.size_pages.proofs.EndLaws.{heads_long}

-- the blocks of a page of n words
pub record ClassPage (w : Words) (size p n : ℕ) (live : List Extent) : Type 0 where
  pub free : List Extent
  pub holds : PageHolds w size p free live

pub class_page : (w : Words) (size count p n : ℕ) (live : List Extent) → BlocksFit w size count live → IsPage size count p → w p ≡ n → 2 ≤ n → ClassPage w size p n (blocks_of size p live)
class_page w size count p n live h is class two =
    let at : p ≡ page_at size is.number = is.is in
    let q : PageIs w size p (blocks_of size p live) = subst (λ (r : ℕ). PageIs w size r (blocks_of size r live)) (sym at) (h.pages is.number is.below) in
    record { free = q.free; holds = q.holds (omega arith) }

count_low : (f l n low high : ℕ) → 2 ≤ n → (f + l) * n + low ≡ high → l ≤ high
count_low f l n low high two h = grind arith

-- the first of the chain
pub record Head (w : Words) (size p n : ℕ) (live : List Extent) : Type 0 where
  pub rest : List Extent
  pub holds : PageHolds w size p ((w (p + 1), n) ∷ rest) live

head_of : (w : Words) (size p n : ℕ) (free live : List Extent) → PageHolds w size p free live → w p ≡ n → w (p + 1) ≢ 0 → Head w size p n live
head_of w size p n [] live h class some = absurd (some h.chain)
head_of w size p n (x ∷ fs) live h class some =
    let place : x.0 ≡ w (p + 1) = sym h.chain.0 in
    let wide : x.1 ≡ n = h.blocks.0.0 ∙ class in
    record { rest = fs; holds = subst (λ (a : ℕ). PageHolds w size p ((a, n) ∷ fs) live) place (subst (λ (k : ℕ). PageHolds w size p ((x.0, k) ∷ fs) live) wide h) }

pub can_take : {except : ℕ} (pages : Pages) (m : Memory) (page n : ℕ) → CanTakeFrom pages m except page n → CanTake m page n
can_take pages m page n c =
    let f = c.stands.fits in
    let size = pages.page in
    let count = pages.count in
    let w = word_in m in
    let wide : 64 ≤ size = f.blocks.size_low in
    let g = page_facts size count page c.is_page (below_of f) in
    let low : 4294967296 ≤ page = g.low in
    let high : page + size ≤ page_at size count = g.high in
    let short : page + size ≤ 1099511627776 = g.short in
    let two : 2 ≤ n = c.low in
    let class : w page ≡ n = c.class in
    let small : n ≤ pages.small = c.small in
    let small_high : pages.small + 8 ≤ size = f.setup.small_high in
    let q = class_page w size count page n c.stands.live f.blocks c.is_page class two in
    let h = q.holds in
    let fresh_low : page + 8 ≤ w (page + 3) = h.fresh_low in
    let fresh_high : w (page + 3) ≤ page + size = h.fresh_high in
    let bound : length (blocks_of size page c.stands.live) ≤ w (page + 3) = count_low (length q.free) (length (blocks_of size page c.stands.live)) (w page) (page + 8) (w (page + 3)) h.words h.all in
    let is_count : w (page + 2) ≡ length (blocks_of size page c.stands.live) = h.count in
    let first : w (page + 1) ≢ 0 → IsBlockOf (w page) (page + 8) (w (page + 3)) (w (page + 1), n) = λ some. (head_of w size page n q.free (blocks_of size page c.stands.live) h class some).holds.blocks.0 in
    record {
      header = header_has m size count page wide (places_of f) (below_of f) c.is_page;
      count = omega arith;
      chain_in = λ some. let b = first some in places_of f (w (page + 1)) (omega (arith, b.1)) (omega (arith, b.2));
      link_in = λ some. let b = first some in places_of f (w (page + 1) + 1) (omega (arith, b.1)) (omega (arith, b.2));
      chain_apart = λ some. (first some).1;
      fresh_in = λ none. places_of f (w (page + 3)) (omega arith) (elim c.room [ inl z ↦ absurd (z none) | inr r ↦ omega arith ]);
      fresh_apart = fresh_low;
      fresh_high = omega arith;
    }

-- the page's block is handed out, and the page is on no list
pub record Taken (old new : Words) (p n x : ℕ) : Type 0 where
  pub chained : old (p + 1) ≢ 0 → TakesChained old new p x
  pub fresh : old (p + 1) ≡ 0 → TakesFresh old new p x n

-- the block lies in the page, behind its header
pub taken_place : {except : ℕ} (pages : Pages) (m new : Memory) (page n x : ℕ) → CanTakeFrom pages m except page n → Taken (word_in m) (word_in new) page n x → (page + 8 ≤ x) × (x + n ≤ page + pages.page)
taken_place pages m new page n x c t =
    let f = c.stands.fits in
    let size = pages.page in
    let w = word_in m in
    let two : 2 ≤ n = c.low in
    let class : w page ≡ n = c.class in
    let q = class_page w size pages.count page n c.stands.live f.blocks c.is_page class two in
    let h = q.holds in
    let fresh_low : page + 8 ≤ w (page + 3) = h.fresh_low in
    let fresh_high : w (page + 3) ≤ page + size = h.fresh_high in
    elim (eqb_tells (w (page + 1)) 0) [
      | inl z ↦ (let first : x ≡ w (page + 3) = (t.fresh z.1).first in
          let room : x + n ≤ page + size = elim c.room [ inl y ↦ absurd (y z.1) | inr r ↦ omega arith ] in (omega arith, room))
      | inr y ↦ (let first : x ≡ w (page + 1) = (t.chained y.1).first in
          let block : IsBlockOf (w page) (page + 8) (w (page + 3)) (w (page + 1), n) = (head_of w size page n q.free (blocks_of size page c.stands.live) h class y.1).holds.blocks.0 in
          let low : page + 8 ≤ w (page + 1) = block.1 in
          let high : w (page + 1) + n ≤ w (page + 3) = block.2 in (omega arith, omega arith))
    ]

pub taken_page : {except : ℕ} (pages : Pages) (m new : Memory) (page n x : ℕ) → CanTakeFrom pages m except page n → Taken (word_in m) (word_in new) page n x → page ≡ page_of pages.page x
taken_page pages m new page n x c t =
    let place = taken_place pages m new page n x c t in
    let size = pages.page in
    let wide : 64 ≤ size = c.stands.fits.blocks.size_low in
    let two : 2 ≤ n = c.low in
    let k = c.is_page.number in
    let at : page ≡ page_at size k = c.is_page.is in
    let low : page + 8 ≤ x = place.0 in
    let high : x + n ≤ page + size = place.1 in
    at ∙ ap (page_at size) (sym (page_number size k x wide (omega arith) (omega arith)))

pub taken_from : {except : ℕ} (pages : Pages) (m new : Memory) (page n x : ℕ) → CanTakeFrom pages m except page n → Taken (word_in m) (word_in new) page n x → IsInArenas m new → (page ≢ except → SameLinks (word_in m) (word_in new) page × IsListedRightly (word_in new) pages.page page) → (live : List Extent) (waiting : List ℕ) → HasBlocksBut pages m live waiting except → HasBlocksBut pages new ((x, n) ∷ live) waiting except
taken_from {except} pages m new page n x c t s listed live waiting f =
    let size = pages.page in
    let count = pages.count in
    let w = word_in m in
    let now = word_in new in
    let wide : 64 ≤ size = f.blocks.size_low in
    let two : 2 ≤ n = c.low in
    let class : w page ≡ n = c.class in
    let at : page ≡ page_at size c.is_page.number = c.is_page.is in
    let q = class_page w size count page n live f.blocks c.is_page class two in
    let h = q.holds in
    let fresh_low : page + 8 ≤ w (page + 3) = h.fresh_low in
    let fresh_high : w (page + 3) ≤ page + size = h.fresh_high in
    let make : (free : List Extent) → PageHolds now size page free ((x, n) ∷ blocks_of size page live) → IsOnlyPage w now page size → w page ≡ now page → now (page + 7) ≡ w (page + 7) → HasBlocksBut pages new ((x, n) ∷ live) waiting except = λ free holds only same last.
    page_changes pages m new live ((x, n) ∷ live) waiting except page f c.is_page s only
    (fits_more w now size count c.is_page.number (x, n) free live c.is_page.below f.blocks
    (subst (λ (r : ℕ). PageHolds now size r free ((x, n) ∷ blocks_of size r live)) at holds)
    (stays_elsewhere w now size count c.is_page.number (subst (λ (r : ℕ). (e : ℕ) → (e < r) ⊎ (r + size ≤ e) → now e ≡ w e) at only)))
    (subst (λ (k : ℕ). k ≤ pages.small) (sym class ∙ same) c.small) (λ z. omega (arith, sym class ∙ same ∙ z, two)) last listed in
    elim (eqb_tells (w (page + 1)) 0) [
      | inl z ↦
          let g = t.fresh z.1 in
          let first : x ≡ w (page + 3) = g.first in
          let room : x + n ≤ page + size = elim c.room [ inl y ↦ absurd (y z.1) | inr r ↦ omega arith ] in
          make q.free (holds_fresh w now size page x n q.free (blocks_of size page live) h (sym class) g room)
          (λ e out. elim out [ inl a ↦ g.rest e (omega arith) (omega arith) (omega arith) (omega arith) | inr b ↦ g.rest e (omega arith) (omega arith) (omega arith) (omega arith) ])
          (sym (g.rest page (omega arith) (omega arith) (omega arith) (omega arith)))
          (g.rest (page + 7) (omega arith) (omega arith) (omega arith) (omega arith))
      | inr y ↦
          let g = t.chained y.1 in
          let first : x ≡ w (page + 1) = g.first in
          let head = head_of w size page n q.free (blocks_of size page live) h class y.1 in
          let block : IsBlockOf (w page) (page + 8) (w (page + 3)) (w (page + 1), n) = head.holds.blocks.0 in
          let low : page + 8 ≤ w (page + 1) = block.1 in
          let high : w (page + 1) + n ≤ w (page + 3) = block.2 in
          let moved : PageHolds now size page head.rest ((x, n) ∷ blocks_of size page live) =
          holds_chained w now size page (x, n) head.rest (blocks_of size page live) (subst (λ (a : ℕ). PageHolds w size page ((a, n) ∷ head.rest) (blocks_of size page live)) (sym first) head.holds) g in
          make head.rest moved
          (λ e out. elim out [ inl a ↦ g.rest e (omega arith) (omega arith) (omega arith) (omega arith) | inr b ↦ g.rest e (omega arith) (omega arith) (omega arith) (omega arith) ])
          (sym (g.rest page (omega arith) (omega arith) (omega arith) (omega arith)))
          (g.rest (page + 7) (omega arith) (omega arith) (omega arith) (omega arith))
    ]

pub taken_fits : (pages : Pages) (m new : Memory) (page n x : ℕ) → CanTakeUnlisted pages m page n → Taken (word_in m) (word_in new) page n x → IsInArenas m new → (live : List Extent) (waiting : List ℕ) → HasBlocksBut pages m live waiting page → HasBlocksBut pages new ((x, n) ∷ live) waiting page
taken_fits pages m new page n x c t s = taken_from pages m new page n x c t s (λ ne. absurd (ne refl))

pub record TakenSigns (old new : Words) (p : ℕ) : Type 0 where
  pub class : new p ≡ old p
  pub count : 0 < new (p + 2)

pub taken_signs : (m new : Memory) (page n x : ℕ) → CanTake m page n → Taken (word_in m) (word_in new) page n x → TakenSigns (word_in m) (word_in new) page
taken_signs m new page n x c t =
    let w = word_in m in
    let now = word_in new in
    elim (eqb_tells (w (page + 1)) 0) [
      | inl z ↦
          let g = t.fresh z.1 in
          let first : x ≡ w (page + 3) = g.first in
          let low : page + 8 ≤ w (page + 3) = c.fresh_apart in
          let count : now (page + 2) ≡ w (page + 2) + 1 = g.count in
          record { class = g.rest page (omega arith) (omega arith) (omega arith) (omega arith); count = omega arith }
      | inr y ↦
          let g = t.chained y.1 in
          let first : x ≡ w (page + 1) = g.first in
          let low : page + 8 ≤ w (page + 1) = c.chain_apart y.1 in
          let count : now (page + 2) ≡ w (page + 2) + 1 = g.count in
          record { class = g.rest page (omega arith) (omega arith) (omega arith) (omega arith); count = omega arith }
    ]

pub list_is : (kind class n : ℕ) → class ≡ n → (kind ≡ 1) ⊎ (kind ≡ 2) → 2 * n + (kind - 1) ≡ list_number kind class
list_is kind class n e k = elim k [ inl a ↦ grind (arith, nat_tests) | inr b ↦ grind (arith, nat_tests) ]

pub can_put_back : (pages : Pages) (m new : Memory) (page n x kind : ℕ) → CanTakeUnlisted pages m page n → Taken (word_in m) (word_in new) page n x → IsInArenas m new → (kind ≡ 1) ⊎ (kind ≡ 2) → (kind ≡ 1 → (word_in new (page + 1) ≢ 0) ⊎ (word_in new (page + 3) + n ≤ page + pages.page)) → (kind ≡ 2 → (word_in new (page + 1) ≡ 0) × (page + pages.page < word_in new (page + 3) + n)) → CanPutOn pages new page (2 * n + (kind - 1)) kind
can_put_back pages m new page n x kind c t s known room full =
    let g = taken_signs m new page n x (can_take pages m page n c) t in
    let now = word_in new in
    let class : now page ≡ n = g.class ∙ c.class in
    let two : 2 ≤ n = c.low in
    let some : 0 < now (page + 2) = g.count in
    let small : n ≤ pages.small = c.small in
    let low : 1 ≤ kind = elim known [ inl a ↦ omega arith | inr b ↦ omega arith ] in
    let high : kind ≤ 2 = elim known [ inl a ↦ omega arith | inr b ↦ omega arith ] in
    record {
      stands = record { live = (x, n) ∷ c.stands.live; waiting = c.stands.waiting; fits = taken_fits pages m new page n x c t s c.stands.live c.stands.waiting c.stands.fits };
      is_page = c.is_page;
      is_list = list_is kind (now page) n class known;
      low = omega arith;
      in_heads = heads_long c.stands.fits page (2 * n + (kind - 1)) c.is_page (omega arith);
      right = record {
        known = omega arith;
        unused = λ e. absurd (omega arith);
        used = λ e. omega arith;
        room = λ e. elim (room e) [ inl a ↦ inl a | inr b ↦ inr (omega arith) ];
        full = λ e. ((full e).0, (let f : page + pages.page < now (page + 3) + n = (full e).1 in omega arith));
        busy = λ e. some;
      };
    }

kind_room : (kind class n : ℕ) → 2 ≤ n → kind ≤ 3 → list_number kind class ≡ 2 * n → (kind ≡ 1) × (class ≡ n)
kind_room kind class n two high e = grind (arith, nat_tests)

first_one : (xs : List ℕ) (page : ℕ) (P : ℕ → Type 0) → page ≢ 0 → page ≡ first_of_list xs → EachPlace P xs → P page
first_one [] page P n e all = absurd (n e)
first_one (x ∷ xs) page P n e all = subst P (sym e) all.0

pub first_with_room : (pages : Pages) (m : Memory) (page n : ℕ) → Stands pages m → 2 ≤ n → page ≢ 0 → page ≡ slice_index pages.heads.items (2 * n) → IsOpen pages m page n
first_with_room pages m page n st two ne is =
    let f = st.fits in
    let w = word_in m in
    let s = 2 * n in
    let first : page ≡ first_of_list (f.lists.lists s) = is ∙ f.lists.heads_are s in
    let is_page : IsPage pages.page pages.count page = first_one (f.lists.lists s) page (IsPage pages.page pages.count) ne first (f.lists.pages s) in
    let on : (list_of w page ≡ s) × (page ≢ 0) = first_one (f.lists.lists s) page (λ p. (list_of w p ≡ s) × (p ≢ 0)) ne first (f.lists.right s) in
    let at : page ≡ page_at pages.page is_page.number = is_page.is in
    let right : IsListedRightly w pages.page page = subst (λ (q : ℕ). IsListedRightly w pages.page q) (sym at) (f.lists.rightly is_page.number is_page.below (omega arith)) in
    let known = kind_room (w (page + 6)) (w page) n two right.known on.0 in
    record {
      off = record { stands = st; is_page = is_page; is_list = sym on.0; low = omega arith };
      class = known.1;
      kind = known.0;
      room = right.room known.0;
    }

pub can_take_first : (pages p2 : Pages) (m m2 : Memory) (page n : ℕ) → Stands pages m → 2 ≤ n → n ≤ pages.small → page ≢ 0 → page ≡ slice_index pages.heads.items (2 * n) → ((live : List Extent) (waiting : List ℕ) → HasBlocks pages m live waiting → HasBlocksBut p2 m2 live waiting page) → SameSigns (word_in m) (word_in m2) page → IsOnlyHeads pages p2 → CanTakeUnlisted p2 m2 page n
can_take_first pages p2 m m2 page n st two small ne is off signs only =
    let g = first_with_room pages m page n st two ne is in
    let chain : word_in m2 (page + 1) ≡ word_in m (page + 1) = signs.chain in
    let fresh : word_in m2 (page + 3) ≡ word_in m (page + 3) = signs.fresh in
    let class : word_in m2 page ≡ word_in m page = signs.class in
    let size : p2.page ≡ pages.page = only.page in
    record {
      stands = record { live = st.live; waiting = st.waiting; fits = off st.live st.waiting st.fits };
      is_page = subst (λ (k : ℕ). IsPage k p2.count page) (sym only.page) (subst (λ (k : ℕ). IsPage pages.page k page) (sym only.count) g.off.is_page);
      class = class ∙ g.class;
      low = two;
      small = subst (λ (k : ℕ). n ≤ k) (sym only.small) small;
      room = elim g.room [ inl a ↦ inl (λ z. a (sym chain ∙ z)) | inr b ↦ inr (omega arith) ];
    }

pub stands_on : (pages after : Pages) (m : Memory) → Stands pages m → ((live : List Extent) (waiting : List ℕ) → HasBlocks pages m live waiting → HasBlocks after m live waiting) → Stands after m
stands_on pages after m s keeps = record { live = s.live; waiting = s.waiting; fits = keeps s.live s.waiting s.fits }
