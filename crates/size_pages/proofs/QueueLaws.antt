-- Pages that go on the list of the waiting ones, and leave it.
use Rattle.std.proofs.Common.{◌≡◌, ◌≢◌, ℕ, ◌+◌, ◌-◌, ◌*◌, ◌<◌, ◌≤◌, ◌⊎◌, inl, inr, List, [], ◌∷◌, length, slice_index, arith, refl, sym, ◌∙◌, subst}
use Rattle.std.proofs.lemmas.Bool.Decides.{eqb_tells}
use Rattle.heap_space.specs.Memory.{Memory}
use Rattle.heap_space.specs.Extents.{Extent}
use Rattle.size_pages.specs.PageWords.{word_in, HasAll, IsInArenas}
use Rattle.size_pages.specs.LiveBlocks.{page_at}
use Rattle.size_pages.specs.PageLists.{EachPlace, IsPage, IsRight, IsListedRightly, Unlinks, Links, SameSigns}
use Rattle.size_pages.specs.HasBlocks.{HasBlocksBut, HasBlocks, IsRising, KeepsSizes}
use Rattle.size_pages.specs.Steps.{CanLink, CanTakeOff, IsOnlyHeads}
use Rattle.size_pages.specs.SweepSteps.{IsOnlyLists, CanWait, CanPutWaiting, WaitsMore}
use Rattle.size_pages.specs.declared.Pages.{Pages}
use Rattle.size_pages.proofs.FitLaws.{pages_part}
use Rattle.size_pages.proofs.ListLaws.{places_map}
use Rattle.size_pages.proofs.ListMoves.{page_words, not_zero, first_page}
use Rattle.size_pages.proofs.FitsLaws.{can_link_at, on_any, places_of, below_of, header_has, beside}
use Rattle.size_pages.proofs.EndLaws.{heads_long, number_of_list}
use Rattle.size_pages.proofs.KeepLaws.{keeps_then, links_keep, off_keeps}
use Rattle.size_pages.proofs.ArenaLaws.{arenas_then}

pub can_link_waiting : (pages : Pages) (m : Memory) (page : ℕ) → CanPutWaiting pages m page → CanLink m pages.heads.items page 1
can_link_waiting pages m page c =
    let f = c.fits in
    let small : 2 ≤ pages.small = f.setup.small_low in
    can_link_at page 1 f c.is_page (heads_long f page 1 c.is_page (omega arith))

pub wait_fits : (pages after : Pages) (m new : Memory) (page : ℕ) → CanPutWaiting pages m page → Links (word_in m) (word_in new) pages.heads.items after.heads.items page 1 3 → IsInArenas m new → IsOnlyLists pages after → after.waiting ≡ pages.waiting + 1
    → (live : List Extent) (waiting : List ℕ) → HasBlocksBut pages m live waiting page → EachPlace (λ q. page < q) waiting → HasBlocks after new live (page ∷ waiting)
wait_fits pages after m new page c u s only more live waiting f above =
    let used : 2 ≤ word_in m page = c.used in
    let right : IsRight 3 (word_in m) pages.page page = record { known = omega arith; unused = λ e. absurd (omega arith); used = λ e. used; room = λ e. absurd (omega arith); full = λ e. absurd (omega arith); busy = λ e. absurd (omega arith) } in
    on_any pages after m new page 1 3 c.is_page (λ z. omega (arith, z)) refl right u s only live waiting (page ∷ waiting) f (λ e. refl) (λ n. absurd (n refl)) (more ∙ (let e : pages.waiting ≡ length waiting = f.waits in omega arith)) (above, f.rising)

-- as many places as rise below a number are at most that number
rising_few : (n x : ℕ) (xs : List ℕ) → IsRising (x ∷ xs) → EachPlace (λ q. q < n) (x ∷ xs) → x + length (x ∷ xs) ≤ n
rising_few n x [] r all = let low : x < n = all.0 in omega arith
rising_few n x (y ∷ ys) r all = let rest = rising_few n y ys r.1 all.1 in let less : x < y = r.0.0 in omega arith

few_rise : (n : ℕ) (xs : List ℕ) → IsRising xs → EachPlace (λ q. q < n) xs → length xs ≤ n
few_rise n [] r all = omega arith
few_rise n (x ∷ xs) r all = let h = rising_few n x xs r all in omega arith

pub few_waiting : (pages : Pages) (m : Memory) (live : List Extent) (waiting : List ℕ) (except : ℕ) → HasBlocksBut pages m live waiting except → pages.waiting ≤ 1099511627776
few_waiting pages m live waiting except f =
    let size = pages.page in
    let wide : 64 ≤ size = f.blocks.size_low in
    let below : page_at size pages.count ≤ 1099511627776 = below_of f in
    let all : EachPlace (IsPage size pages.count) waiting = subst (EachPlace (IsPage size pages.count)) f.lists.waits (f.lists.pages 1) in
    let e : pages.waiting ≡ length waiting = f.waits in
    let few : length waiting ≤ 1099511627776 = few_rise 1099511627776 waiting f.rising (places_map (IsPage size pages.count) (λ q. q < 1099511627776) (λ q is. let at : q ≡ page_at size is.number = is.is in let part : page_at size is.number + size ≤ page_at size pages.count = pages_part size is.number pages.count is.below in omega arith) waiting all) in
    omega arith

kind_low : (kind class : ℕ) → class ≢ 0 → (kind ≡ 0 → class ≡ 0) → 1 ≤ kind
kind_low kind class n h = elim (eqb_tells kind 0) [ inl a ↦ absurd (n (h a.1)) | inr b ↦ (let c : kind ≢ 0 = b.1 in omega arith) ]

-- what the page that is to wait has in its header
pub record WaitFacts (pages : Pages) (m : Memory) (page : ℕ) : Type 0 where
  pub header : HasAll m page (page + 8)
  pub off : CanTakeOff pages m page (2 * word_in m page + (word_in m (page + 6) - 1))
  pub used : 2 ≤ word_in m page
  pub kind : 1 ≤ word_in m (page + 6)
  pub kind_most : word_in m (page + 6) ≤ 3
  pub small : word_in m page ≤ 8192
  pub few : pages.waiting ≤ 1099511627776

pub wait_facts : (pages : Pages) (m : Memory) (page : ℕ) → CanWait pages m page → WaitFacts pages m page
wait_facts pages m page c =
    let f = c.fits in
    let size = pages.page in
    let w = word_in m in
    let wide : 64 ≤ size = f.blocks.size_low in
    let k = c.is_page.number in
    let at : page ≡ page_at size k = c.is_page.is in
    let right : IsListedRightly w size page = subst (λ (q : ℕ). IsListedRightly w size q) (sym at) (f.lists.rightly k c.is_page.below (omega arith)) in
    let low : 1 ≤ w (page + 6) = kind_low (w (page + 6)) (w page) c.used right.unused in
    let used : 2 ≤ w page = right.used (omega arith) in
    let class : w page ≤ pages.small = subst (λ (q : ℕ). w q ≤ pages.small) (sym at) (f.classes.small k c.is_page.below) in
    let small : pages.small + 8 ≤ size = f.setup.small_high in
    let big : size ≤ 8192 = f.setup.size_high in
    record {
      header = header_has m size pages.count page wide (places_of f) (below_of f) c.is_page;
      off = record {
        stands = record { live = c.live; waiting = c.waiting; fits = f };
        is_page = c.is_page;
        is_list = number_of_list (w (page + 6)) (w page) (w page) refl low c.not_waiting;
        low = omega arith;
      };
      used = used;
      kind = low;
      kind_most = right.known;
      small = omega arith;
      few = few_waiting pages m c.live c.waiting 0 f;
    }

pub can_put_waiting : (pages p1 : Pages) (m m1 : Memory) (page list : ℕ) → CanWait pages m page → ((live : List Extent) (waiting : List ℕ) → HasBlocks pages m live waiting → HasBlocksBut p1 m1 live waiting page) → SameSigns (word_in m) (word_in m1) page → IsOnlyHeads pages p1 → CanPutWaiting p1 m1 page
can_put_waiting pages p1 m m1 page list c off signs only =
    let g = wait_facts pages m page c in
    let two : 2 ≤ word_in m page = g.used in
    let same : word_in m1 page ≡ word_in m page = signs.class in
    let count : p1.waiting ≡ pages.waiting = only.waiting in
    let few : pages.waiting ≤ 1099511627776 = g.few in
    record {
      live = c.live;
      waiting = c.waiting;
      fits = off c.live c.waiting c.fits;
      is_page = subst (λ (k : ℕ). IsPage k p1.count page) (sym only.page) (subst (λ (k : ℕ). IsPage pages.page k page) (sym only.count) c.is_page);
      used = omega arith;
      few = omega arith;
    }

-- the words of pages that a move between lists leaves
off_words : (pages : Pages) (after : List ℕ) (m new : Memory) (page list k i : ℕ) → CanTakeOff pages m page list → Unlinks (word_in m) (word_in new) pages.heads.items after page list → k < pages.count → i < 8 → i ≢ 4 → i ≢ 5 → word_in new (page_at pages.page k + i) ≡ word_in m (page_at pages.page k + i)
off_words pages after m new page list k i c u below small n4 n5 =
    let size = pages.page in
    let f = c.stands.fits in
    let b = beside (word_in m) size pages.count page list pages.heads.items c.stands.waiting 0 f.lists c.is_page (not_zero size pages.count page c.is_page) c.is_list (λ z. omega (arith, z, c.low)) in
    let is : IsPage size pages.count (page_at size k) = record { number = k; below = below; is = refl } in
    u.rest (page_at size k + i) (page_words size pages.count (page_at size k) (word_in m (page + 5)) i 4 f.blocks.size_low is b.before small (omega arith) n4) (page_words size pages.count (page_at size k) (word_in m (page + 4)) i 5 f.blocks.size_low is b.next small (omega arith) n5)

on_words : (pages : Pages) (after : List ℕ) (m new : Memory) (page k i : ℕ) → CanPutWaiting pages m page → Links (word_in m) (word_in new) pages.heads.items after page 1 3 → k < pages.count → (i ≡ 0) ⊎ ((i ≡ 6) × (page_at pages.page k ≢ page)) → word_in new (page_at pages.page k + i) ≡ word_in m (page_at pages.page k + i)
on_words pages after m new page k i c u below which =
    let size = pages.page in
    let count = pages.count in
    let f = c.fits in
    let wide : 64 ≤ size = f.blocks.size_low in
    let next = slice_index pages.heads.items 1 in
    let next_page : (next ≡ 0) ⊎ IsPage size count next = subst (λ (y : ℕ). (y ≡ 0) ⊎ IsPage size count y) (sym (f.lists.heads_are 1)) (first_page size count (f.lists.lists 1) (f.lists.pages 1)) in
    let is : IsPage size count (page_at size k) = record { number = k; below = below; is = refl } in
    let words : (j : ℕ) → j < 8 → i ≢ j → i < 8 → page_at size k + i ≢ page + j = λ j small n low. page_words size count (page_at size k) page i j wide is (inr c.is_page) low small n in
    let five : i < 8 → i ≢ 5 → page_at size k + i ≢ next + 5 = λ low n. page_words size count (page_at size k) next i 5 wide is next_page low (omega arith) n in
    elim which [
      | inl z ↦ u.rest (page_at size k + i) (words 4 (omega arith) (omega arith) (omega arith)) (words 5 (omega arith) (omega arith) (omega arith)) (words 6 (omega arith) (omega arith) (omega arith)) (five (omega arith) (omega arith))
      | inr s ↦ (let six : i ≡ 6 = s.0 in u.rest (page_at size k + i) (words 4 (omega arith) (omega arith) (omega arith)) (words 5 (omega arith) (omega arith) (omega arith)) (λ same. s.1 (omega (arith, same))) (five (omega arith) (omega arith)))
    ]

pub waits_more : (pages p1 p2 : Pages) (m m1 m2 : Memory) (page list : ℕ) → CanWait pages m page → CanTakeOff pages m page list → ((live : List Extent) (waiting : List ℕ) → HasBlocks pages m live waiting → HasBlocksBut p1 m1 live waiting page) → Unlinks (word_in m) (word_in m1) pages.heads.items p1.heads.items page list → SameSigns (word_in m) (word_in m1) page → IsOnlyHeads pages p1 → IsInArenas m m1
    → ((live : List Extent) (waiting : List ℕ) → HasBlocksBut p1 m1 live waiting page → EachPlace (λ q. page < q) waiting → HasBlocks p2 m2 live (page ∷ waiting)) → Links (word_in m1) (word_in m2) p1.heads.items p2.heads.items page 1 3 → KeepsSizes p1 p2 → p2.count ≡ p1.count → p2.order ≡ p1.order → IsInArenas m1 m2 → WaitsMore pages p2 m m2 page
waits_more pages p1 p2 m m1 m2 page list c off_ok off u signs only s on l sizes count order s2 =
    let put = can_put_waiting pages p1 m m1 page list c off signs only in
    let size : p1.page ≡ pages.page = only.page in
    let word : (k i : ℕ) → k < pages.count → i < 8 → i ≢ 4 → i ≢ 5 → (i ≡ 0) ⊎ ((i ≡ 6) × (page_at pages.page k ≢ page)) → word_in m2 (page_at pages.page k + i) ≡ word_in m (page_at pages.page k + i) = λ k i below small n4 n5 which.
    subst (λ (z : ℕ). (i ≡ 0) ⊎ ((i ≡ 6) × (page_at z k ≢ page)) → word_in m2 (page_at z k + i) ≡ word_in m1 (page_at z k + i)) size (on_words p1 p2.heads.items m1 m2 page k i put l (let e : p1.count ≡ pages.count = only.count in omega arith)) which
    ∙ off_words pages p1.heads.items m m1 page list k i off_ok u below small n4 n5 in
    record {
      fits = λ live waiting f above. on live waiting (off live waiting f) above;
      kept = λ live waiting f. keeps_then m m1 m2 live (off_keeps pages p1.heads.items m m1 page list off_ok u live waiting f) (links_keep p1 p2.heads.items m1 m2 page 1 3 live waiting put.is_page l (off live waiting f));
      classes = λ k below. subst (λ (e : ℕ). word_in m2 e ≡ word_in m e) (omega arith) (word k 0 below (omega arith) (omega arith) (omega arith) (inl refl));
      others = λ k below away. word k 6 below (omega arith) (omega arith) (omega arith) (inr (refl, away));
      sizes = record { page = sizes.page ∙ only.page; pages_per_arena = sizes.pages_per_arena ∙ only.pages_per_arena; small = sizes.small ∙ only.small };
      count = count ∙ only.count;
      order = order ∙ only.order;
      arenas = arenas_then m m1 m2 s s2;
    }

pub wait_off : (pages : Pages) (m : Memory) (page class kind : ℕ) → CanWait pages m page → class ≡ word_in m page → kind ≡ word_in m (page + 6) → CanTakeOff pages m page (2 * class + (kind - 1))
wait_off pages m page class kind c is_class is_kind =
    subst (λ (x : ℕ). CanTakeOff pages m page (2 * x + (kind - 1))) (sym is_class) (subst (λ (x : ℕ). CanTakeOff pages m page (2 * word_in m page + (x - 1))) (sym is_kind) (wait_facts pages m page c).off)
