-- The code's steps keep what the live blocks and the lists are.
use Rattle.std.proofs.Common.{◌≡◌, ◌≢◌, ℕ, ◌+◌, ◌-◌, ◌*◌, ◌/◌, ◌%◌, ◌<◌, ◌≤◌, ◌⊎◌, inl, inr, true, List, [], ◌∷◌, ◌++◌, length, slice_index, arith, refl, sym, ◌∙◌, ap, subst}
use Rattle.std.proofs.lemmas.Bool.{cases_lt}
use Rattle.std.proofs.lemmas.Bool.Decides.{eqb_tells}
use Rattle.std.proofs.lemmas.List.{get_or_past}
use Rattle.heap_space.specs.Places.{has}
use Rattle.heap_space.specs.Memory.{Memory}
use Rattle.std.specs.List.{filter}
use Rattle.heap_space.specs.Extents.{Extent, extents_between, begins_between, lies_within}
use Rattle.heap_space.proofs.Blocks.{lies-each}
use Rattle.heap_space.proofs.ExtentLaws.{lies_in_one-between}
use Rattle.size_pages.specs.PageWords.{Words, word_in, CanStore, HasAll, IsInArenas}
use Rattle.size_pages.specs.LiveBlocks.{page_at, BlocksFit, ClassesFit}
use Rattle.size_pages.specs.PageLists.{EachPlace, IsIn, first_of_list, Linked, IsPage, list_number, list_of, IsRight, IsListedRightly, ListsFit, Unlinks, Links, SameSigns}
use Rattle.size_pages.specs.HasBlocks.{Stands, HasSetup, HasArenas, HasBlocksBut, HasBlocks, IsPlaced, IsRising}
use Rattle.size_pages.specs.Steps.{CanUnlink, CanLink, CanTakeOff, CanPutOn, IsOnlyHeads}
use Rattle.size_pages.specs.SweepSteps.{IsOnlyLists}
use Rattle.size_pages.specs.declared.Pages.{Pages}
use Rattle.size_pages.proofs.FitLaws.{pages_apart, pages_part, fits_links, StaysButLinks}
use Rattle.size_pages.proofs.ListLaws.{places_map, Cut, cut_at, linked_behind, linked_front}
use Rattle.size_pages.proofs.ListMoves.{page_words, not_zero, first_page, last_page, rest_first, used_list, signs_from, lists_unlink, lists_link, right_words}

pub index_in : (xs : List ℕ) (i : ℕ) → slice_index xs i ≢ 0 → i < length xs
index_in xs i h = grind (arith, get_or_past)

pub page_mono : (size a b : ℕ) → a ≤ b → page_at size a ≤ page_at size b
page_mono size a b h = grind arith

-- the page of a place
pub record PlaceOf (size count b : ℕ) : Type 0 where
  pub number : ℕ
  pub below : number < count
  pub offset : ℕ
  pub small : offset < size
  pub is : page_at size number + offset ≡ b

pub place_of : (size count b : ℕ) → 0 < size → 4294967296 ≤ b → b < page_at size count → PlaceOf size count b
place_of size count b some from upto =
    let d = b - 4294967296 in
    let k = d / size in
    let j = d % size in
    let e : size * k ≡ k * size = grind arith in
    let is : page_at size k + j ≡ b = omega arith in
    record {
      number = k;
      below = elim (cases_lt k count) [ inl a ↦ a | inr c ↦ absurd (let m : page_at size count ≤ page_at size k = page_mono size count k c in omega arith) ];
      offset = j;
      small = omega arith;
      is = is;
    }

pub below_of : {pages : Pages} {m : Memory} {live : List Extent} {waiting : List ℕ} {except : ℕ} → HasBlocksBut pages m live waiting except → page_at pages.page pages.count ≤ 1099511627776
below_of f = f.arenas.below

-- each word of a page may be read and written
pub places_of : {pages : Pages} {m : Memory} {live : List Extent} {waiting : List ℕ} {except : ℕ} → HasBlocksBut pages m live waiting except → HasAll m 4294967296 (page_at pages.page pages.count)
places_of {pages} {m} {live} {waiting} {except} f b from upto =
    let wide : 64 ≤ pages.page = f.blocks.size_low in
    let below : page_at pages.page pages.count ≤ 1099511627776 = below_of f in
    let at = place_of pages.page pages.count b (omega arith) from upto in
    let number : at.number < pages.count = at.below in
    let P : ℕ → Type 0 = λ a. has m.blocks a ≡ true in
    record {
      place = subst P at.is (lies-each m.blocks (page_at pages.page at.number) pages.page at.offset (lies_in_one-between m 4294967296 m.next_arena (page_at pages.page at.number) pages.page (f.arenas.placed at.number (omega arith))) at.small);
      low = from;
      high = omega arith;
    }

pub classes_same : (old new : Words) (size count most lowest : ℕ) → ClassesFit old size count most lowest → ((k : ℕ) → k < count → new (page_at size k) ≡ old (page_at size k)) → ((k : ℕ) → k < count → new (page_at size k + 7) ≡ old (page_at size k + 7)) → ClassesFit new size count most lowest
classes_same old new size count most lowest h same last =
    let within : lowest ≤ count = h.within in
    record {
      small = λ k below. subst (λ (c : ℕ). c ≤ most) (sym (same k below)) (h.small k below);
      within = within;
      used = λ k below e. h.used k below (sym (same k (omega arith)) ∙ e);
      last = λ k below. last k below ∙ h.last k below;
    }

pub placed_same : (old new : Memory) (size k : ℕ) → IsInArenas old new → IsPlaced old size k → IsPlaced new size k
placed_same old new size k s h =
    let P : ℕ → Type 0 = λ high. lies_within (extents_between 4294967296 high new) (page_at size k) size ≡ true in
    subst P (sym s.next_arena) (ap (λ (xs : List Extent). lies_within (filter (begins_between 4294967296 old.next_arena) xs) (page_at size k) size) s.extents ∙ h)

pub arenas_stay : (old new : Memory) (size count : ℕ) → IsInArenas old new → HasArenas old size count → HasArenas new size count
arenas_stay old new size count s h = record { end = s.next_arena ∙ h.end; below = h.below; placed = λ k below. placed_same old new size k s (h.placed k below) }

only_lists : (old new : Pages) → IsOnlyLists old new → new ≡ record old { heads = new.heads; waiting = new.waiting }
only_lists old new h = λ i. record { page = h.page i; pages_per_arena = h.pages_per_arena i; small = h.small i; count = h.count i; lowest = h.lowest i; waiting = new.waiting; heads = new.heads; order = h.order i }

-- pages whose words and lists were changed
pub fits_any : (pages after : Pages) (old new : Memory) (live fresh : List Extent) (waiting waiting2 : List ℕ) (except except2 : ℕ) → HasBlocksBut pages old live waiting except → IsOnlyLists pages after → IsInArenas old new → BlocksFit (word_in new) pages.page pages.count fresh → ClassesFit (word_in new) pages.page pages.count pages.small pages.lowest → ListsFit (word_in new) pages.page pages.count after.heads.items waiting2 except2 → after.waiting ≡ length waiting2 → IsRising waiting2 → HasBlocksBut after new fresh waiting2 except2
fits_any pages after old new live fresh waiting waiting2 except except2 h only s blocks classes lists waits rising =
    subst (λ (q : Pages). HasBlocksBut q new fresh waiting2 except2) (sym (only_lists pages after only)) (record {
      setup = subst (HasSetup pages.page pages.pages_per_arena pages.small) (sym s.arena_words) h.setup;
      arenas = arenas_stay old new pages.page pages.count s h.arenas;
      blocks = blocks;
      classes = classes;
      lists = lists;
      heads = λ some. subst (λ (k : ℕ). 2 * pages.small + 2 ≤ k) (sym only.room) (h.heads some);
      waits = waits;
      rising = rising;
      room = h.room;
    })

pub fits_new : (pages after : Pages) (old new : Memory) (live fresh : List Extent) (waiting : List ℕ) (except except2 : ℕ) → HasBlocksBut pages old live waiting except → IsOnlyHeads pages after → IsInArenas old new → BlocksFit (word_in new) pages.page pages.count fresh → ClassesFit (word_in new) pages.page pages.count pages.small pages.lowest → ListsFit (word_in new) pages.page pages.count after.heads.items waiting except2 → HasBlocksBut after new fresh waiting except2
fits_new pages after old new live fresh waiting except except2 h only s blocks classes lists =
    fits_any pages after old new live fresh waiting waiting except except2 h
    (record { page = only.page; pages_per_arena = only.pages_per_arena; small = only.small; count = only.count; lowest = only.lowest; room = only.room; order = only.order }) s blocks classes lists (only.waiting ∙ h.waits) h.rising

-- where a page lies
pub record PageFacts (size count p : ℕ) : Type 0 where
  pub low : 4294967296 ≤ p
  pub high : p + size ≤ page_at size count
  pub short : p + size ≤ 1099511627776

pub page_facts : (size count p : ℕ) → IsPage size count p → page_at size count ≤ 1099511627776 → PageFacts size count p
page_facts size count p is below =
    let at : p ≡ page_at size is.number = is.is in
    let part : page_at size is.number + size ≤ page_at size count = pages_part size is.number count is.below in
    record { low = omega arith; high = omega arith; short = omega arith }

pub page_has : (m : Memory) (size count p i : ℕ) → 64 ≤ size → HasAll m 4294967296 (page_at size count) → page_at size count ≤ 1099511627776 → IsPage size count p → i < 64 → CanStore m (p + i)
page_has m size count p i wide has_ below is small =
    let f = page_facts size count p is below in has_ (p + i) (omega arith) (omega arith)

-- the first page of a list
pub head_page_of : {pages : Pages} {m : Memory} {live : List Extent} {waiting : List ℕ} {except : ℕ} → HasBlocksBut pages m live waiting except → (list : ℕ) → (slice_index pages.heads.items list ≡ 0) ⊎ IsPage pages.page pages.count (slice_index pages.heads.items list)
head_page_of {pages} f list = subst (λ (y : ℕ). (y ≡ 0) ⊎ IsPage pages.page pages.count y) (sym (f.lists.heads_are list)) (first_page pages.page pages.count (f.lists.lists list) (f.lists.pages list))

cut_of : (w : Words) (size count p s : ℕ) (heads waiting : List ℕ) (except : ℕ) (h : ListsFit w size count heads waiting except) → IsPage size count p → p ≢ except → s ≡ list_of w p → s ≢ 0 → Cut p (h.lists s)
cut_of w size count p s heads waiting except h is n is_s some =
    let at : p ≡ page_at size is.number = is.is in
    let used : w (page_at size is.number) ≢ 0 = used_list w size (page_at size is.number) s (h.rightly is.number is.below (λ e. n (at ∙ e))) (is_s ∙ ap (list_of w) at) some in
    let there : IsIn (page_at size is.number) (h.lists (list_of w (page_at size is.number))) = h.listed is.number is.below used (λ e. n (at ∙ e)) in
    let here : IsIn p (h.lists (list_of w p)) = subst (λ (q : ℕ). IsIn q (h.lists (list_of w q))) (sym at) there in
    cut_at p (h.lists s) (subst (λ (t : ℕ). IsIn p (h.lists t)) (sym is_s) here)

head_some : (p : ℕ) (bs rest : List ℕ) → EachPlace (λ x. x ≢ 0) (bs ++ p ∷ rest) → first_of_list (bs ++ p ∷ rest) ≢ 0
head_some p [] rest all = all.0
head_some p (b ∷ bs) rest all = all.0

first_not : (p : ℕ) → p ≢ 0 → (xs : List ℕ) → EachPlace (λ q. q ≢ p) xs → first_of_list xs ≢ p
first_not p n [] all e = n (sym e)
first_not p n (x ∷ xs) all e = all.0 e

-- the head of the list of a listed page
pub head_listed : (w : Words) (size count p s : ℕ) (heads waiting : List ℕ) (except : ℕ) → ListsFit w size count heads waiting except → IsPage size count p → p ≢ except → s ≡ list_of w p → s ≢ 0 → slice_index heads s ≢ 0
head_listed w size count p s heads waiting except h is n is_s on e =
    let q : Cut p (h.lists s) = cut_of w size count p s heads waiting except h is n is_s on in
    let some : EachPlace (λ x. x ≢ 0) (h.lists s) = places_map (IsPage size count) (λ x. x ≢ 0) (λ x px. not_zero size count x px) (h.lists s) (h.pages s) in
    head_some p q.front q.behind (subst (EachPlace (λ x. x ≢ 0)) q.is some) (sym (ap first_of_list q.is) ∙ sym (h.heads_are s) ∙ e)

-- the pages beside a listed page
pub record Beside (w : Words) (size count p : ℕ) : Type 0 where
  pub before : (w (p + 5) ≡ 0) ⊎ IsPage size count (w (p + 5))
  pub next : (w (p + 4) ≡ 0) ⊎ IsPage size count (w (p + 4))

pub beside : (w : Words) (size count p s : ℕ) (heads waiting : List ℕ) (except : ℕ) → ListsFit w size count heads waiting except → IsPage size count p → p ≢ except → s ≡ list_of w p → s ≢ 0 → Beside w size count p
beside w size count p s heads waiting except h is n is_s some =
    let q : Cut p (h.lists s) = cut_of w size count p s heads waiting except h is n is_s some in
    let link : Linked w 0 (q.front ++ p ∷ q.behind) = subst (λ (ys : List ℕ). Linked w 0 ys) q.is (h.linked s) in
    let all : EachPlace (IsPage size count) (q.front ++ p ∷ q.behind) = subst (EachPlace (IsPage size count)) q.is (h.pages s) in
    record {
      before = subst (λ (y : ℕ). (y ≡ 0) ⊎ IsPage size count y) (sym (linked_front w 0 p q.front q.behind link)) (last_page size count 0 q.front (p ∷ q.behind) (inl refl) all);
      next = subst (λ (y : ℕ). (y ≡ 0) ⊎ IsPage size count y) (sym (linked_behind w 0 p q.front q.behind link)) (rest_first size count p q.front q.behind all);
    }

pub has_or : (m : Memory) (size count y i : ℕ) → 64 ≤ size → HasAll m 4294967296 (page_at size count) → page_at size count ≤ 1099511627776 → (y ≡ 0) ⊎ IsPage size count y → i < 64 → y ≢ 0 → CanStore m (y + i)
has_or m size count y i wide has_ below h small n = elim h [ inl z ↦ absurd (n z) | inr q ↦ page_has m size count y i wide has_ below q small ]

pub header_has : (m : Memory) (size count p : ℕ) → 64 ≤ size → HasAll m 4294967296 (page_at size count) → page_at size count ≤ 1099511627776 → IsPage size count p → HasAll m p (p + 8)
header_has m size count p wide has_ below is b from upto =
    let f = page_facts size count p is below in
    let low : 4294967296 ≤ p = f.low in
    let high : p + size ≤ page_at size count = f.high in
    has_ b (omega arith) (omega arith)

-- the page is on that list
pub record OnList (pages : Pages) (m : Memory) (page list : ℕ) : Type 0 where
  pub stands : Stands pages m
  pub is_page : IsPage pages.page pages.count page
  pub is_list : list ≡ list_of (word_in m) page
  pub some : list ≢ 0

pub on_list : {pages : Pages} {m : Memory} {page list : ℕ} → CanTakeOff pages m page list → OnList pages m page list
on_list c = record { stands = c.stands; is_page = c.is_page; is_list = c.is_list; some = λ z. omega (arith, z, c.low) }

pub can_unlink_on : (pages : Pages) (m : Memory) (page list : ℕ) → OnList pages m page list → CanUnlink m pages.heads.items page list
can_unlink_on pages m page list c =
    let size = pages.page in
    let count = pages.count in
    let f = c.stands.fits in
    let wide : 64 ≤ size = f.blocks.size_low in
    let below : page_at size count ≤ 1099511627776 = (below_of f) in
    let n : page ≢ 0 = not_zero size count page c.is_page in
    let b = beside (word_in m) size count page list pages.heads.items c.stands.waiting 0 f.lists c.is_page n c.is_list c.some in
    record {
      header = header_has m size count page wide (places_of f) below c.is_page;
      first = λ e. index_in pages.heads.items list (head_listed (word_in m) size count page list pages.heads.items c.stands.waiting 0 f.lists c.is_page n c.is_list c.some);
      before = has_or m size count (word_in m (page + 5)) 4 wide (places_of f) below b.before (omega arith);
      next = has_or m size count (word_in m (page + 4)) 5 wide (places_of f) below b.next (omega arith);
      apart = elim b.before [
        | inl z ↦ elim b.next [ inl y ↦ omega arith | inr q ↦ let g = page_facts size count (word_in m (page + 4)) q below in let low : 4294967296 ≤ word_in m (page + 4) = g.low in omega arith ]
        | inr q ↦ page_words size count (word_in m (page + 5)) (word_in m (page + 4)) 4 5 wide q b.next (omega arith) (omega arith) (omega arith)
      ];
    }

pub can_unlink : (pages : Pages) (m : Memory) (page list : ℕ) → CanTakeOff pages m page list → CanUnlink m pages.heads.items page list
can_unlink pages m page list c = can_unlink_on pages m page list (on_list c)

-- a page that is on no list may be put on one
pub can_link_at : {pages : Pages} {m : Memory} {live : List Extent} {waiting : List ℕ} → (page list : ℕ) → HasBlocksBut pages m live waiting page → IsPage pages.page pages.count page → list < length pages.heads.items → CanLink m pages.heads.items page list
can_link_at {pages} {m} {live} {waiting} page list f is in_heads =
    let size = pages.page in
    let count = pages.count in
    let wide : 64 ≤ size = f.blocks.size_low in
    let below : page_at size count ≤ 1099511627776 = below_of f in
    let next = slice_index pages.heads.items list in
    let next_page = head_page_of f list in
    let n : page ≢ 0 = not_zero size count page is in
    let other : next ≢ page = λ e. first_not page n (f.lists.lists list) (places_map (λ q. (list_of (word_in m) q ≡ list) × (q ≢ page)) (λ q. q ≢ page) (λ q r. r.1) (f.lists.lists list) (f.lists.right list)) (sym (f.lists.heads_are list) ∙ e) in
    record {
      header = header_has m size count page wide (places_of f) below is;
      list_in = in_heads;
      next = has_or m size count next 5 wide (places_of f) below next_page (omega arith);
      apart4 = λ e. page_words size count page next 4 5 wide is next_page (omega arith) (omega arith) (omega arith) (sym e);
      apart5 = other;
      apart6 = λ e. page_words size count page next 6 5 wide is next_page (omega arith) (omega arith) (omega arith) (sym e);
    }

pub can_link : (pages : Pages) (m : Memory) (page list kind : ℕ) → CanPutOn pages m page list kind → CanLink m pages.heads.items page list
can_link pages m page list kind c = can_link_at page list c.stands.fits c.is_page c.in_heads

-- a word of a page that is none of its links is no link of another
-- a page is taken off its list, or put on one: word 7 of each header stays
pub last_unlinked : (old new : Words) (size count : ℕ) (heads after : List ℕ) (p s : ℕ) → 64 ≤ size → (old (p + 5) ≡ 0) ⊎ IsPage size count (old (p + 5)) → (old (p + 4) ≡ 0) ⊎ IsPage size count (old (p + 4)) → Unlinks old new heads after p s
    → (k : ℕ) → k < count → new (page_at size k + 7) ≡ old (page_at size k + 7)
last_unlinked old new size count heads after p s wide before next u k below =
    let is : IsPage size count (page_at size k) = record { number = k; below = below; is = refl } in
    u.rest (page_at size k + 7) (page_words size count (page_at size k) (old (p + 5)) 7 4 wide is before (omega arith) (omega arith) (omega arith))
    (page_words size count (page_at size k) (old (p + 4)) 7 5 wide is next (omega arith) (omega arith) (omega arith))

pub last_linked : (old new : Words) (size count : ℕ) (heads after : List ℕ) (p s kind : ℕ) → 64 ≤ size → IsPage size count p → (slice_index heads s ≡ 0) ⊎ IsPage size count (slice_index heads s) → Links old new heads after p s kind
    → (k : ℕ) → k < count → new (page_at size k + 7) ≡ old (page_at size k + 7)
last_linked old new size count heads after p s kind wide own next u k below =
    let is : IsPage size count (page_at size k) = record { number = k; below = below; is = refl } in
    let word : (i : ℕ) → i < 7 → page_at size k + 7 ≢ p + i = λ i small. page_words size count (page_at size k) p 7 i wide is (inr own) (omega arith) (omega (arith, small)) (omega (arith, small)) in
    u.rest (page_at size k + 7) (word 4 (omega arith)) (word 5 (omega arith)) (word 6 (omega arith))
    (page_words size count (page_at size k) (slice_index heads s) 7 5 wide is next (omega arith) (omega arith) (omega arith))

pub no_link : (size count j y e i : ℕ) → 64 ≤ size → (y ≡ 0) ⊎ IsPage size count y → page_at size j ≤ e → e < page_at size j + size → (e < page_at size j + 4) ⊎ (page_at size j + 8 ≤ e) → 4 ≤ i → i < 8 → e ≢ y + i
no_link size count j y e i wide py from upto part low small same = elim py [
  | inl z ↦ omega arith
  | inr q ↦ let at : y ≡ page_at size q.number = q.is in
      elim (eqb_tells q.number j) [
        | inl a ↦ let eq : page_at size q.number ≡ page_at size j = ap (page_at size) a.1 in elim part [ inl x ↦ omega arith | inr x ↦ omega arith ]
        | inr b ↦ elim (pages_apart size q.number j b.1) [ inl x ↦ omega arith | inr x ↦ omega arith ]
      ]
]

-- a page is taken off its list: of the waiting pages the first
module _ (pages after : Pages) (m new : Memory) (page list : ℕ) (on : OnList pages m page list) (u : Unlinks (word_in m) (word_in new) pages.heads.items after.heads.items page list) (s : IsInArenas m new) (only : IsOnlyLists pages after) where
  pub off_any : (live : List Extent) (waiting waiting2 : List ℕ) → (f : HasBlocks pages m live waiting) → (list ≡ 1 → waiting ≡ page ∷ waiting2) → (list ≢ 1 → waiting2 ≡ waiting) → after.waiting ≡ length waiting2 → IsRising waiting2 → HasBlocksBut after new live waiting2 page
  off_any live waiting waiting2 f first others waits rising =
      let size = pages.page in
      let count = pages.count in
      let w = word_in m in
      let wide : 64 ≤ size = f.blocks.size_low in
      let k = on.is_page.number in
      let at : page ≡ page_at size k = on.is_page.is in
      let b = beside w size count page list pages.heads.items waiting 0 f.lists on.is_page (not_zero size count page on.is_page) on.is_list on.some in
      let links : StaysButLinks w (word_in new) size count = λ j below e from upto part. u.rest e (no_link size count j (w (page + 5)) e 4 wide b.before from upto part (omega arith) (omega arith)) (no_link size count j (w (page + 4)) e 5 wide b.next from upto part (omega arith) (omega arith)) in
      let lists : ListsFit (word_in new) size count after.heads.items waiting2 page =
      subst (λ (p : ℕ). ListsFit (word_in new) size count after.heads.items waiting2 p) (sym at)
      (lists_unlink w (word_in new) size count pages.heads.items after.heads.items waiting waiting2 k list wide on.is_page.below on.some
      (λ e. first e ∙ ap (λ (p : ℕ). p ∷ waiting2) at) others (subst (λ (p : ℕ). list ≡ list_of w p) at on.is_list) f.lists
      (subst (λ (p : ℕ). Unlinks w (word_in new) pages.heads.items after.heads.items p list) at u)) in
      let classes : ClassesFit (word_in new) size count pages.small pages.lowest = classes_same w (word_in new) size count pages.small pages.lowest f.classes (λ j below. links j below (page_at size j) (omega arith) (omega arith) (inl (omega arith))) (last_unlinked w (word_in new) size count pages.heads.items after.heads.items page list wide b.before b.next u) in
      fits_any pages after m new live live waiting waiting2 0 page f only s (fits_links w (word_in new) size count live f.blocks links) classes lists waits rising

pub lists_of_heads : (a b : Pages) → IsOnlyHeads a b → IsOnlyLists a b
lists_of_heads a b h = record { page = h.page; pages_per_arena = h.pages_per_arena; small = h.small; count = h.count; lowest = h.lowest; room = h.room; order = h.order }

pub off_fits : (pages after : Pages) (m new : Memory) (page list : ℕ) → CanTakeOff pages m page list → Unlinks (word_in m) (word_in new) pages.heads.items after.heads.items page list → IsInArenas m new → IsOnlyHeads pages after → (live : List Extent) (waiting : List ℕ) → HasBlocks pages m live waiting → HasBlocksBut after new live waiting page
off_fits pages after m new page list c u s only live waiting f =
    off_any pages after m new page list (on_list c) u s (lists_of_heads pages after only) live waiting waiting f (λ e. absurd (omega (arith, e, c.low))) (λ e. refl) (only.waiting ∙ f.waits) f.rising

pub signs_on : (pages : Pages) (after : List ℕ) (m new : Memory) (page list : ℕ) → OnList pages m page list → Unlinks (word_in m) (word_in new) pages.heads.items after page list → SameSigns (word_in m) (word_in new) page
signs_on pages after m new page list c u =
    let size = pages.page in
    let count = pages.count in
    let w = word_in m in
    let f = c.stands.fits in
    let wide : 64 ≤ size = f.blocks.size_low in
    let b = beside w size count page list pages.heads.items c.stands.waiting 0 f.lists c.is_page (not_zero size count page c.is_page) c.is_list c.some in
    let word : (i : ℕ) → i < 8 → i ≢ 4 → i ≢ 5 → word_in new (page + i) ≡ w (page + i) = λ i small n4 n5. u.rest (page + i) (page_words size count page (w (page + 5)) i 4 wide c.is_page b.before small (omega arith) n4) (page_words size count page (w (page + 4)) i 5 wide c.is_page b.next small (omega arith) n5) in
    signs_from w (word_in new) page word

pub off_signs : (pages : Pages) (after : List ℕ) (m new : Memory) (page list : ℕ) → CanTakeOff pages m page list → Unlinks (word_in m) (word_in new) pages.heads.items after page list → SameSigns (word_in m) (word_in new) page
off_signs pages after m new page list c u = signs_on pages after m new page list (on_list c) u

-- a page is put on a list
module _ (pages after : Pages) (m new : Memory) (page list kind : ℕ) (is : IsPage pages.page pages.count page) (some : list ≢ 0) (is_list : list ≡ list_number kind (word_in m page)) (can : IsRight kind (word_in m) pages.page page)
    (u : Links (word_in m) (word_in new) pages.heads.items after.heads.items page list kind) (s : IsInArenas m new) (only : IsOnlyLists pages after) where
  pub on_any : (live : List Extent) (waiting waiting2 : List ℕ) → (f : HasBlocksBut pages m live waiting page) → (list ≡ 1 → waiting2 ≡ page ∷ waiting) → (list ≢ 1 → waiting2 ≡ waiting) → after.waiting ≡ length waiting2 → IsRising waiting2 → HasBlocks after new live waiting2
  on_any live waiting waiting2 f first others waits rising =
      let size = pages.page in
      let count = pages.count in
      let w = word_in m in
      let wide : 64 ≤ size = f.blocks.size_low in
      let k = is.number in
      let at : page ≡ page_at size k = is.is in
      let next = slice_index pages.heads.items list in
      let next_page = head_page_of f list in
      let links : StaysButLinks w (word_in new) size count = λ j below e from upto part. u.rest e
      (no_link size count j page e 4 wide (inr is) from upto part (omega arith) (omega arith))
      (no_link size count j page e 5 wide (inr is) from upto part (omega arith) (omega arith))
      (no_link size count j page e 6 wide (inr is) from upto part (omega arith) (omega arith))
      (no_link size count j next e 5 wide next_page from upto part (omega arith) (omega arith)) in
      let word : (i : ℕ) → i < 4 → word_in new (page + i) ≡ w (page + i) = λ i small. subst (λ (p : ℕ). word_in new (p + i) ≡ w (p + i)) (sym at) (links k is.below (page_at size k + i) (omega arith) (omega arith) (inl (omega arith))) in
      let class : word_in new page ≡ w page = subst (λ (e : ℕ). word_in new e ≡ w e) (omega arith) (word 0 (omega arith)) in
      let right : IsRight kind (word_in new) size page = right_words kind w (word_in new) size page class (word 1 (omega arith)) (word 2 (omega arith)) (word 3 (omega arith)) can in
      let listed : IsListedRightly (word_in new) size page = subst (λ (t : ℕ). IsRight t (word_in new) size page) (sym u.kind_is) right in
      let named : list ≡ list_of (word_in new) page = is_list ∙ sym (ap (λ (t : ℕ). list_number t (word_in new page)) u.kind_is ∙ ap (list_number kind) class) in
      let lists : ListsFit (word_in new) size count after.heads.items waiting2 0 =
      lists_link w (word_in new) size count pages.heads.items after.heads.items waiting waiting2 k list kind wide is.below some (λ e. first e ∙ ap (λ (p : ℕ). p ∷ waiting) at) others
      (subst (λ (p : ℕ). list ≡ list_of (word_in new) p) at named)
      (subst (λ (p : ℕ). ListsFit w size count pages.heads.items waiting p) at f.lists)
      (subst (λ (p : ℕ). Links w (word_in new) pages.heads.items after.heads.items p list kind) at u)
      (subst (λ (p : ℕ). IsListedRightly (word_in new) size p) at listed) in
      let classes : ClassesFit (word_in new) size count pages.small pages.lowest = classes_same w (word_in new) size count pages.small pages.lowest f.classes (λ j below. links j below (page_at size j) (omega arith) (omega arith) (inl (omega arith))) (last_linked w (word_in new) size count pages.heads.items after.heads.items page list kind wide is next_page u) in
      fits_any pages after m new live live waiting waiting2 page 0 f only s (fits_links w (word_in new) size count live f.blocks links) classes lists waits rising

pub on_fits : (pages after : Pages) (m new : Memory) (page list kind : ℕ) → CanPutOn pages m page list kind → Links (word_in m) (word_in new) pages.heads.items after.heads.items page list kind → IsInArenas m new → IsOnlyHeads pages after → (live : List Extent) (waiting : List ℕ) → HasBlocksBut pages m live waiting page → HasBlocks after new live waiting
on_fits pages after m new page list kind c u s only live waiting f =
    on_any pages after m new page list kind c.is_page (λ z. omega (arith, z, c.low)) c.is_list c.right u s (lists_of_heads pages after only) live waiting waiting f (λ e. absurd (omega (arith, e, c.low))) (λ e. refl) (only.waiting ∙ f.waits) f.rising
