-- Giving a block back: the page leaves its list, gets the free block, and goes on another.
use Rattle.std.proofs.Common.{◌≡◌, ◌≢◌, ℕ, ◌+◌, ◌-◌, ◌*◌, ◌/◌, ◌^◌, ◌<◌, ◌≤◌, inl, List, ◌∷◌, length, vec_capacity, arith, refl, sym, ◌∙◌, ap, subst}
use Rattle.std.proofs.lemmas.Bool.Decides.{nat_tests}
use Rattle.heap_space.specs.Memory.{Memory}
use Rattle.heap_space.specs.Extents.{Extent}
use Rattle.heap_space.proofs.ExtentLaws.{Each-right}
use Rattle.size_pages.specs.PageWords.{word_in, CanStore, IsInArenas}
use Rattle.size_pages.specs.PageBlocks.{IsBlockOf, GivesBack, Clears}
use Rattle.size_pages.specs.LiveBlocks.{page_at, blocks_of}
use Rattle.size_pages.specs.PageLists.{IsPage, list_number, IsRight, IsListedRightly, ListsFit, SameSigns}
use Rattle.size_pages.specs.HasBlocks.{HasBlocksBut, HasBlocks, IsLive}
use Rattle.size_pages.specs.Steps.{CanPut, CanTakeOff, CanPutOn, CanEnd, CanGiveFull, IsOnlyHeads, BlockIn}
use Rattle.size_pages.specs.Growth.{IsLowered, IsOnlyOrder}
use Rattle.size_pages.specs.declared.Pages.{Pages}
use Rattle.size_pages.proofs.GiveLaws.{block_in, used_page, can_put, given_fits, right_given, last_goes}

-- the heads of a counted page's lists are there
pub heads_long : {pages : Pages} {m : Memory} {live : List Extent} {waiting : List ℕ} {except : ℕ} → HasBlocksBut pages m live waiting except → (page list : ℕ) → IsPage pages.page pages.count page → list ≤ 2 * pages.small + 1 → list < length pages.heads.items
heads_long {pages} {m} {live} {waiting} {except} f page list is small =
    let below : is.number < pages.count = is.below in
    let long : 2 * pages.small + 2 ≤ length pages.heads.items = f.heads (omega arith) in omega arith

-- the search for unused pages may begin at any place below which none is
pub searched_fits : (pages : Pages) (low : ℕ) (m : Memory) (live : List Extent) (waiting : List ℕ) (except : ℕ) → low ≤ pages.count → ((k : ℕ) → k < low → word_in m (page_at pages.page k) ≢ 0) → HasBlocksBut pages m live waiting except → HasBlocksBut (record pages { lowest = low }) m live waiting except
searched_fits pages low m live waiting except within used h = record {
  setup = h.setup;
  arenas = h.arenas;
  blocks = h.blocks;
  classes = record { small = h.classes.small; within = within; used = used; last = h.classes.last };
  lists = h.lists;
  heads = h.heads;
  waits = h.waits;
  rising = h.rising;
  room = h.room;
}

pub only_order : (old new : Pages) → IsOnlyOrder old new → new ≡ record old { heads = new.heads; order = new.order }
only_order old new h = λ i. record { page = h.sizes.page i; pages_per_arena = h.sizes.pages_per_arena i; small = h.sizes.small i; count = h.count i; lowest = h.lowest i; waiting = h.waiting i; heads = new.heads; order = new.order }

pub order_fits : (pages after : Pages) (m : Memory) (live : List Extent) (waiting : List ℕ) (except : ℕ) → IsOnlyOrder pages after → HasBlocksBut pages m live waiting except → HasBlocksBut after m live waiting except
order_fits pages after m live waiting except l h =
    let room : vec_capacity pages.order ≤ vec_capacity after.order = l.room in
    let enough : pages.count ≤ vec_capacity pages.order = h.room in
    subst (λ (q : Pages). HasBlocksBut q m live waiting except) (sym (only_order pages after l)) (record {
      setup = h.setup;
      arenas = h.arenas;
      blocks = h.blocks;
      classes = h.classes;
      lists = subst (λ (v : List ℕ). ListsFit (word_in m) pages.page pages.count v waiting except) (sym l.heads) h.lists;
      heads = λ some. subst (λ (v : List ℕ). 2 * pages.small + 2 ≤ length v) (sym l.heads) (h.heads some);
      waits = h.waits;
      rising = h.rising;
      room = omega arith;
    })

pub block_after : (pages after : Pages) (page a n : ℕ) → after.page ≡ pages.page → after.count ≡ pages.count → BlockIn pages.page pages.count page a n → BlockIn after.page after.count page a n
block_after pages after page a n size count b = subst (λ (s : ℕ). BlockIn s after.count page a n) (sym size) (subst (λ (k : ℕ). BlockIn pages.page k page a n) (sym count) b)

pub same_block : (pages p2 : Pages) (page a n : ℕ) → IsOnlyHeads pages p2 → BlockIn pages.page pages.count page a n → BlockIn p2.page p2.count page a n
same_block pages p2 page a n o b = block_after pages p2 page a n o.page o.count b

-- a step from listed pages to pages without one
abbrev pub IsOff : Pages → Memory → Pages → Memory → ℕ → Type 0
IsOff pages m p2 m2 page = (live : List Extent) (waiting : List ℕ) → HasBlocks pages m live waiting → HasBlocksBut p2 m2 live waiting page

pub end_fits : (pages p2 p3 : Pages) (m m2 m3 : Memory) (page a n list : ℕ) → CanEnd pages m page a n list → IsOff pages m p2 m2 page → SameSigns (word_in m) (word_in m2) page → IsOnlyHeads pages p2 → IsLowered p2 p3 page → Clears (word_in m2) (word_in m3) page → IsInArenas m2 m3 → (live : List Extent) (waiting : List ℕ) → HasBlocks pages m ((a, n) ∷ live) waiting → HasBlocks p3 m3 live waiting
end_fits pages p2 p3 m m2 m3 page a n list c off signs only low clears s live waiting f =
    last_goes p2 p3 m2 m3 live waiting page a n (off ((a, n) ∷ live) waiting f) (same_block pages p2 page a n only c.block) (signs.count ∙ c.one) low clears s

pub full_put : (pages p2 : Pages) (m m2 : Memory) (page a n : ℕ) → CanGiveFull pages m page a n → IsOff pages m p2 m2 page → IsOnlyHeads pages p2 → CanPut m2 page a
full_put pages p2 m m2 page a n c off only = can_put p2 m2 c.live.others c.live.waiting page page a n (off ((a, n) ∷ c.live.others) c.live.waiting c.live.fits) (same_block pages p2 page a n only c.block)

pub full_fits : (pages p2 : Pages) (m m2 m3 : Memory) (page a n : ℕ) → CanGiveFull pages m page a n → IsOff pages m p2 m2 page → IsOnlyHeads pages p2 → GivesBack (word_in m2) (word_in m3) page a → IsInArenas m2 m3 → (live : List Extent) (waiting : List ℕ) → HasBlocks pages m ((a, n) ∷ live) waiting → HasBlocksBut p2 m3 live waiting page
full_fits pages p2 m m2 m3 page a n c off only g s live waiting f =
    given_fits p2 m2 m3 live waiting page page a n (off ((a, n) ∷ live) waiting f) (same_block pages p2 page a n only c.block) g s (λ ne. absurd (ne refl))

pub full_put_on : (pages p2 : Pages) (m m2 m3 : Memory) (page a n : ℕ) → CanGiveFull pages m page a n → IsOff pages m p2 m2 page → SameSigns (word_in m) (word_in m2) page → IsOnlyHeads pages p2 → GivesBack (word_in m2) (word_in m3) page a → IsInArenas m2 m3 → CanPutOn p2 m3 page (2 * n) 1
full_put_on pages p2 m m2 m3 page a n c off signs only g s =
    let b = same_block pages p2 page a n only c.block in
    let f2 = off ((a, n) ∷ c.live.others) c.live.waiting c.live.fits in
    let u = used_page (word_in m2) p2.page p2.count a n page c.live.others f2.blocks b in
    let low : page + 8 ≤ a = b.low in
    let two : 2 ≤ n = b.wide in
    let class : word_in m3 page ≡ word_in m2 page = g.rest page (omega arith) (omega arith) (omega arith) (omega arith) in
    let is_n : word_in m2 page ≡ n = sym (Each-right (IsBlockOf (word_in m2 page) (page + 8) (word_in m2 (page + 3))) u.free ((a, n) ∷ blocks_of p2.page page c.live.others) u.holds.blocks).0.0 in
    let head : word_in m3 (page + 1) ≡ a = g.head in
    let count : word_in m3 (page + 2) + 1 ≡ word_in m2 (page + 2) = g.count in
    let same : word_in m2 (page + 2) ≡ word_in m (page + 2) = signs.count in
    let more : 2 ≤ word_in m (page + 2) = c.more in
    record {
      stands = record { live = c.live.others; waiting = c.live.waiting; fits = full_fits pages p2 m m2 m3 page a n c off only g s c.live.others c.live.waiting c.live.fits };
      is_page = b.page;
      is_list = (let e : word_in m3 page ≡ n = class ∙ is_n in ap (λ (k : ℕ). 2 * k) (sym e) ∙ omega arith);
      low = omega arith;
      in_heads = let long : word_in m2 (page_at p2.page b.page.number) ≤ p2.small = f2.classes.small b.page.number b.page.below in let at : page ≡ page_at p2.page b.page.number = b.page.is in let c3 : word_in m2 (page_at p2.page b.page.number) ≡ n = ap (word_in m2) (sym at) ∙ is_n in heads_long f2 page (2 * n) b.page (omega arith);
      right = record { known = omega arith; unused = λ e. absurd (omega arith); used = λ e. omega arith; room = λ e. inl (omega arith); full = λ e. absurd (omega arith); busy = λ e. omega arith };
    }

kind_some : (kind : ℕ) → kind ≢ 0 → 1 ≤ kind
kind_some kind n = omega arith

-- what is known of the page of a live block
pub record GiveFacts (pages : Pages) (m : Memory) (page a n : ℕ) : Type 0 where
  pub block : BlockIn pages.page pages.count page a n
  pub class : word_in m page ≡ n
  pub right : IsListedRightly (word_in m) pages.page page
  pub kind_low : 1 ≤ word_in m (page + 6)
  pub small : n < 2 ^ 20
  pub live : 0 < word_in m (page + 2)
  pub put : CanPut m page a
  pub header : (i : ℕ) → i < 8 → CanStore m (page + i)

pub give_facts : (pages : Pages) (m : Memory) (page a n : ℕ) → IsLive pages m (a, n) → page ≡ page_at pages.page ((a - 4294967296) / pages.page) → GiveFacts pages m page a n
give_facts pages m page a n l is =
    let f = l.fits in
    let b : BlockIn pages.page pages.count page a n = block_in (word_in m) pages.page pages.count a n page l.others f.blocks is in
    let put : CanPut m page a = can_put pages m l.others l.waiting 0 page a n f b in
    let u = used_page (word_in m) pages.page pages.count a n page l.others f.blocks b in
    let first = (Each-right (IsBlockOf (word_in m page) (page + 8) (word_in m (page + 3))) u.free ((a, n) ∷ blocks_of pages.page page l.others) u.holds.blocks).0 in
    let class : word_in m page ≡ n = sym first.0 in
    let two : 2 ≤ n = b.wide in
    let low : page + 8 ≤ a = b.low in
    let high : a + n ≤ page + pages.page = b.high in
    let big : pages.page ≤ 8192 = f.setup.size_high in
    let at : page ≡ page_at pages.page b.page.number = b.page.is in
    let right : IsListedRightly (word_in m) pages.page page = subst (λ (q : ℕ). IsListedRightly (word_in m) pages.page q) (sym at) (f.lists.rightly b.page.number b.page.below (omega arith)) in
    record {
      block = b;
      class = class;
      right = right;
      kind_low = kind_some (word_in m (page + 6)) (λ e. let z : word_in m page ≡ 0 = right.unused e in omega arith);
      small = omega arith;
      live = put.count;
      put = put;
      header = λ i small. put.header (page + i) (omega arith) (omega arith);
    }

pub number_of_list : (kind class n : ℕ) → class ≡ n → 1 ≤ kind → kind ≢ 3 → 2 * n + (kind - 1) ≡ list_number kind class
number_of_list kind class n e low no3 = grind (arith, nat_tests)

pub can_take_off : (pages : Pages) (m : Memory) (page a n : ℕ) → IsLive pages m (a, n) → GiveFacts pages m page a n → word_in m (page + 6) ≢ 3 → CanTakeOff pages m page (2 * n + (word_in m (page + 6) - 1))
can_take_off pages m page a n l g no3 =
    let two : 2 ≤ n = g.block.wide in
    record {
      stands = record { live = (a, n) ∷ l.others; waiting = l.waiting; fits = l.fits };
      is_page = g.block.page;
      is_list = number_of_list (word_in m (page + 6)) (word_in m page) n g.class g.kind_low no3;
      low = omega arith;
    }

pub can_end : (pages : Pages) (m : Memory) (page a n kind live : ℕ) → IsLive pages m (a, n) → page ≡ page_at pages.page ((a - 4294967296) / pages.page) → kind ≡ word_in m (page + 6) → live ≡ word_in m (page + 2) → kind ≢ 3 → live ≡ 1 → CanEnd pages m page a n (2 * n + (kind - 1))
can_end pages m page a n kind live l is is_kind is_live no3 one =
    let g = give_facts pages m page a n l is in
    let off : CanTakeOff pages m page (2 * n + (kind - 1)) = subst (λ (k : ℕ). CanTakeOff pages m page (2 * n + (k - 1))) (sym is_kind) (can_take_off pages m page a n l g (λ e. no3 (is_kind ∙ e))) in
    record { live = l; off = off; block = g.block; one = sym is_live ∙ one }

pub can_give_full : (pages : Pages) (m : Memory) (page a n kind live : ℕ) → IsLive pages m (a, n) → page ≡ page_at pages.page ((a - 4294967296) / pages.page) → kind ≡ word_in m (page + 6) → live ≡ word_in m (page + 2) → kind ≡ 2 → live ≢ 1 → CanGiveFull pages m page a n
can_give_full pages m page a n kind live l is is_kind is_live two more =
    let g = give_facts pages m page a n l is in
    let k2 : word_in m (page + 6) ≡ 2 = sym is_kind ∙ two in
    let some : 0 < word_in m (page + 2) = g.live in
    let off : CanTakeOff pages m page (2 * n + 1) = subst (λ (k : ℕ). CanTakeOff pages m page (2 * n + k)) (omega arith) (can_take_off pages m page a n l g (omega arith)) in
    record { live = l; off = off; block = g.block; more = omega arith }

pub give_plain : (pages : Pages) (m new : Memory) (page a n kind live : ℕ) → page ≡ page_at pages.page ((a - 4294967296) / pages.page) → kind ≡ word_in m (page + 6) → live ≡ word_in m (page + 2) → kind ≢ 2 → (kind ≡ 1 → live ≢ 1) → GivesBack (word_in m) (word_in new) page a → IsInArenas m new → (others : List Extent) (waiting : List ℕ) → HasBlocks pages m ((a, n) ∷ others) waiting → HasBlocks pages new others waiting
give_plain pages m new page a n kind live is is_kind is_live no2 more g s others waiting f =
    let l : IsLive pages m (a, n) = record { others = others; waiting = waiting; fits = f } in
    let h = give_facts pages m page a n l is in
    let low : page + 8 ≤ a = h.block.low in
    let some : 0 < word_in m (page + 2) = h.live in
    let kind_same : word_in new (page + 6) ≡ word_in m (page + 6) = g.rest (page + 6) (omega arith) (omega arith) (omega arith) (omega arith) in
    let right : IsRight (word_in m (page + 6)) (word_in new) pages.page page = right_given (word_in m) (word_in new) pages.page page a (word_in m (page + 6)) low g h.right (λ e. no2 (is_kind ∙ e)) (λ e. let ne : live ≢ 1 = more (is_kind ∙ e) in omega arith) in
    given_fits pages m new others waiting 0 page a n f h.block g s (λ ne. subst (λ (k : ℕ). IsRight k (word_in new) pages.page page) (sym kind_same) right)
