-- Giving a block back, over all pages.
use Rattle.std.proofs.Common.{◌≡◌, ◌≢◌, ℕ, ◌+◌, ◌-◌, ◌*◌, ◌/◌, ◌<◌, ◌≤◌, ◌⊎◌, inl, inr, List, [], ◌∷◌, length, arith, refl, sym, ◌∙◌, ap, subst}
use Rattle.std.proofs.lemmas.Bool.Decides.{eqb_tells}
use Rattle.std.proofs.lemmas.Nat.{div-mul-add}
use Rattle.heap_space.specs.Memory.{Memory}
use Rattle.heap_space.specs.Extents.{Extent}
use Rattle.size_pages.specs.PageWords.{Words, word_in, IsInArenas}
use Rattle.size_pages.specs.PageBlocks.{PageHolds, GivesBack, Clears}
use Rattle.size_pages.specs.LiveBlocks.{page_at, blocks_of, BlocksFit, ClassesFit, PageIs}
use Rattle.size_pages.specs.PageLists.{IsPage, IsRight, IsListedRightly, ListsFit, SameSigns}
use Rattle.size_pages.specs.HasBlocks.{HasSetup, HasBlocks, HasBlocksBut}
use Rattle.size_pages.specs.Growth.{IsLowered}
use Rattle.size_pages.specs.Steps.{CanPut, IsOnlyHeads, BlockIn}
use Rattle.size_pages.specs.declared.Pages.{Pages}
use Rattle.size_pages.proofs.PageLaws.{holds_given}
use Rattle.size_pages.proofs.FitLaws.{pages_apart, pages_part, fits_one, fits_less, page_of_block, page_used, stays_elsewhere}
use Rattle.size_pages.proofs.ListMoves.{SameLinks, signs_from, lists_frame, lists_unused, rightly_same}
use Rattle.size_pages.proofs.FitsLaws.{arenas_stay, fits_new, page_facts, header_has, below_of, places_of}

-- nothing of the pages' numbers changes
pub only_same : (pages : Pages) → IsOnlyHeads pages pages
only_same pages = record { page = refl; pages_per_arena = refl; small = refl; count = refl; lowest = refl; waiting = refl; room = refl; order = refl }

-- one page changes
pub classes_one : (old new : Words) (size count most was lowest k : ℕ) → ClassesFit old size count most was → lowest ≤ was → ((e : ℕ) → (e < page_at size k) ⊎ (page_at size k + size ≤ e) → new e ≡ old e) → 64 ≤ size → new (page_at size k) ≤ most → (k < lowest → new (page_at size k) ≢ 0) → new (page_at size k + 7) ≡ old (page_at size k + 7) → ClassesFit new size count most lowest
classes_one old new size count most was lowest k h less same wide small used last =
    let within : was ≤ count = h.within in
    let other : (j : ℕ) → j ≢ k → new (page_at size j) ≡ old (page_at size j) = λ j n. same (page_at size j) (elim (pages_apart size j k n) [ inl a ↦ inl (omega arith) | inr b ↦ inr b ]) in
    record {
      small = λ j below. elim (eqb_tells j k) [
        | inl a ↦ subst (λ (i : ℕ). new (page_at size i) ≤ most) (sym a.1) small
        | inr b ↦ subst (λ (c : ℕ). c ≤ most) (sym (other j b.1)) (h.small j below)
      ];
      within = omega arith;
      used = λ j below. elim (eqb_tells j k) [
        | inl a ↦ subst (λ (i : ℕ). i < lowest → new (page_at size i) ≢ 0) (sym a.1) used below
        | inr b ↦ λ e. h.used j (omega arith) (sym (other j b.1) ∙ e)
      ];
      last = λ j below. elim (eqb_tells j k) [
        | inl a ↦ subst (λ (i : ℕ). new (page_at size i + 7) ≡ 0) (sym a.1) (last ∙ h.last k (let e : j ≡ k = a.1 in omega (arith, below, e)))
        | inr b ↦ same (page_at size j + 7) (elim (pages_apart size j k b.1) [ inl c ↦ inl (omega arith) | inr d ↦ inr (omega arith) ]) ∙ h.last j below
      ];
    }

-- all words but the page's own are the same
abbrev pub IsOnlyPage : Words → Words → ℕ → ℕ → Type 0
IsOnlyPage old new p size = (e : ℕ) → (e < p) ⊎ (p + size ≤ e) → new e ≡ old e

other_word : (size count x p i : ℕ) → 64 ≤ size → IsPage size count x → IsPage size count p → x ≢ p → i < 8 → (x + i < p) ⊎ (p + size ≤ x + i)
other_word size count x p i wide px pp n small =
    let at : x ≡ page_at size px.number = px.is in
    let to : p ≡ page_at size pp.number = pp.is in
    elim (eqb_tells px.number pp.number) [
      | inl a ↦ absurd (n (px.is ∙ ap (page_at size) a.1 ∙ sym pp.is))
      | inr b ↦ elim (pages_apart size px.number pp.number b.1) [ inl c ↦ inl (omega arith) | inr d ↦ inr (omega arith) ]
    ]

-- one page changes, and its links do not
pub lists_inner : (old new : Words) (size count : ℕ) (heads waiting : List ℕ) (except p : ℕ) → 64 ≤ size → ListsFit old size count heads waiting except → IsPage size count p → IsOnlyPage old new p size → (p ≢ except → SameLinks old new p × IsListedRightly new size p) → ListsFit new size count heads waiting except
lists_inner old new size count heads waiting except p wide h pp same here =
    let word : (x i : ℕ) → IsPage size count x → x ≢ p → i < 8 → new (x + i) ≡ old (x + i) = λ x i px n small. same (x + i) (other_word size count x p i wide px pp n small) in
    let signs : (x : ℕ) → IsPage size count x → x ≢ p → SameSigns old new x = λ x px n. signs_from old new x (λ i small n4 n5. word x i px n small) in
    lists_frame old new size count heads waiting except h
    (λ x px n. elim (eqb_tells x p) [
      | inl a ↦ subst (λ (y : ℕ). SameLinks old new y) (sym a.1) (here (λ e. n (a.1 ∙ e))).0
      | inr b ↦ record { class = (signs x px b.1).class; next = word x 4 px b.1 (omega arith); before = word x 5 px b.1 (omega arith); kind = (signs x px b.1).kind }
    ])
    (λ k below n. elim (eqb_tells (page_at size k) p) [
      | inl a ↦ subst (λ (y : ℕ). IsListedRightly new size y) (sym a.1) (here (λ e. n (a.1 ∙ e))).1
      | inr b ↦ rightly_same old new size (page_at size k) (signs (page_at size k) (record { number = k; below = below; is = refl }) b.1) (h.rightly k below n)
    ])

pub page_number : (size k a : ℕ) → 64 ≤ size → page_at size k ≤ a → a < page_at size k + size → (a - 4294967296) / size ≡ k
page_number size k a wide low high =
    let r = a - page_at size k in
    let e : a - 4294967296 ≡ k * size + r = omega arith in
    ap (λ (x : ℕ). x / size) e ∙ div-mul-add k size r (omega arith)

-- the page that the code finds is the block's
pub block_in : (w : Words) (size count a n p : ℕ) (live : List Extent) → BlocksFit w size count ((a, n) ∷ live) → p ≡ page_at size ((a - 4294967296) / size) → BlockIn size count p a n
block_in w size count a n p live h is =
    let i = h.inside.0 in
    let wide : 64 ≤ size = h.size_low in
    let two : 2 ≤ n = i.wide in
    let low : page_at size i.page + 8 ≤ a = i.low in
    let high : a + n ≤ page_at size i.page + size = i.high in
    let at : p ≡ page_at size i.page = is ∙ ap (page_at size) (page_number size i.page a wide (omega arith) (omega arith)) in
    record { page = record { number = i.page; below = i.below; is = at }; wide = two; low = omega arith; high = omega arith }

-- the page of a live block
pub record UsedPage (w : Words) (size p a n : ℕ) (live : List Extent) : Type 0 where
  pub free : List Extent
  pub holds : PageHolds w size p free ((a, n) ∷ blocks_of size p live)

pub used_page : (w : Words) (size count a n p : ℕ) (live : List Extent) → BlocksFit w size count ((a, n) ∷ live) → BlockIn size count p a n → UsedPage w size p a n live
used_page w size count a n p live h b =
    let k = b.page.number in
    let at : p ≡ page_at size k = b.page.is in
    let two : 2 ≤ n = b.wide in
    let low : p + 8 ≤ a = b.low in
    let high : a + n ≤ p + size = b.high in
    let is : PageIs w size p ((a, n) ∷ blocks_of size p live) = subst (λ (q : ℕ). PageIs w size q ((a, n) ∷ blocks_of size q live)) (sym at) (page_of_block w size count k (a, n) live b.page.below h (omega arith) (omega arith)) in
    record { free = is.free; holds = is.holds (λ e. let no_blocks = is.unused e in (cc)) }

pub can_put : (pages : Pages) (m : Memory) (live : List Extent) (waiting : List ℕ) (except page a n : ℕ) → HasBlocksBut pages m ((a, n) ∷ live) waiting except → BlockIn pages.page pages.count page a n → CanPut m page a
can_put pages m live waiting except page a n f b =
    let size = pages.page in
    let count = pages.count in
    let wide : 64 ≤ size = f.blocks.size_low in
    let g = page_facts size count page b.page (below_of f) in
    let low : 4294967296 ≤ page = g.low in
    let high : page + size ≤ page_at size count = g.high in
    let short : page + size ≤ 1099511627776 = g.short in
    let two : 2 ≤ n = b.wide in
    let from : page + 8 ≤ a = b.low in
    let upto : a + n ≤ page + size = b.high in
    let u = used_page (word_in m) size count a n page live f.blocks b in
    let c : word_in m (page + 2) ≡ length (blocks_of size page live) + 1 = u.holds.count ∙ omega arith in
    record {
      header = header_has m size count page wide (places_of f) (below_of f) b.page;
      block_in = places_of f a (omega arith) (omega arith);
      link_in = places_of f (a + 1) (omega arith) (omega arith);
      apart = from;
      count = omega arith;
    }

-- one page changes, whose class stays within the most, and its links stay where it is listed
pub page_changes : (pages : Pages) (m new : Memory) (xs ys : List Extent) (waiting : List ℕ) (except page : ℕ) → HasBlocksBut pages m xs waiting except → IsPage pages.page pages.count page → IsInArenas m new → IsOnlyPage (word_in m) (word_in new) page pages.page → BlocksFit (word_in new) pages.page pages.count ys
    → word_in new page ≤ pages.small → word_in new page ≢ 0 → word_in new (page + 7) ≡ word_in m (page + 7) → (page ≢ except → SameLinks (word_in m) (word_in new) page × IsListedRightly (word_in new) pages.page page) → HasBlocksBut pages new ys waiting except
page_changes pages m new xs ys waiting except page f is s only blocks small used last listed =
    let size = pages.page in
    let wide : 64 ≤ size = f.blocks.size_low in
    let at : page ≡ page_at size is.number = is.is in
    fits_new pages pages m new xs ys waiting except except f (only_same pages) s blocks
    (classes_one (word_in m) (word_in new) size pages.count pages.small pages.lowest pages.lowest is.number f.classes (omega arith)
    (subst (λ (q : ℕ). (e : ℕ) → (e < q) ⊎ (q + size ≤ e) → word_in new e ≡ word_in m e) at only) wide
    (subst (λ (q : ℕ). word_in new q ≤ pages.small) at small) (λ below. subst (λ (q : ℕ). word_in new q ≢ 0) at used)
    (subst (λ (q : ℕ). word_in new (q + 7) ≡ word_in m (q + 7)) at last))
    (lists_inner (word_in m) (word_in new) size pages.count pages.heads.items waiting except page wide f.lists is only listed)

-- the block goes on the chain of its page
pub given_fits : (pages : Pages) (m new : Memory) (live : List Extent) (waiting : List ℕ) (except page a n : ℕ) → HasBlocksBut pages m ((a, n) ∷ live) waiting except → BlockIn pages.page pages.count page a n → GivesBack (word_in m) (word_in new) page a → IsInArenas m new → (page ≢ except → IsListedRightly (word_in new) pages.page page) → HasBlocksBut pages new live waiting except
given_fits pages m new live waiting except page a n f b g s right =
    let size = pages.page in
    let count = pages.count in
    let old = word_in m in
    let now = word_in new in
    let wide : 64 ≤ size = f.blocks.size_low in
    let two : 2 ≤ n = b.wide in
    let from : page + 8 ≤ a = b.low in
    let upto : a + n ≤ page + size = b.high in
    let k = b.page.number in
    let at : page ≡ page_at size k = b.page.is in
    let only : IsOnlyPage old now page size = λ e out. elim out [ inl x ↦ g.rest e (omega arith) (omega arith) (omega arith) (omega arith) | inr y ↦ g.rest e (omega arith) (omega arith) (omega arith) (omega arith) ] in
    let word : (i : ℕ) → i < 8 → i ≢ 1 → i ≢ 2 → now (page + i) ≡ old (page + i) = λ i small n1 n2. g.rest (page + i) (omega arith) (omega arith) (omega arith) (omega arith) in
    let class : now page ≡ old page = g.rest page (omega arith) (omega arith) (omega arith) (omega arith) in
    let u = used_page old size count a n page live f.blocks b in
    let words : 2 ≤ old page = u.holds.words in
    let holds : PageHolds now size page ((a, n) ∷ u.free) (blocks_of size page live) = holds_given old now size page (a, n) u.free (blocks_of size page live) u.holds g in
    page_changes pages m new ((a, n) ∷ live) live waiting except page f b.page s only
    (fits_less old now size count k (a, n) [] live b.page.below f.blocks (omega arith) (omega arith)
    (subst (λ (q : ℕ). PageIs now size q (blocks_of size q live)) at (page_used now size page ((a, n) ∷ u.free) (blocks_of size page live) holds))
    (stays_elsewhere old now size count k (subst (λ (q : ℕ). (e : ℕ) → (e < q) ⊎ (q + size ≤ e) → now e ≡ old e) at only)))
    (subst (λ (c : ℕ). c ≤ pages.small) (sym class) (subst (λ (q : ℕ). old q ≤ pages.small) (sym at) (f.classes.small k b.page.below)))
    (λ z. omega (arith, sym class ∙ z, words)) (word 7 (omega arith) (omega arith) (omega arith))
    (λ ne. (record { class = class; next = word 4 (omega arith) (omega arith) (omega arith); before = word 5 (omega arith) (omega arith) (omega arith); kind = word 6 (omega arith) (omega arith) (omega arith) }, right ne))

-- the page's words after it got a free block
pub right_given : (old new : Words) (size p a kind : ℕ) → p + 8 ≤ a → GivesBack old new p a → IsRight kind old size p → kind ≢ 2 → (kind ≡ 1 → 2 ≤ old (p + 2)) → IsRight kind new size p
right_given old new size p a kind far g h not_full more =
    let class : new p ≡ old p = g.rest p (omega arith) (omega arith) (omega arith) (omega arith) in
    let count : new (p + 2) + 1 ≡ old (p + 2) = g.count in
    record {
      known = h.known;
      unused = λ e. class ∙ h.unused e;
      used = λ e. subst (λ (c : ℕ). 2 ≤ c) (sym class) (h.used e);
      room = λ e. inl (λ z. let head : new (p + 1) ≡ a = g.head in omega arith);
      full = λ e. absurd (not_full e);
      busy = λ e. let two : 2 ≤ old (p + 2) = more e in omega arith;
    }

pub length_none : (xs : List Extent) → length xs ≡ 0 → xs ≡ []
length_none [] e = refl
length_none (x ∷ xs) e = absurd (omega arith)

-- all words but the page's own stay where it is cleared
pub cleared_only : (old new : Words) (size p : ℕ) → 64 ≤ size → Clears old new p → IsOnlyPage old new p size
cleared_only old new size p wide g e out = elim out [ inl x ↦ g.rest e (omega arith) (omega arith) (omega arith) (omega arith) (omega arith) | inr y ↦ g.rest e (omega arith) (omega arith) (omega arith) (omega arith) (omega arith) ]

-- a page with no live block left, on no list, is unused from then on
pub cleared_fits : (pages after : Pages) (m new : Memory) (xs live : List Extent) (waiting : List ℕ) (page : ℕ) → HasBlocksBut pages m xs waiting page → IsPage pages.page pages.count page → IsLowered pages after page → Clears (word_in m) (word_in new) page → IsInArenas m new → BlocksFit (word_in new) pages.page pages.count live → HasBlocks after new live waiting
cleared_fits pages after m new xs live waiting page f is low g s blocks =
    let size = pages.page in
    let count = pages.count in
    let old = word_in m in
    let now = word_in new in
    let wide : 64 ≤ size = f.blocks.size_low in
    let k = is.number in
    let at : page ≡ page_at size k = is.is in
    let only : IsOnlyPage old now page size = cleared_only old now size page wide g in
    let lower : page_at size after.lowest ≤ page = low.lower in
    let class : now (page_at size k) ≡ 0 = subst (λ (q : ℕ). now q ≡ 0) at g.class in
    subst (λ (q : Pages). HasBlocks q new live waiting) (sym low.is) (record {
      setup = subst (HasSetup size pages.pages_per_arena pages.small) (sym s.arena_words) f.setup;
      arenas = arenas_stay m new size count s f.arenas;
      blocks = blocks;
      classes = classes_one old now size count pages.small pages.lowest after.lowest k f.classes low.below (subst (λ (q : ℕ). (e : ℕ) → (e < q) ⊎ (q + size ≤ e) → now e ≡ old e) at only) wide (omega arith)
          (λ below. absurd (let up : page_at size k + size ≤ page_at size after.lowest = pages_part size k after.lowest below in omega arith))
          (subst (λ (q : ℕ). now (q + 7) ≡ old (q + 7)) at (g.rest (page + 7) (omega arith) (omega arith) (omega arith) (omega arith) (omega arith)));
      lists = lists_unused now size count pages.heads.items waiting page (lists_inner old now size count pages.heads.items waiting page page wide f.lists is only (λ ne. absurd (ne refl))) g.class g.kind;
      heads = f.heads;
      waits = f.waits;
      rising = f.rising;
      room = f.room;
    })

-- of an unused page
empty_page : (w : Words) (size p : ℕ) (live : List Extent) → w p ≡ 0 → live ≡ [] → PageIs w size p live
empty_page w size p live none empty = record { free = []; unused = λ e. empty; holds = λ e. absurd (e none) }

-- the last live block of the page goes
pub last_goes : (pages after : Pages) (m new : Memory) (live : List Extent) (waiting : List ℕ) (page a n : ℕ) → HasBlocksBut pages m ((a, n) ∷ live) waiting page → BlockIn pages.page pages.count page a n → word_in m (page + 2) ≡ 1 → IsLowered pages after page → Clears (word_in m) (word_in new) page → IsInArenas m new → HasBlocks after new live waiting
last_goes pages after m new live waiting page a n f b one low g s =
    let size = pages.page in
    let wide : 64 ≤ size = f.blocks.size_low in
    let two : 2 ≤ n = b.wide in
    let from : page + 8 ≤ a = b.low in
    let upto : a + n ≤ page + size = b.high in
    let k = b.page.number in
    let at : page ≡ page_at size k = b.page.is in
    let u = used_page (word_in m) size pages.count a n page live f.blocks b in
    let c : word_in m (page + 2) ≡ length (blocks_of size page live) + 1 = u.holds.count ∙ omega arith in
    cleared_fits pages after m new ((a, n) ∷ live) live waiting page f b.page low g s
    (fits_less (word_in m) (word_in new) size pages.count k (a, n) [] live b.page.below f.blocks (omega arith) (omega arith)
    (subst (λ (q : ℕ). PageIs (word_in new) size q (blocks_of size q live)) at (empty_page (word_in new) size page (blocks_of size page live) g.class (length_none (blocks_of size page live) (omega arith))))
    (stays_elsewhere (word_in m) (word_in new) size pages.count k (subst (λ (q : ℕ). (e : ℕ) → (e < q) ⊎ (q + size ≤ e) → word_in new e ≡ word_in m e) at (cleared_only (word_in m) (word_in new) size page wide g))))

-- a page with no live block is cleared
pub none_left : (pages after : Pages) (m new : Memory) (live : List Extent) (waiting : List ℕ) (page : ℕ) → HasBlocksBut pages m live waiting page → IsPage pages.page pages.count page → word_in m (page + 2) ≡ 0 → word_in m page ≢ 0 → IsLowered pages after page → Clears (word_in m) (word_in new) page → IsInArenas m new → HasBlocks after new live waiting
none_left pages after m new live waiting page f is none used low g s =
    let size = pages.page in
    let wide : 64 ≤ size = f.blocks.size_low in
    let k = is.number in
    let at : page ≡ page_at size k = is.is in
    let was : PageIs (word_in m) size page (blocks_of size page live) = subst (λ (r : ℕ). PageIs (word_in m) size r (blocks_of size r live)) (sym at) (f.blocks.pages k is.below) in
    cleared_fits pages after m new live live waiting page f is low g s
    (fits_one (word_in m) (word_in new) size pages.count k live live f.blocks
    (subst (λ (r : ℕ). PageIs (word_in new) size r (blocks_of size r live)) at (empty_page (word_in new) size page (blocks_of size page live) g.class (length_none (blocks_of size page live) (sym (was.holds used).count ∙ none))))
    (λ j other. refl)
    (stays_elsewhere (word_in m) (word_in new) size pages.count k (subst (λ (q : ℕ). (e : ℕ) → (e < q) ⊎ (q + size ≤ e) → word_in new e ≡ word_in m e) at (cleared_only (word_in m) (word_in new) size page wide g))) f.blocks.inside f.blocks.apart)
