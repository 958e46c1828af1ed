-- The live blocks are listed by rising place, slot by slot and page by page.
use Rattle.std.proofs.Common.{◌≡◌, ◌≢◌, ℕ, ◌+◌, ◌-◌, ◌*◌, ◌/◌, ◌<◌, ◌≤◌, ◌⊎◌, inl, inr, Bool, true, false, cond, nat_lt, List, [], ◌∷◌, ◌++◌, append_assoc, append-nil, arith, refl, sym, ◌∙◌, ap, subst}
use Rattle.std.proofs.Math.Nat.{mul-le-mul_right}
use Rattle.std.proofs.lemmas.Bool.Decides.{nat_tests}
use Rattle.std.proofs.lemmas.Nat.{div-mul-add}
use Rattle.std.proofs.lemmas.List.Sorted.{IsPermutation-refl, IsPermutation-sym, IsPermutation-trans, IsPermutation-cons, IsPermutation-middle, IsPermutation-to_front}
use Rattle.std.specs.List.Sorted.{IsPermutation}
use Rattle.heap_space.specs.Memory.{Memory}
use Rattle.heap_space.specs.Extents.{Extent, Each}
use Rattle.heap_space.proofs.ExtentLaws.{Each-map, Each-right, Each-join}
use Rattle.object_header.specs.Words.{has_flag}
use Rattle.object_header.specs.declared.flags.Flag.TheVariants.{Free}
use Rattle.size_pages.specs.PageWords.{Words, word_in, HasAll}
use Rattle.size_pages.specs.PageBlocks.{IsBlockOf}
use Rattle.size_pages.specs.LiveBlocks.{page_at, blocks_of, IsInPages}
use Rattle.size_pages.specs.HasBlocks.{HasBlocks}
use Rattle.size_pages.specs.Headers.{IsHeaded, HasHeaders, RiseByPlace, AppendsLive, HoldsMore}
use Rattle.size_pages.specs.Listing.{CanListBlocks, blocks_below, IsListed, ListsBlocks}
use Rattle.size_pages.specs.declared.Pages.{Pages}
use Rattle.size_pages.proofs.FitLaws.{pages_part, filter_takes, filter_skips}
use Rattle.size_pages.proofs.FitsLaws.{places_of, below_of}
use Rattle.size_pages.proofs.SplitLaws.{Among, each_middle, filter_steady, below_steady, split_at}
use Rattle.size_pages.proofs.SlotLaws.{AreAway, PageSlots, page_slots, slot_is, all_away}

-- what was appended so far, from the page's beginning to a place
pub record ListsTo (pages : Pages) (m : Memory) (page : ℕ) (old new : List Extent) (place : ℕ) : Type 0 where
  pub listed : (live : List Extent) (waiting : List ℕ) (before appended : List Extent) → HasHeaders pages m live waiting → old ≡ before ++ appended → IsListed live appended page
      → (more : List Extent) × (new ≡ before ++ more) × IsListed live more place
  pub holds : HoldsMore old new

pub lists_start : (pages : Pages) (m : Memory) (page : ℕ) (old : List Extent) → ListsTo pages m page old old page
lists_start pages m page old = record {
  listed = λ live waiting before appended h e l. (appended, e, l);
  holds = record { more = []; is = sym (append-nil old) };
}

listed_skip : (live appended : List Extent) (low high : ℕ) → low ≤ high → AreAway low high live → IsListed live appended low → IsListed live appended high
listed_skip live appended low high up away l = record {
  same = subst (λ (xs : List Extent). IsPermutation xs appended) (sym (filter_steady (λ place x. nat_lt x.0 place) below_steady low high live up away)) l.same;
  rising = l.rising;
  below = Each-map (λ x. x.0 < low) (λ x. x.0 < high) (λ x h. omega arith) appended l.below;
}

pub lists_skip : (pages : Pages) (m : Memory) (page : ℕ) (old new : List Extent) (low high : ℕ) → low ≤ high → ((live : List Extent) (waiting : List ℕ) → HasHeaders pages m live waiting → AreAway low high live) → ListsTo pages m page old new low → ListsTo pages m page old new high
lists_skip pages m page old new low high up away t = record {
  listed = λ live waiting before appended h e l. let r = t.listed live waiting before appended h e l in (r.0, r.1, listed_skip live r.0 low high up (away live waiting h) r.2);
  holds = t.holds;
}

rise_more : (xs : List Extent) (x : Extent) → RiseByPlace xs → Each (λ y. y.0 < x.0) xs → RiseByPlace (xs ++ x ∷ [])
rise_more [] x r below = (tt, tt)
rise_more (y ∷ ys) x r below = (Each-join (λ z. y.0 < z.0) ys (x ∷ []) r.0 (below.0, tt), rise_more ys x r.1 below.1)

listed_more : (live appended : List Extent) (b n : ℕ) → 0 < n → Among b n live → IsListed live appended b → IsListed live (appended ++ (b, n) ∷ []) (b + n)
listed_more live appended b n some a l =
    let x : Extent = (b, n) in
    let s = split_at (λ place y. nat_lt y.0 place) below_steady b n live a in
    let F = s.front in
    let L = s.back in
    let here : nat_lt b (b + n) ≡ true = grind (arith, nat_tests) in
    let not_yet : nat_lt b b ≡ false = grind (arith, nat_tests) in
    let after : blocks_below (b + n) live ≡ F ++ x ∷ L = s.behind ∙ ap (λ (c : Bool). F ++ cond c (x ∷ L) L) here in
    let was : blocks_below b live ≡ F ++ L = s.before ∙ ap (λ (c : Bool). F ++ cond c (x ∷ L) L) not_yet in
    let old : IsPermutation (F ++ L) appended = subst (λ (ys : List Extent). IsPermutation ys appended) was l.same in
    let moved : IsPermutation (F ++ x ∷ L) (appended ++ x ∷ []) =
    IsPermutation-trans (F ++ x ∷ L) (x ∷ (F ++ L)) (appended ++ x ∷ []) (IsPermutation-middle F x L)
    (IsPermutation-trans (x ∷ (F ++ L)) (x ∷ appended) (appended ++ x ∷ []) (IsPermutation-cons x (F ++ L) appended old)
    (IsPermutation-sym (appended ++ x ∷ []) (x ∷ appended) (IsPermutation-to_front appended x))) in
    record {
      same = subst (λ (ys : List Extent). IsPermutation ys (appended ++ x ∷ [])) (sym after) moved;
      rising = rise_more appended x l.rising l.below;
      below = Each-join (λ y. y.0 < b + n) appended (x ∷ []) (Each-map (λ y. y.0 < b) (λ y. y.0 < b + n) (λ y h. omega arith) appended l.below) (omega arith, tt);
    }

pub lists_push : (pages : Pages) (m : Memory) (page : ℕ) (old new last : List Extent) (b n : ℕ) → 0 < n → last ≡ new ++ (b, n) ∷ [] → ((live : List Extent) (waiting : List ℕ) → HasHeaders pages m live waiting → Among b n live) → ListsTo pages m page old new b → ListsTo pages m page old last (b + n)
lists_push pages m page old new last b n some e here t = record {
  listed = λ live waiting before appended h is l.
      let r = t.listed live waiting before appended h is l in (
        r.0 ++ (b, n) ∷ [],
        e ∙ ap (λ (ys : List Extent). ys ++ (b, n) ∷ []) r.1 ∙ append_assoc before r.0 ((b, n) ∷ []),
        listed_more live r.0 b n some (here live waiting h) r.2,
      );
  holds = record { more = t.holds.more ++ (b, n) ∷ []; is = e ∙ ap (λ (ys : List Extent). ys ++ (b, n) ∷ []) t.holds.is ∙ append_assoc old t.holds.more ((b, n) ∷ []) };
}

-- the word of a free block says so, and that of a live one does not
free_word : (word : ℕ) → word ≡ 4194304 → has_flag word Free ≡ true
unfolding has_flag
free_word word e = ap (λ (k : ℕ). has_flag k Free) e ∙ refl

among_headed : (m : Memory) (b n : ℕ) (live : List Extent) → Among b n live → Each (IsHeaded m) live → has_flag (word_in m b) Free ≡ false
among_headed m b n live a all = (each_middle (IsHeaded m) a.front a.back (b, n) (subst (Each (IsHeaded m)) a.is all)).live

-- where the word at a slot is free
pub slot_away : (pages : Pages) (m : Memory) (k i : ℕ) → k < pages.count → word_in m (page_at pages.page k) ≢ 0 → page_at pages.page k + 8 + i * word_in m (page_at pages.page k) < word_in m (page_at pages.page k + 3)
    → has_flag (word_in m (page_at pages.page k + 8 + i * word_in m (page_at pages.page k))) Free ≡ true
    → (live : List Extent) (waiting : List ℕ) → HasHeaders pages m live waiting → AreAway (page_at pages.page k + 8 + i * word_in m (page_at pages.page k)) (page_at pages.page k + 8 + i * word_in m (page_at pages.page k) + word_in m (page_at pages.page k)) live
slot_away pages m k i below used inside flag live waiting h = elim (slot_is pages m live waiting k i h.fits below used inside) [
  | inl f ↦ f.away
  | inr a ↦ absurd (let no_ = among_headed m (page_at pages.page k + 8 + i * word_in m (page_at pages.page k)) (word_in m (page_at pages.page k)) live a h.headed in (cc))
]

-- where it is not
pub slot_among : (pages : Pages) (m : Memory) (k i : ℕ) → k < pages.count → word_in m (page_at pages.page k) ≢ 0 → page_at pages.page k + 8 + i * word_in m (page_at pages.page k) < word_in m (page_at pages.page k + 3)
    → has_flag (word_in m (page_at pages.page k + 8 + i * word_in m (page_at pages.page k))) Free ≡ false
    → (live : List Extent) (waiting : List ℕ) → HasHeaders pages m live waiting → Among (page_at pages.page k + 8 + i * word_in m (page_at pages.page k)) (word_in m (page_at pages.page k)) live
slot_among pages m k i below used inside flag live waiting h = elim (slot_is pages m live waiting k i h.fits below used inside) [
  | inl f ↦ absurd (let yes_ = free_word (word_in m (page_at pages.page k + 8 + i * word_in m (page_at pages.page k))) f.word in (cc))
  | inr a ↦ a
]

-- the page whose blocks are listed
pub record ListedPage (pages : Pages) (m : Memory) (page : ℕ) : Type 0 where
  pub number : ℕ
  pub below : number < pages.count
  pub is : page ≡ page_at pages.page number
  pub all : HasAll m page (page + pages.page)
  pub slots : word_in m page ≢ 0 → PageSlots (word_in m) pages.page page
  pub wide : 64 ≤ pages.page
  pub high : page + pages.page ≤ 1099511627776

pub listed_page : (pages : Pages) (m : Memory) (page : ℕ) → CanListBlocks pages m page → ListedPage pages m page
listed_page pages m page c =
    let f = c.stands.has.fits in
    let k = c.is_page.number in
    let at : page ≡ page_at pages.page k = c.is_page.is in
    let part : page_at pages.page k + pages.page ≤ page_at pages.page pages.count = pages_part pages.page k pages.count c.is_page.below in
    let top : page_at pages.page pages.count ≤ 1099511627776 = below_of f in
    record {
      number = k;
      below = c.is_page.below;
      is = at;
      all = λ b low high. places_of f b (omega arith) (omega arith);
      slots = λ used. subst (λ (p : ℕ). PageSlots (word_in m) pages.page p) (sym at) (page_slots (word_in m) pages.page (page_at pages.page k) (blocks_of pages.page (page_at pages.page k) c.stands.live) (f.blocks.pages k c.is_page.below) (subst (λ (p : ℕ). word_in m p ≢ 0) at used));
      wide = f.blocks.size_low;
      high = omega arith;
    }

-- how many blocks were handed out ever
pub slots_count : (w : Words) (size p fresh class : ℕ) (s : PageSlots w size p) → fresh ≡ w (p + 3) → class ≡ w p → (fresh - (p + 8)) / class ≡ s.slots
slots_count w size p fresh class s is_fresh is_class =
    let all : s.slots * w p + (p + 8) ≡ w (p + 3) = s.all in
    let two : 2 ≤ w p = s.words in
    let e : fresh - (p + 8) ≡ s.slots * w p + 0 = omega arith in
    ap (λ (k : ℕ). (fresh - (p + 8)) / k) is_class ∙ ap (λ (k : ℕ). k / w p) e ∙ div-mul-add s.slots (w p) 0 (omega arith)

-- a slot below that number
pub slot_inside : (w : Words) (size p i class : ℕ) (s : PageSlots w size p) → class ≡ w p → i < s.slots → p + 8 + i * class + class ≤ w (p + 3)
slot_inside w size p i class s is_class below =
    let all : s.slots * w p + (p + 8) ≡ w (p + 3) = s.all in
    let m : (i + 1) * w p ≤ s.slots * w p = grind (arith, mul-le-mul_right) in
    let d : (i + 1) * w p ≡ i * w p + w p = grind arith in
    let e : i * class ≡ i * w p = ap (λ (k : ℕ). i * k) is_class in omega arith

pub page_blocks : (pages : Pages) (m : Memory) (k : ℕ) (live : List Extent) (waiting : List ℕ) → HasBlocks pages m live waiting → k < pages.count → word_in m (page_at pages.page k) ≢ 0 → Each (IsBlockOf (word_in m (page_at pages.page k)) (page_at pages.page k + 8) (word_in m (page_at pages.page k + 3))) (blocks_of pages.page (page_at pages.page k) live)
page_blocks pages m k live waiting f below used =
    let p = page_at pages.page k in
    let w = word_in m in
    let is = f.blocks.pages k below in
    Each-right (IsBlockOf (w p) (p + 8) (w (p + 3))) is.free (blocks_of pages.page p live) (is.holds used).blocks

-- no live block begins in an unused page, in a header, or behind the first word never handed out
unused_away : (pages : Pages) (m : Memory) (k : ℕ) → k < pages.count → word_in m (page_at pages.page k) ≡ 0 → (live : List Extent) (waiting : List ℕ) → HasHeaders pages m live waiting → AreAway (page_at pages.page k) (page_at pages.page k + pages.page) live
unused_away pages m k below unused live waiting h =
    let p = page_at pages.page k in
    let f = h.fits in
    all_away pages.page pages.count k p (p + pages.page) live (omega arith) (omega arith) f.blocks.inside
    (subst (AreAway p (p + pages.page)) (sym ((f.blocks.pages k below).unused unused)) tt)

pub header_away : (pages : Pages) (m : Memory) (k : ℕ) → k < pages.count → word_in m (page_at pages.page k) ≢ 0 → (live : List Extent) (waiting : List ℕ) → HasHeaders pages m live waiting → AreAway (page_at pages.page k) (page_at pages.page k + 8) live
header_away pages m k below used live waiting h =
    let p = page_at pages.page k in
    let w = word_in m in
    let f = h.fits in
    let wide : 64 ≤ pages.page = f.blocks.size_low in
    all_away pages.page pages.count k p (p + 8) live (omega arith) (omega arith) f.blocks.inside
    (Each-map (IsBlockOf (w p) (p + 8) (w (p + 3))) (λ y. (y.0 < p) ⊎ (p + 8 ≤ y.0)) (λ y is. inr is.1) (blocks_of pages.page p live) (page_blocks pages m k live waiting f below used))

tail_away : (pages : Pages) (m : Memory) (k : ℕ) → k < pages.count → word_in m (page_at pages.page k) ≢ 0 → (live : List Extent) (waiting : List ℕ) → HasHeaders pages m live waiting → AreAway (word_in m (page_at pages.page k + 3)) (page_at pages.page k + pages.page) live
tail_away pages m k below used live waiting h =
    let p = page_at pages.page k in
    let w = word_in m in
    let f = h.fits in
    let s = page_slots w pages.page p (blocks_of pages.page p live) (f.blocks.pages k below) used in
    let low : p + 8 ≤ w (p + 3) = s.fresh_low in
    let two : 2 ≤ w p = s.words in
    all_away pages.page pages.count k (w (p + 3)) (p + pages.page) live (omega arith) (omega arith) f.blocks.inside
    (Each-map (IsBlockOf (w p) (p + 8) (w (p + 3))) (λ y. (y.0 < w (p + 3)) ⊎ (p + pages.page ≤ y.0)) (λ y is. let n : y.1 ≡ w p = is.0 in let e : y.0 + y.1 ≤ w (p + 3) = is.2 in inl (omega arith)) (blocks_of pages.page p live) (page_blocks pages m k live waiting f below used))

pub lists_blocks : (pages : Pages) (m : Memory) (page : ℕ) (old new : List Extent) → ListsTo pages m page old new (page + pages.page) → ListsBlocks pages m page old new
lists_blocks pages m page old new t = record { listed = t.listed }

module _ (pages : Pages) (m : Memory) (page class : ℕ) (c : CanListBlocks pages m page) (is_class : class ≡ word_in m page) where
  g : ListedPage pages m page
  g = listed_page pages m page c

  pub unused_lists : class ≡ 0 → (old : List Extent) → ListsBlocks pages m page old old
  unfolding g
  unused_lists none old =
      let at : page_at pages.page g.number ≡ page = sym g.is in
      let unused : word_in m (page_at pages.page g.number) ≡ 0 = ap (word_in m) at ∙ sym is_class ∙ none in
      let P : ℕ → Type 0 = λ p. (live : List Extent) (waiting : List ℕ) → HasHeaders pages m live waiting → AreAway p (p + pages.page) live in
      lists_blocks pages m page old old (lists_skip pages m page old old page (page + pages.page) (omega arith) (subst P at (unused_away pages m g.number g.below unused)) (lists_start pages m page old))

  pub lists_begin : class ≢ 0 → (old : List Extent) → ListsTo pages m page old old (page + 8 + 0 * class)
  unfolding g
  lists_begin some old =
      let at : page_at pages.page g.number ≡ page = sym g.is in
      let used : word_in m (page_at pages.page g.number) ≢ 0 = λ z. some (is_class ∙ ap (word_in m) g.is ∙ z) in
      let P : ℕ → Type 0 = λ p. (live : List Extent) (waiting : List ℕ) → HasHeaders pages m live waiting → AreAway p (p + 8) live in
      subst (λ (b : ℕ). ListsTo pages m page old old b) (let e : page + 8 ≡ page + 8 + 0 * class = omega arith in e)
      (lists_skip pages m page old old page (page + 8) (omega arith) (subst P at (header_away pages m g.number g.below used)) (lists_start pages m page old))

  pub slots_of : class ≢ 0 → PageSlots (word_in m) pages.page page
  unfolding g
  slots_of some = g.slots (λ z. some (is_class ∙ z))

  -- what a step over a slot is: past a free block, or with a live one
  pub lists_slot : class ≢ 0 → (i : ℕ) (old new last : List Extent) → page + 8 + i * class < word_in m (page + 3) → ListsTo pages m page old new (page + 8 + i * class)
      → ((has_flag (word_in m (page + 8 + i * class)) Free ≡ true) × (last ≡ new)) ⊎ ((has_flag (word_in m (page + 8 + i * class)) Free ≡ false) × (last ≡ new ++ (page + 8 + i * class, class) ∷ []))
      → ListsTo pages m page old last (page + 8 + (i + 1) * class)
  unfolding g
  lists_slot some i old new last inside t which =
      let at : page_at pages.page g.number ≡ page = sym g.is in
      let used : word_in m page ≢ 0 = λ z. some (is_class ∙ z) in
      let b = page + 8 + i * class in
      let next : b + class ≡ page + 8 + (i + 1) * class = (let d : (i + 1) * class ≡ i * class + class = grind arith in omega arith) in
      let Away : ℕ → ℕ → Type 0 = λ p n. n ≢ 0 → p + 8 + i * n < word_in m (p + 3) → has_flag (word_in m (p + 8 + i * n)) Free ≡ true → (live : List Extent) (waiting : List ℕ) → HasHeaders pages m live waiting → AreAway (p + 8 + i * n) (p + 8 + i * n + n) live in
      let Here : ℕ → ℕ → Type 0 = λ p n. n ≢ 0 → p + 8 + i * n < word_in m (p + 3) → has_flag (word_in m (p + 8 + i * n)) Free ≡ false → (live : List Extent) (waiting : List ℕ) → HasHeaders pages m live waiting → Among (p + 8 + i * n) n live in
      let away : Away page class = subst (Away page) (sym is_class) (subst (λ (p : ℕ). Away p (word_in m p)) at (λ u s f. slot_away pages m g.number i g.below u s f)) in
      let here : Here page class = subst (Here page) (sym is_class) (subst (λ (p : ℕ). Here p (word_in m p)) at (λ u s f. slot_among pages m g.number i g.below u s f)) in
      subst (λ (place : ℕ). ListsTo pages m page old last place) next (elim which [
        | inl h ↦ subst (λ (xs : List Extent). ListsTo pages m page old xs (b + class)) (sym h.1) (lists_skip pages m page old new b (b + class) (omega arith) (away some inside h.0) t)
        | inr h ↦ lists_push pages m page old new last b class (omega arith) h.1 (here some inside h.0) t
      ])

  pub lists_end : class ≢ 0 → (old new : List Extent) (count : ℕ) → (slots_of_page : PageSlots (word_in m) pages.page page) → count ≡ slots_of_page.slots → ListsTo pages m page old new (page + 8 + count * class) → ListsBlocks pages m page old new
  unfolding g
  lists_end some old new count s is_count t =
      let at : page_at pages.page g.number ≡ page = sym g.is in
      let used : word_in m (page_at pages.page g.number) ≢ 0 = λ z. some (is_class ∙ ap (word_in m) g.is ∙ z) in
      let w = word_in m in
      let all : s.slots * w page + (page + 8) ≡ w (page + 3) = s.all in
      let e : count * class ≡ s.slots * w page = ap (λ (k : ℕ). k * class) is_count ∙ ap (λ (k : ℕ). s.slots * k) is_class in
      let high : w (page + 3) ≤ page + pages.page = s.fresh_high in
      let P : ℕ → Type 0 = λ p. (live : List Extent) (waiting : List ℕ) → HasHeaders pages m live waiting → AreAway (w (p + 3)) (p + pages.page) live in
      let place : page + 8 + count * class ≡ w (page + 3) = omega arith in
      lists_blocks pages m page old new
      (lists_skip pages m page old new (w (page + 3)) (page + pages.page) high (subst P at (tail_away pages m g.number g.below used)) (subst (λ (b : ℕ). ListsTo pages m page old new b) place t))

-- what was appended so far, for the first k pages
pub record ListedTo (pages : Pages) (m : Memory) (old new : List Extent) (k : ℕ) : Type 0 where
  pub listed : (live : List Extent) (waiting : List ℕ) → HasHeaders pages m live waiting → (more : List Extent) × (new ≡ old ++ more) × IsListed live more (page_at pages.page k)
  pub holds : HoldsMore old new

below_none : (a : ℕ) (xs : List Extent) → Each (λ x. a ≤ x.0) xs → blocks_below a xs ≡ []
below_none a [] all = refl
below_none a (x ∷ xs) all = filter_skips (λ y. nat_lt y.0 a) x xs (let low : a ≤ x.0 = all.0 in grind (arith, nat_tests)) ∙ below_none a xs all.1

below_all : (a : ℕ) (xs : List Extent) → Each (λ x. x.0 < a) xs → blocks_below a xs ≡ xs
below_all a [] all = refl
below_all a (x ∷ xs) all = filter_takes (λ y. nat_lt y.0 a) x xs (let low : x.0 < a = all.0 in grind (arith, nat_tests)) ∙ ap (λ (ys : List Extent). x ∷ ys) (below_all a xs all.1)

pub listed_none : (pages : Pages) (m : Memory) (old : List Extent) → ListedTo pages m old old 0
listed_none pages m old = record {
  listed = λ live waiting h.
      let none : blocks_below (page_at pages.page 0) live ≡ [] = below_none (page_at pages.page 0) live (Each-map (IsInPages pages.page pages.count) (λ x. page_at pages.page 0 ≤ x.0) (λ x is. let low : page_at pages.page is.page + 8 ≤ x.0 = is.low in omega arith) live h.fits.blocks.inside) in
      ([], sym (append-nil old), record { same = subst (λ (xs : List Extent). IsPermutation xs []) (sym none) (IsPermutation-refl []); rising = tt; below = tt });
  holds = record { more = []; is = sym (append-nil old) };
}

pub holds_then : (a b c : List Extent) → HoldsMore a b → HoldsMore b c → HoldsMore a c
holds_then a b c h g = record { more = h.more ++ g.more; is = g.is ∙ ap (λ (xs : List Extent). xs ++ g.more) h.is ∙ append_assoc a h.more g.more }

pub listed_page_more : (pages : Pages) (m : Memory) (old new last : List Extent) (k : ℕ) → ListedTo pages m old new k → ListsBlocks pages m (page_at pages.page k) new last → HoldsMore new last → ListedTo pages m old last (k + 1)
listed_page_more pages m old new last k t l more = record {
  listed = λ live waiting h.
      let r = t.listed live waiting h in
      let s = l.listed live waiting old r.0 h r.1 r.2 in
      let e : page_at pages.page k + pages.page ≡ page_at pages.page (k + 1) = (let d : (k + 1) * pages.page ≡ k * pages.page + pages.page = grind arith in omega arith) in
      (s.0, s.1, subst (λ (b : ℕ). IsListed live s.0 b) e s.2);
  holds = holds_then old new last t.holds more;
}

pub listed_all : (pages : Pages) (m : Memory) (old new : List Extent) → ListedTo pages m old new pages.count → (live : List Extent) (waiting : List ℕ) → HasHeaders pages m live waiting → AppendsLive old new live
listed_all pages m old new t live waiting h =
    let r = t.listed live waiting h in
    let all : blocks_below (page_at pages.page pages.count) live ≡ live = below_all (page_at pages.page pages.count) live (Each-map (IsInPages pages.page pages.count) (λ x. x.0 < page_at pages.page pages.count) (λ x is. let high : x.0 + x.1 ≤ page_at pages.page is.page + pages.page = is.high in let two : 2 ≤ x.1 = is.wide in let part : page_at pages.page is.page + pages.page ≤ page_at pages.page pages.count = pages_part pages.page is.page pages.count is.below in omega arith) live h.fits.blocks.inside) in
    record { appended = r.0; is = r.1; same = subst (λ (xs : List Extent). IsPermutation xs r.0) all r.2.same; rising = r.2.rising }
