-- The births of the dead objects of a page are gathered slot by slot.
use Rattle.std.proofs.Common.{not, ◌≡◌, ◌≢◌, ℕ, ◌+◌, ◌-◌, ◌*◌, ◌/◌, ◌<◌, ◌≤◌, ◌⊎◌, inl, inr, Bool, true, false, cond, ◌&&◌, nat_lt, List, [], ◌∷◌, ◌++◌, map, append_assoc, append-nil, arith, refl, sym, ◌∙◌, ap, subst}
use Rattle.std.proofs.lemmas.Bool.{cases_Bool}
use Rattle.std.proofs.lemmas.Bool.Decides.{nat_tests}
use Rattle.std.proofs.lemmas.List.Sorted.{IsPermutation-refl, IsPermutation-sym, IsPermutation-trans, IsPermutation-cons, IsPermutation-middle, IsPermutation-to_front}
use Rattle.std.specs.List.{filter}
use Rattle.std.specs.List.Sorted.{IsPermutation}
use Rattle.heap_space.specs.Memory.{Memory}
use Rattle.heap_space.specs.Extents.{Extent, Each}
use Rattle.heap_space.proofs.ExtentLaws.{Each-map}
use Rattle.object_header.specs.Words.{has_flag, survives_sweep}
use Rattle.object_header.specs.declared.flags.Flag.TheVariants.{Free}
use Rattle.size_pages.specs.PageWords.{Words, word_in, CanStore, HasAll}
use Rattle.size_pages.specs.PageBlocks.{IsBlockOf}
use Rattle.size_pages.specs.LiveBlocks.{page_at, blocks_of, in_page}
use Rattle.size_pages.specs.Headers.{HasHeaders}
use Rattle.size_pages.specs.Listing.{CanListBlocks}
use Rattle.size_pages.specs.Sweeping.{dies, birth_in}
use Rattle.size_pages.specs.SlotSteps.{CanSweepAt, GathersBirths, HoldsNumbers}
use Rattle.size_pages.specs.declared.Pages.{Pages}
use Rattle.size_pages.proofs.FitLaws.{each_by_test, filter_skips}
use Rattle.size_pages.proofs.ChoiceLaws.{IsWaitingPage, waiting_pages}
use Rattle.size_pages.proofs.SplitLaws.{Among, IsSteady, split_at, filter_same, filter_steady, below_steady}
use Rattle.size_pages.proofs.SlotLaws.{AreAway, PageSlots}
use Rattle.size_pages.proofs.ListingLaws.{listed_page, slot_away, slot_among, slots_count, slot_inside, page_blocks}

-- the first waiting page
pub sweep_page_is : (pages : Pages) (m : Memory) (page : ℕ) → CanSweepAt pages m page → IsWaitingPage (word_in m) pages.page pages.count page
sweep_page_is pages m page c = (waiting_pages (word_in m) pages.page pages.count pages.heads.items (page ∷ c.rest) c.has.fits.lists).0

pub can_list : (pages : Pages) (m : Memory) (page : ℕ) → CanSweepAt pages m page → CanListBlocks pages m page
can_list pages m page c = record { stands = record { live = c.live; waiting = page ∷ c.rest; has = c.has }; is_page = (sweep_page_is pages m page c).is_page }

each_never : (t : Extent → Bool) (P : Extent → Type 0) (xs : List Extent) → Each (λ x. t x ≡ false → t x ≡ true → P x) xs
each_never t P [] = tt
each_never t P (x ∷ xs) = (λ f g. absurd (cc), each_never t P xs)

-- what is at a slot of the page, by the flag of its word
module _ (pages : Pages) (m : Memory) (page class : ℕ) (c : CanListBlocks pages m page) (is_class : class ≡ word_in m page) (some : class ≢ 0) where
  pub at_free : (i : ℕ) → page + 8 + i * class < word_in m (page + 3) → has_flag (word_in m (page + 8 + i * class)) Free ≡ true → (live : List Extent) (waiting : List ℕ) → HasHeaders pages m live waiting → AreAway (page + 8 + i * class) (page + 8 + i * class + class) live
  at_free i =
      let g = listed_page pages m page c in
      let used : word_in m page ≢ 0 = λ z. some (is_class ∙ z) in
      let Away : ℕ → ℕ → Type 0 = λ p n. n ≢ 0 → p + 8 + i * n < word_in m (p + 3) → has_flag (word_in m (p + 8 + i * n)) Free ≡ true → (live : List Extent) (waiting : List ℕ) → HasHeaders pages m live waiting → AreAway (p + 8 + i * n) (p + 8 + i * n + n) live in
      let away : Away page class = subst (Away page) (sym is_class) (subst (λ (p : ℕ). Away p (word_in m p)) (sym g.is) (λ u s f. slot_away pages m g.number i g.below u s f)) in away some

  pub at_live : (i : ℕ) → page + 8 + i * class < word_in m (page + 3) → has_flag (word_in m (page + 8 + i * class)) Free ≡ false → (live : List Extent) (waiting : List ℕ) → HasHeaders pages m live waiting → Among (page + 8 + i * class) class live
  at_live i =
      let g = listed_page pages m page c in
      let Here : ℕ → ℕ → Type 0 = λ p n. n ≢ 0 → p + 8 + i * n < word_in m (p + 3) → has_flag (word_in m (p + 8 + i * n)) Free ≡ false → (live : List Extent) (waiting : List ℕ) → HasHeaders pages m live waiting → Among (p + 8 + i * n) n live in
      let here : Here page class = subst (Here page) (sym is_class) (subst (λ (p : ℕ). Here p (word_in m p)) (sym g.is) (λ u s f. slot_among pages m g.number i g.below u s f)) in here some

  -- each live block of the page begins behind its header and below the first word never handed out
  pub page_part : (live : List Extent) (waiting : List ℕ) → HasHeaders pages m live waiting → Each (λ x. in_page pages.page page x ≡ true → (page + 8 ≤ x.0) × (x.0 < word_in m (page + 3))) live
  page_part live waiting h =
      let g = listed_page pages m page c in
      let Part : ℕ → Type 0 = λ p. word_in m p ≢ 0 → Each (λ x. in_page pages.page p x ≡ true → (p + 8 ≤ x.0) × (x.0 < word_in m (p + 3))) live in
      let part : Part page = subst Part (sym g.is) (λ used.
      let p = page_at pages.page g.number in
      let is = h.fits.blocks.pages g.number g.below in
      let two : 2 ≤ word_in m p = (is.holds used).words in
      each_by_test (in_page pages.page p) (λ x. in_page pages.page p x ≡ true → (p + 8 ≤ x.0) × (x.0 < word_in m (p + 3))) live
      (Each-map (IsBlockOf (word_in m p) (p + 8) (word_in m (p + 3))) (λ x. in_page pages.page p x ≡ true → (p + 8 ≤ x.0) × (x.0 < word_in m (p + 3))) (λ x b e. let low : p + 8 ≤ x.0 = b.1 in let high : x.0 + x.1 ≤ word_in m (p + 3) = b.2 in let wide : x.1 ≡ word_in m p = b.0 in (low, omega arith)) (blocks_of pages.page p live) (page_blocks pages m g.number live waiting h.fits g.below used))
      (each_never (in_page pages.page p) (λ x. (p + 8 ≤ x.0) × (x.0 < word_in m (p + 3))) live)) in
      part (λ z. some (is_class ∙ z))

pub and_false : (b : Bool) → (b && false) ≡ false
and_false true = refl
and_false false = refl

pub and_true : (b : Bool) → (b && true) ≡ b
and_true true = refl
and_true false = refl

pub in_page_cases : (size p : ℕ) (x : Extent) → (in_page size p x ≡ true) ⊎ (in_page size p x ≡ false)
in_page_cases size p x = cases_Bool (in_page size p x)

-- whether the block is one of those that pass a test and begin below a place
abbrev pub passes : (Extent → Bool) → ℕ → Extent → Bool
passes t place x = t x && nat_lt x.0 place

passes_steady : (t : Extent → Bool) → IsSteady (passes t)
passes_steady t low high x up out = ap (λ (b : Bool). t x && b) (below_steady low high x up out)

map_both : (f : Extent → ℕ) (xs ys : List Extent) → map f (xs ++ ys) ≡ map f xs ++ map f ys
map_both f [] ys = refl
map_both f (x ∷ xs) ys = ap (λ (zs : List ℕ). f x ∷ zs) (map_both f xs ys)

-- the births gathered so far
pub record BirthsTo (pages : Pages) (m : Memory) (page : ℕ) (old new : List ℕ) (place : ℕ) : Type 0 where
  pub gathered : (live : List Extent) (rest : List ℕ) → HasHeaders pages m live (page ∷ rest)
      → (births : List ℕ) × (new ≡ old ++ births) × IsPermutation (map (birth_in (word_in m)) (filter (passes (dies (word_in m) pages.page page) place) live)) births
  pub holds : HoldsNumbers old new

filter_none : (t : Extent → Bool) (xs : List Extent) → Each (λ x. t x ≡ false) xs → filter t xs ≡ []
filter_none t [] all = refl
filter_none t (x ∷ xs) all = filter_skips t x xs all.0 ∙ filter_none t xs all.1

pub dies_in : (w : Words) (size p : ℕ) (x : Extent) → in_page size p x ≡ false → dies w size p x ≡ false
dies_in w size p x e = ap (λ (b : Bool). b && not (survives_sweep (w x.0))) e

pub births_none : (pages : Pages) (m : Memory) (page class : ℕ) (c : CanListBlocks pages m page) → class ≡ word_in m page → class ≢ 0 → (old : List ℕ) → BirthsTo pages m page old old (page + 8 + 0 * class)
births_none pages m page class c is_class some old = record {
  gathered = λ live rest h.
      let w = word_in m in
      let t = dies w pages.page page in
      let none : filter (passes t (page + 8 + 0 * class)) live ≡ [] = filter_none (passes t (page + 8 + 0 * class)) live
      (Each-map (λ x. in_page pages.page page x ≡ true → (page + 8 ≤ x.0) × (x.0 < w (page + 3))) (λ x. passes t (page + 8 + 0 * class) x ≡ false) (λ x part. elim (in_page_cases pages.page page x) [
        | inl e ↦ (let low : page + 8 ≤ x.0 = (part e).0 in ap (λ (b : Bool). t x && b) (let l : nat_lt x.0 (page + 8 + 0 * class) ≡ false = grind (arith, nat_tests) in l) ∙ and_false (t x))
        | inr e ↦ ap (λ (b : Bool). b && nat_lt x.0 (page + 8 + 0 * class)) (dies_in w pages.page page x e)
      ]) live (page_part pages m page class c is_class some live (page ∷ rest) h)) in
      ([], sym (append-nil old), subst (λ (xs : List Extent). IsPermutation (map (birth_in w) xs) []) (sym none) (IsPermutation-refl []));
  holds = record { more = []; is = sym (append-nil old) };
}

-- a free slot, or one whose block does not die
pub births_skip : (pages : Pages) (m : Memory) (page : ℕ) (old new : List ℕ) (low high : ℕ) → ((live : List Extent) (rest : List ℕ) → HasHeaders pages m live (page ∷ rest) → filter (passes (dies (word_in m) pages.page page) high) live ≡ filter (passes (dies (word_in m) pages.page page) low) live) → BirthsTo pages m page old new low → BirthsTo pages m page old new high
births_skip pages m page old new low high same t = record {
  gathered = λ live rest h. let r = t.gathered live rest h in (r.0, r.1, subst (λ (xs : List Extent). IsPermutation (map (birth_in (word_in m)) xs) r.0) (sym (same live rest h)) r.2);
  holds = t.holds;
}

pub births_push : (pages : Pages) (m : Memory) (page : ℕ) (old new last : List ℕ) (b n : ℕ) → 0 < n → last ≡ new ++ word_in m (b + 1) ∷ [] → dies (word_in m) pages.page page (b, n) ≡ true → ((live : List Extent) (rest : List ℕ) → HasHeaders pages m live (page ∷ rest) → Among b n live) → BirthsTo pages m page old new b → BirthsTo pages m page old last (b + n)
births_push pages m page old new last b n some e dead here t =
    let f = birth_in (word_in m) in
    let y = word_in m (b + 1) in
    record {
      gathered = λ live rest h.
          let r = t.gathered live rest h in
          let t = dies (word_in m) pages.page page in
          let d = split_at (passes t) (passes_steady t) b n live (here live rest h) in
          let F = map f d.front in
          let L = map f d.back in
          let less : nat_lt b (b + n) ≡ true = grind (arith, nat_tests) in
          let same : nat_lt b b ≡ false = grind (arith, nat_tests) in
          let after : map f (filter (passes t (b + n)) live) ≡ F ++ y ∷ L = ap (map f) (d.behind ∙ ap (λ (c : Bool). d.front ++ cond c ((b, n) ∷ d.back) d.back) (ap (λ (c : Bool). c && nat_lt b (b + n)) dead ∙ less)) ∙ map_both f d.front ((b, n) ∷ d.back) in
          let was : map f (filter (passes t b) live) ≡ F ++ L = ap (map f) (d.before ∙ ap (λ (c : Bool). d.front ++ cond c ((b, n) ∷ d.back) d.back) (ap (λ (c : Bool). t (b, n) && c) same ∙ and_false (t (b, n)))) ∙ map_both f d.front d.back in
          let held : IsPermutation (F ++ L) r.0 = subst (λ (ys : List ℕ). IsPermutation ys r.0) was r.2 in (
            r.0 ++ y ∷ [],
            e ∙ ap (λ (ys : List ℕ). ys ++ y ∷ []) r.1 ∙ append_assoc old r.0 (y ∷ []),
            subst (λ (ys : List ℕ). IsPermutation ys (r.0 ++ y ∷ [])) (sym after)
                (IsPermutation-trans (F ++ y ∷ L) (y ∷ (F ++ L)) (r.0 ++ y ∷ []) (IsPermutation-middle F y L)
                (IsPermutation-trans (y ∷ (F ++ L)) (y ∷ r.0) (r.0 ++ y ∷ []) (IsPermutation-cons y (F ++ L) r.0 held)
                (IsPermutation-sym (r.0 ++ y ∷ []) (y ∷ r.0) (IsPermutation-to_front r.0 y)))),
          );
      holds = record { more = t.holds.more ++ y ∷ []; is = e ∙ ap (λ (ys : List ℕ). ys ++ y ∷ []) t.holds.is ∙ append_assoc old t.holds.more (y ∷ []) };
    }

-- all slots are passed
pub passes_all : (pages : Pages) (m : Memory) (page class : ℕ) (c : CanListBlocks pages m page) → class ≡ word_in m page → class ≢ 0 → (t : Extent → Bool) → ((x : Extent) → in_page pages.page page x ≡ false → t x ≡ false) → (live : List Extent) (waiting : List ℕ) → HasHeaders pages m live waiting → filter (passes t (word_in m (page + 3))) live ≡ filter t live
passes_all pages m page class c is_class some t out live waiting h =
    let w = word_in m in
    filter_same (passes t (w (page + 3))) t live
    (Each-map (λ x. in_page pages.page page x ≡ true → (page + 8 ≤ x.0) × (x.0 < w (page + 3))) (λ x. passes t (w (page + 3)) x ≡ t x) (λ x part. elim (in_page_cases pages.page page x) [
      | inl e ↦ (let high : x.0 < w (page + 3) = (part e).1 in ap (λ (b : Bool). t x && b) (let l : nat_lt x.0 (w (page + 3)) ≡ true = grind (arith, nat_tests) in l) ∙ and_true (t x))
      | inr e ↦ ap (λ (b : Bool). b && nat_lt x.0 (w (page + 3))) (out x e) ∙ sym (out x e)
    ]) live (page_part pages m page class c is_class some live waiting h))

module _ (pages : Pages) (m : Memory) (page class : ℕ) (c : CanListBlocks pages m page) (is_class : class ≡ word_in m page) (some : class ≢ 0) where
  pub births_slot : (i : ℕ) (old new last : List ℕ) → page + 8 + i * class + class ≤ word_in m (page + 3) → BirthsTo pages m page old new (page + 8 + i * class)
      → ((has_flag (word_in m (page + 8 + i * class)) Free ≡ true) × (last ≡ new)) ⊎ (((has_flag (word_in m (page + 8 + i * class)) Free ≡ false) × (survives_sweep (word_in m (page + 8 + i * class)) ≡ true) × (last ≡ new)) ⊎ ((has_flag (word_in m (page + 8 + i * class)) Free ≡ false) × (survives_sweep (word_in m (page + 8 + i * class)) ≡ false) × (last ≡ new ++ word_in m (page + 8 + i * class + 1) ∷ [])))
      → BirthsTo pages m page old last (page + 8 + (i + 1) * class)
  births_slot i old new last ends t which =
      let s = (listed_page pages m page c).slots (λ z. some (is_class ∙ z)) in
      let fresh_high : word_in m (page + 3) ≤ page + pages.page = s.fresh_high in
      let two : 2 ≤ class = subst (λ (k : ℕ). 2 ≤ k) (sym is_class) s.words in
      let b = page + 8 + i * class in
      let inside : b < word_in m (page + 3) = omega arith in
      let d = dies (word_in m) pages.page page in
      let next : b + class ≡ page + 8 + (i + 1) * class = (let e : (i + 1) * class ≡ i * class + class = grind arith in omega arith) in
      let here : in_page pages.page page (b, class) ≡ true = grind (arith, nat_tests) in
      let is : (v : Bool) → survives_sweep (word_in m b) ≡ v → d (b, class) ≡ not v = λ v e.
      ap (λ (x : Bool). x && not (survives_sweep (word_in m b))) here ∙ ap not e in
      let skip : last ≡ new → ((live : List Extent) (rest : List ℕ) → HasHeaders pages m live (page ∷ rest) → filter (passes d (b + class)) live ≡ filter (passes d b) live) → BirthsTo pages m page old last (b + class) = λ e same. subst (λ (xs : List ℕ). BirthsTo pages m page old xs (b + class)) (sym e) (births_skip pages m page old new b (b + class) same t) in
      subst (λ (place : ℕ). BirthsTo pages m page old last place) next (elim which [
        | inl h ↦ skip h.1 (λ live rest has. filter_steady (passes d) (passes_steady d) b (b + class) live (omega arith) (at_free pages m page class c is_class some i inside h.0 live (page ∷ rest) has))
        | inr k ↦ elim k [
          | inl h ↦ skip h.2 (λ live rest has. let p = split_at (passes d) (passes_steady d) b class live (at_live pages m page class c is_class some i inside h.0 live (page ∷ rest) has) in
              let out : (k : ℕ) → passes d k (b, class) ≡ false = λ k. ap (λ (v : Bool). v && nat_lt b k) (is true h.1) in
              p.behind ∙ ap (λ (v : Bool). p.front ++ cond v ((b, class) ∷ p.back) p.back) (out (b + class) ∙ sym (out b)) ∙ sym p.before)
          | inr h ↦ births_push pages m page old new last b class (omega arith) h.2 (is false h.1) (λ live rest has. at_live pages m page class c is_class some i inside h.0 live (page ∷ rest) has) t
        ]
      ])

  pub births_end : (old new : List ℕ) (place : ℕ) → place ≡ word_in m (page + 3) → BirthsTo pages m page old new place → GathersBirths pages m page old new
  births_end old new place e t = record {
    gathered = λ live rest h.
        let r = t.gathered live rest h in
        let d = dies (word_in m) pages.page page in
        (r.0, r.1, subst (λ (xs : List Extent). IsPermutation (map (birth_in (word_in m)) xs) r.0) (ap (λ (k : ℕ). filter (passes d k) live) e ∙ passes_all pages m page class c is_class some d (dies_in (word_in m) pages.page page) live (page ∷ rest) h) r.2);
  }

-- the words of the first waiting page that its slots rest on
pub record SweptPage (pages : Pages) (m : Memory) (page : ℕ) : Type 0 where
  pub can : CanListBlocks pages m page
  pub used : word_in m page ≢ 0
  pub all : HasAll m page (page + pages.page)
  pub slots : PageSlots (word_in m) pages.page page
  pub wide : 64 ≤ pages.page
  pub high : page + pages.page ≤ 1099511627776

pub swept_page : (pages : Pages) (m : Memory) (page : ℕ) → CanSweepAt pages m page → SweptPage pages m page
swept_page pages m page c =
    let w = sweep_page_is pages m page c in
    let can = can_list pages m page c in
    let g = listed_page pages m page can in
    let used : word_in m page ≢ 0 = λ z. let two : 2 ≤ word_in m page = w.used in omega arith in
    record { can = can; used = used; all = g.all; slots = g.slots used; wide = g.wide; high = g.high }

-- the slots of the first waiting page, by their numbers
module _ (pages : Pages) (m : Memory) (page class count : ℕ) (c : CanSweepAt pages m page) (is_class : class ≡ word_in m page) (is_count : count ≡ (word_in m (page + 3) - (page + 8)) / class) where
  all_slots : count ≡ (swept_page pages m page c).slots.slots
  all_slots = is_count ∙ slots_count (word_in m) pages.page page (word_in m (page + 3)) class (swept_page pages m page c).slots refl is_class

  pub slot_in : (i : ℕ) → i < count → page + 8 + i * class + class ≤ word_in m (page + 3)
  slot_in i below = slot_inside (word_in m) pages.page page i class (swept_page pages m page c).slots is_class (subst (λ (k : ℕ). i < k) all_slots below)

  pub slot_birth : (i : ℕ) → i < count → CanStore m (page + 8 + i * class + 1)
  slot_birth i below =
      let g = swept_page pages m page c in
      let ends = slot_in i below in
      let high : word_in m (page + 3) ≤ page + pages.page = g.slots.fresh_high in
      let two : 2 ≤ class = subst (λ (k : ℕ). 2 ≤ k) (sym is_class) g.slots.words in
      g.all (page + 8 + i * class + 1) (omega arith) (omega arith)

  pub slot_word : (i : ℕ) → i < count → CanStore m (page + 8 + i * class)
  slot_word i below =
      let g = swept_page pages m page c in
      let ends = slot_in i below in
      let high : word_in m (page + 3) ≤ page + pages.page = g.slots.fresh_high in
      let two : 2 ≤ class = subst (λ (k : ℕ). 2 ≤ k) (sym is_class) g.slots.words in
      g.all (page + 8 + i * class) (omega arith) (omega arith)

  pub slots_end : (i : ℕ) → i ≡ count → page + 8 + i * class ≡ word_in m (page + 3)
  slots_end i last =
      let g = swept_page pages m page c in
      let all : g.slots.slots * word_in m page + (page + 8) ≡ word_in m (page + 3) = g.slots.all in
      let e : i * class ≡ g.slots.slots * word_in m page = ap (λ (k : ℕ). k * class) (last ∙ all_slots) ∙ ap (λ (k : ℕ). g.slots.slots * k) is_class in omega arith
