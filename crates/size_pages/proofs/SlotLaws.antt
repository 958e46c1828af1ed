-- The blocks of a page, one after another: each is free or live, and its first word tells which.
use Rattle.std.proofs.Common.{◌≡◌, ◌≢◌, ℕ, ◌+◌, ◌*◌, ◌<◌, ◌≤◌, ◌⊎◌, inl, inr, Bool, true, false, cond, List, [], ◌∷◌, ◌++◌, length, arith, sym, ◌∙◌, ap}
use Rattle.std.proofs.Math.Nat.{mul-le-mul_right}
use Rattle.std.proofs.lemmas.Bool.{cases_lt}
use Rattle.std.proofs.lemmas.Bool.Decides.{nat_tests}
use Rattle.std.specs.List.{filter}
use Rattle.heap_space.specs.Memory.{Memory}
use Rattle.heap_space.specs.Extents.{Extent, Each, IsApart}
use Rattle.heap_space.proofs.ExtentLaws.{Each-map, Each-both, Each-left, Each-right, AreApart-between}
use Rattle.size_pages.specs.PageWords.{Words, word_in}
use Rattle.size_pages.specs.PageBlocks.{Chain, IsBlockOf, BeginsAt, PageHolds}
use Rattle.size_pages.specs.LiveBlocks.{page_at, blocks_of, in_page, PageIs, IsInPages}
use Rattle.size_pages.specs.HasBlocks.{HasBlocks}
use Rattle.size_pages.specs.declared.Pages.{Pages}
use Rattle.size_pages.proofs.FitLaws.{each_by_test}
use Rattle.size_pages.proofs.SplitLaws.{Among, among}

-- no block of them has a word from low on and below high
abbrev pub AreAway : ℕ → ℕ → List Extent → Type 0
AreAway low high xs = Each (λ y. (y.0 < low) ⊎ (high ≤ y.0)) xs

chain_words : (w : Words) (n p : ℕ) (free : List Extent) → Chain w n p free → Each (λ f. w f.0 ≡ 4194304) free
chain_words w n p [] c = tt
chain_words w n p (x ∷ xs) c = (ap w (sym c.0) ∙ c.2, chain_words w n (w (p + 1)) xs c.3)

pub begins_either : (a : ℕ) (fs ls : List Extent) → BeginsAt a (fs ++ ls) → BeginsAt a fs ⊎ BeginsAt a ls
begins_either a [] ls h = inr h
begins_either a (f ∷ fs) ls h = elim h [ inl e ↦ inl (inl e) | inr t ↦ elim (begins_either a fs ls t) [ inl i ↦ inl (inr i) | inr j ↦ inr j ] ]

pub each_begins : (P : Extent → Type 0) (a : ℕ) (xs : List Extent) → Each P xs → BeginsAt a xs → (x : Extent) × (x.0 ≡ a) × P x
each_begins P a [] all h = absurd h
each_begins P a (x ∷ xs) all h = elim h [ inl e ↦ (x, e, all.0) | inr t ↦ each_begins P a xs all.1 t ]

begins_case : (b : Bool) (x : Extent) (a : ℕ) (kept xs : List Extent) → (BeginsAt a kept → BeginsAt a xs) → BeginsAt a (cond b (x ∷ kept) kept) → BeginsAt a (x ∷ xs)
begins_case true x a kept xs more h = elim h [ inl e ↦ inl e | inr t ↦ inr (more t) ]
begins_case false x a kept xs more h = inr (more h)

begins_filter : (t : Extent → Bool) (a : ℕ) (xs : List Extent) → BeginsAt a (filter t xs) → BeginsAt a xs
begins_filter t a [] h = h
begins_filter t a (x ∷ xs) h = begins_case (t x) x a (filter t xs) xs (begins_filter t a xs) h

-- a free block of a page: its first word, and that the live blocks of the page are away from it
pub record IsFreeAt (w : Words) (b n : ℕ) (live : List Extent) : Type 0 where
  pub word : w b ≡ 4194304
  pub away : AreAway b (b + n) live

free_or_live : (w : Words) (size p b : ℕ) (free live : List Extent) → PageHolds w size p free live → BeginsAt b (free ++ live) → IsFreeAt w b (w p) live ⊎ BeginsAt b live
free_or_live w size p b free live h begins = elim (begins_either b free live begins) [
  | inl i ↦ inl (let n = w p in
      let lives : Each (IsBlockOf n (p + 8) (w (p + 3))) live = Each-right (IsBlockOf n (p + 8) (w (p + 3))) free live h.blocks in
      let frees : Each (IsBlockOf n (p + 8) (w (p + 3))) free = Each-left (IsBlockOf n (p + 8) (w (p + 3))) free live h.blocks in
      let both : Each (λ f. (w f.0 ≡ 4194304) × IsBlockOf n (p + 8) (w (p + 3)) f × Each (IsApart f) live) free =
      Each-both (λ f. (w f.0 ≡ 4194304) × IsBlockOf n (p + 8) (w (p + 3)) f) (λ f. Each (IsApart f) live) (λ f. (w f.0 ≡ 4194304) × IsBlockOf n (p + 8) (w (p + 3)) f × Each (IsApart f) live) (λ f a c. (a.0, a.1, c)) free
      (Each-both (λ f. w f.0 ≡ 4194304) (IsBlockOf n (p + 8) (w (p + 3))) (λ f. (w f.0 ≡ 4194304) × IsBlockOf n (p + 8) (w (p + 3)) f) (λ f a c. (a, c)) free (chain_words w n (w (p + 1)) free h.chain) frees)
      (AreApart-between free live h.apart) in
      let f = each_begins (λ f. (w f.0 ≡ 4194304) × IsBlockOf n (p + 8) (w (p + 3)) f × Each (IsApart f) live) b free both i in
      let at : f.0.0 ≡ b = f.1 in
      let wide : f.0.1 ≡ n = f.2.1.0 in
      let two : 2 ≤ n = h.words in
      record {
        word = ap w (sym at) ∙ f.2.0;
        away = Each-both (IsBlockOf n (p + 8) (w (p + 3))) (IsApart f.0) (λ y. (y.0 < b) ⊎ (b + n ≤ y.0)) (λ y is a. let size_y : y.1 ≡ n = is.0 in elim a [ inl x ↦ inr (omega arith) | inr z ↦ inl (omega arith) ]) live lives f.2.2;
      })
  | inr j ↦ inr j
]

away_elsewhere : (size count k b high : ℕ) (y : Extent) → page_at size k ≤ b → high ≤ page_at size k + size → IsInPages size count y → in_page size (page_at size k) y ≡ false → (y.0 < b) ⊎ (high ≤ y.0)
away_elsewhere size count k b high y low up is out = grind (arith, nat_tests)

-- the live blocks of a page are away, so all are
pub all_away : (size count k b high : ℕ) (live : List Extent) → page_at size k ≤ b → high ≤ page_at size k + size → Each (IsInPages size count) live → AreAway b high (blocks_of size (page_at size k) live) → AreAway b high live
all_away size count k b high live low up inside here =
    each_by_test (in_page size (page_at size k)) (λ y. (y.0 < b) ⊎ (high ≤ y.0)) live here
    (Each-map (IsInPages size count) (λ y. in_page size (page_at size k) y ≡ false → (y.0 < b) ⊎ (high ≤ y.0)) (λ y is out. away_elsewhere size count k b high y low up is out) live inside)

-- the words of a page in use that its slots rest on
pub record PageSlots (w : Words) (size p : ℕ) : Type 0 where
  pub words : 2 ≤ w p
  pub fresh_low : p + 8 ≤ w (p + 3)
  pub fresh_high : w (p + 3) ≤ p + size
  pub slots : ℕ
  pub all : slots * w p + (p + 8) ≡ w (p + 3)

pub page_slots : (w : Words) (size p : ℕ) (live : List Extent) → PageIs w size p live → w p ≢ 0 → PageSlots w size p
page_slots w size p live is used =
    let h = is.holds used in record { words = h.words; fresh_low = h.fresh_low; fresh_high = h.fresh_high; slots = length is.free + length live; all = h.all }

-- a slot that begins below the first word never handed out ends there at most
pub slot_ends : (slots i n low high : ℕ) → 2 ≤ n → slots * n + low ≡ high → low + i * n < high → low + i * n + n ≤ high
slot_ends slots i n low high two all inside = elim (cases_lt i slots) [
  | inl a ↦ (let m : (i + 1) * n ≤ slots * n = grind (arith, mul-le-mul_right) in let d : (i + 1) * n ≡ i * n + n = grind arith in omega arith)
  | inr b ↦ absurd (let m : slots * n ≤ i * n = grind (arith, mul-le-mul_right) in omega arith)
]

away_sized : (size p b : ℕ) (live : List Extent) → ((x : Extent) → in_page size p x ≡ false → x.0 ≡ b → ⊥) → (n : ℕ) → Each (λ x. in_page size p x ≡ false → x.0 ≡ b → x.1 ≡ n) live
away_sized size p b [] never n = tt
away_sized size p b (x ∷ xs) never n = (λ out e. absurd (never x out e), away_sized size p b xs never n)

in_page_at : (size p b : ℕ) (x : Extent) → p ≤ b → b < p + size → in_page size p x ≡ false → x.0 ≡ b → ⊥
in_page_at size p b x low high out e = let here : in_page size p x ≡ true = grind (arith, nat_tests) in absurd (cc)

-- what is at a slot: a free block, or a live one
pub slot_is : (pages : Pages) (m : Memory) (live : List Extent) (waiting : List ℕ) (k i : ℕ) → HasBlocks pages m live waiting → k < pages.count → word_in m (page_at pages.page k) ≢ 0
    → page_at pages.page k + 8 + i * word_in m (page_at pages.page k) < word_in m (page_at pages.page k + 3)
    → IsFreeAt (word_in m) (page_at pages.page k + 8 + i * word_in m (page_at pages.page k)) (word_in m (page_at pages.page k)) live
    ⊎ Among (page_at pages.page k + 8 + i * word_in m (page_at pages.page k)) (word_in m (page_at pages.page k)) live
slot_is pages m live waiting k i f below used inside =
    let size = pages.page in
    let p = page_at size k in
    let w = word_in m in
    let n = w p in
    let b = p + 8 + i * n in
    let is = f.blocks.pages k below in
    let h = is.holds used in
    let two : 2 ≤ n = h.words in
    let fresh : w (p + 3) ≤ p + size = h.fresh_high in
    let last : b + n ≤ w (p + 3) = slot_ends (length is.free + length (blocks_of size p live)) i n (p + 8) (w (p + 3)) two h.all inside in
    let lives : Each (IsBlockOf n (p + 8) (w (p + 3))) (blocks_of size p live) = Each-right (IsBlockOf n (p + 8) (w (p + 3))) is.free (blocks_of size p live) h.blocks in
    elim (free_or_live w size p b is.free (blocks_of size p live) h (h.filled i inside)) [
      | inl g ↦ inl (record { word = g.word; away = all_away size pages.count k b (b + n) live (omega arith) (omega arith) f.blocks.inside g.away })
      | inr t ↦ inr (among b n live (begins_filter (in_page size p) b live t) f.blocks.apart
          (Each-map (IsInPages size pages.count) (λ x. 2 ≤ x.1) (λ x is. is.wide) live f.blocks.inside)
          (each_by_test (in_page size p) (λ x. x.0 ≡ b → x.1 ≡ n) live
          (Each-map (IsBlockOf n (p + 8) (w (p + 3))) (λ x. x.0 ≡ b → x.1 ≡ n) (λ x is e. is.0) (blocks_of size p live) lives)
          (away_sized size p b live (λ x out e. in_page_at size p b x (omega arith) (omega arith) out e) n)))
    ]
