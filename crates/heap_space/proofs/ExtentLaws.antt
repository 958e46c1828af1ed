-- Laws of extents, for the layers that hand out blocks: lists of them, and what a write or a new block leaves alone.
use Rattle.std.proofs.Common.{◌⊎◌, inl, inr, ◌≡◌, ℕ, ◌+◌, ◌-◌, ◌<◌, ◌≤◌, inl, inr, Bool, true, false, ◌||◌, ◌&&◌, nat_le, nat_lt, cond, List, [], ◌∷◌, ◌++◌, map, refl, sym, ap, ◌∙◌, arith}
use Rattle.std.proofs.lemmas.Bool.{cases_Bool}
use Rattle.std.proofs.lemmas.Bool.Decides.{nat_tests}
use Rattle.std.specs.List.{filter}
use Rattle.heap_space.specs.Places.{end_of, Placed, has, covers, spans, lies_in_one, word_at, with_word, with_block, zeros_at}
use Rattle.heap_space.specs.Memory.{Memory}
use Rattle.heap_space.specs.Extents.{Extent, Each, IsApart, AreApart, extent_of, begins_between, extents_between, lies_within}
use Rattle.heap_space.proofs.Blocks.{length-written, word_at-with_block, word_at-new, word_at-none, length-zeros_at, covers-inside}
use Rattle.std.proofs.lemmas.List.{get_or-replicate}

-- lists of extents

pub Each-map : (P Q : Extent → Type 0) → ((x : Extent) → P x → Q x) → (xs : List Extent) → Each P xs → Each Q xs
Each-map P Q f [] all = tt
Each-map P Q f (x ∷ xs) all = (f x all.0, Each-map P Q f xs all.1)

pub Each-both : (P Q R : Extent → Type 0) → ((x : Extent) → P x → Q x → R x) → (xs : List Extent) → Each P xs → Each Q xs → Each R xs
Each-both P Q R f [] p q = tt
Each-both P Q R f (x ∷ xs) p q = (f x p.0 q.0, Each-both P Q R f xs p.1 q.1)

pub Each-left : (P : Extent → Type 0) (xs ys : List Extent) → Each P (xs ++ ys) → Each P xs
Each-left P [] ys all = tt
Each-left P (x ∷ xs) ys all = (all.0, Each-left P xs ys all.1)

pub Each-right : (P : Extent → Type 0) (xs ys : List Extent) → Each P (xs ++ ys) → Each P ys
Each-right P [] ys all = all
Each-right P (x ∷ xs) ys all = Each-right P xs ys all.1

pub Each-join : (P : Extent → Type 0) (xs ys : List Extent) → Each P xs → Each P ys → Each P (xs ++ ys)
Each-join P [] ys all more = more
Each-join P (x ∷ xs) ys all more = (all.0, Each-join P xs ys all.1 more)

pub Each-into : (P : Extent → Type 0) (fs ls : List Extent) (x : Extent) → P x → Each P (fs ++ ls) → Each P (fs ++ x ∷ ls)
Each-into P [] ls x h all = (h, all)
Each-into P (f ∷ fs) ls x h all = (all.0, Each-into P fs ls x h all.1)

pub Each-out : (P : Extent → Type 0) (fs ls : List Extent) (x : Extent) → Each P (fs ++ x ∷ ls) → P x × Each P (fs ++ ls)
Each-out P [] ls x all = all
Each-out P (f ∷ fs) ls x all = let out = Each-out P fs ls x all.1 in (out.0, (all.0, out.1))

pub IsApart-flip : (x y : Extent) → IsApart x y → IsApart y x
IsApart-flip x y h = elim h [ inl a ↦ inr a | inr b ↦ inl b ]

pub AreApart-into : (fs ls : List Extent) (x : Extent) → AreApart (x ∷ (fs ++ ls)) → AreApart (fs ++ x ∷ ls)
AreApart-into [] ls x h = h
AreApart-into (f ∷ fs) ls x h =
    (Each-into (IsApart f) fs ls x (IsApart-flip x f h.0.0) h.1.0, AreApart-into fs ls x (h.0.1, h.1.1))

pub AreApart-out : (fs ls : List Extent) (x : Extent) → AreApart (fs ++ x ∷ ls) → AreApart (x ∷ (fs ++ ls))
AreApart-out [] ls x h = h
AreApart-out (f ∷ fs) ls x h =
    let one = Each-out (IsApart f) fs ls x h.0 in let rest = AreApart-out fs ls x h.1 in
    ((IsApart-flip f x one.0, rest.0), (one.1, rest.1))

-- those before a cut are apart from those behind it
pub AreApart-between : (fs ls : List Extent) → AreApart (fs ++ ls) → Each (λ f. Each (IsApart f) ls) fs
AreApart-between [] ls h = tt
AreApart-between (f ∷ fs) ls h = (Each-right (IsApart f) fs ls h.0, AreApart-between fs ls h.1)

pub AreApart-right : (fs ls : List Extent) → AreApart (fs ++ ls) → AreApart ls
AreApart-right [] ls h = h
AreApart-right (f ∷ fs) ls h = AreApart-right fs ls h.1

-- extents and the blocks of a memory

has_within : List Extent → ℕ → Bool
has_within [] a = false
has_within (x ∷ xs) a = (nat_le x.0 a && nat_lt a (x.0 + x.1)) || has_within xs a

has-within : (ps : List Placed) (a : ℕ) → has ps a ≡ has_within (map extent_of ps) a
unfolding has_within
has-within [] a = refl
has-within (p ∷ ps) a = ap (λ b. covers p a || b) (has-within ps a)

-- where the blocks lie tells which places are there
pub has-by_extents : (ps qs : List Placed) → map extent_of ps ≡ map extent_of qs → (a : ℕ) → has ps a ≡ has qs a
has-by_extents ps qs e a = has-within ps a ∙ ap (λ (xs : List Extent). has_within xs a) e ∙ sym (has-within qs a)

pub lies_in_one-extents : (ps : List Placed) (a n : ℕ) → lies_in_one ps a n ≡ lies_within (map extent_of ps) a n
lies_in_one-extents [] a n = refl
lies_in_one-extents (p ∷ ps) a n = ap (λ b. spans p a n || b) (lies_in_one-extents ps a n)

within-case : (b : Bool) (x : Extent) (xs kept : List Extent) (a n : ℕ) → (lies_within kept a n ≡ true → lies_within xs a n ≡ true)
    → lies_within (cond b (x ∷ kept) kept) a n ≡ true → lies_within (x ∷ xs) a n ≡ true
within-case true x xs kept a n more h = grind (arith)
within-case false x xs kept a n more h = grind (arith)

-- what lies in one of some extents lies in one of them all
pub lies_within-filter : (t : Extent → Bool) (xs : List Extent) (a n : ℕ) → lies_within (filter t xs) a n ≡ true → lies_within xs a n ≡ true
lies_within-filter t [] a n h = h
lies_within-filter t (x ∷ xs) a n h = within-case (t x) x xs (filter t xs) a n (lies_within-filter t xs a n) h

pub lies_in_one-between : (m : Memory) (low high a n : ℕ) → lies_within (extents_between low high m) a n ≡ true → lies_in_one m.blocks a n ≡ true
lies_in_one-between m low high a n h =
    lies_in_one-extents m.blocks a n ∙ lies_within-filter (begins_between low high) (map extent_of m.blocks) a n h

-- a part of places that lie in one extent
pub lies_within-part : (xs : List Extent) (a n b k : ℕ) → a ≤ b → b + k ≤ a + n → lies_within xs a n ≡ true → lies_within xs b k ≡ true
lies_within-part [] a n b k low high h = h
lies_within-part (x ∷ xs) a n b k low high h = grind (arith, nat_tests, lies_within-part xs a n b k low high)

-- a write
pub extents-with_word : (ps : List Placed) (a v : ℕ) → map extent_of (with_word ps a v) ≡ map extent_of ps
extents-with_word [] a v = refl
extents-with_word (p ∷ ps) a v =
    let len = length-written a v p in
    ap (λ (n : ℕ). (p.base, n) ∷ map extent_of (with_word ps a v)) len ∙ ap (λ (xs : List Extent). extent_of p ∷ xs) (extents-with_word ps a v)

-- a new block

between-skip : (t : Extent → Bool) (ps : List Placed) (q : Placed) → t (extent_of q) ≡ false
    → filter t (map extent_of (with_block ps q)) ≡ filter t (map extent_of ps)
between-skip t [] q h = grind (arith)
between-skip t (p ∷ ps) q h = grind (arith, between-skip t ps q h)

-- a block that begins elsewhere
pub extents-elsewhere : (m new : Memory) (low high : ℕ) (q : Placed) → new.blocks ≡ with_block m.blocks q → begins_between low high (extent_of q) ≡ false
    → extents_between low high new ≡ extents_between low high m
extents-elsewhere m new low high q e h =
    ap (λ (ps : List Placed). filter (begins_between low high) (map extent_of ps)) e ∙ between-skip (begins_between low high) m.blocks q h

-- adding words of 0 where nothing was changes no word
pub word_at-zeros : (ps : List Placed) (a n : ℕ) → ((b : ℕ) → a ≤ b → b < a + n → has ps b ≡ false) → (b : ℕ) → word_at (with_block ps (zeros_at a n)) b ≡ word_at ps b
word_at-zeros ps a n free b = elim (cases_Bool (covers (zeros_at a n) b)) [
  | inl h ↦ (let i = covers-inside (zeros_at a n) b h in let len = length-zeros_at a n in
      let out : has ps b ≡ false = free b i.0 (omega (arith, i.1)) in
      word_at-new ps (zeros_at a n) b h out ∙ get_or-replicate n (b - a) 0 0 (omega (arith, i.0, i.1)) ∙ sym (word_at-none ps b out))
  | inr h ↦ word_at-with_block ps (zeros_at a n) b h
]

-- fewer of the extents pass the first test than the second
pub lies_within-between : (xs : List Extent) (low high more a n : ℕ) → high ≤ more → lies_within (filter (begins_between low high) xs) a n ≡ true → lies_within (filter (begins_between low more) xs) a n ≡ true
lies_within-between [] low high more a n up h = h
lies_within-between (x ∷ xs) low high more a n up h = grind (arith, nat_tests, lies_within-between xs low high more a n up)

-- the places lie in the new block, which begins between low and high
abbrev pub IsInNew : Placed → ℕ → ℕ → ℕ → ℕ → Type 0
IsInNew q low high a n = (low ≤ q.base) × (q.base < high) × (q.base ≤ a) × (a + n ≤ end_of q)

within-block : (ps : List Placed) (q : Placed) (low high a n : ℕ) → IsInNew q low high a n ⊎ (lies_within (filter (begins_between low high) (map extent_of ps)) a n ≡ true)
    → lies_within (filter (begins_between low high) (map extent_of (with_block ps q))) a n ≡ true
within-block [] q low high a n h = elim h [ inl i ↦ grind (arith, nat_tests) | inr e ↦ absurd (cc) ]
within-block (p ∷ ps) q low high a n h = grind (arith, nat_tests, within-block ps q low high a n)

-- what lies in a block of the memory, or in the new one
pub lies_within-with_block : (m new : Memory) (low high more : ℕ) (q : Placed) (a n : ℕ) → new.blocks ≡ with_block m.blocks q → high ≤ more
    → IsInNew q low more a n ⊎ (lies_within (extents_between low high m) a n ≡ true) → lies_within (extents_between low more new) a n ≡ true
lies_within-with_block m new low high more q a n e up h =
    ap (λ (ps : List Placed). lies_within (filter (begins_between low more) (map extent_of ps)) a n) e
    ∙ within-block m.blocks q low more a n (elim h [ inl i ↦ inl i | inr w ↦ inr (lies_within-between (map extent_of m.blocks) low high more a n up w) ])
