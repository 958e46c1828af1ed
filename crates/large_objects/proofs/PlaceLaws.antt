-- Where the words of a large block lie, and which words stay as one comes or goes.
use Rattle.std.proofs.Common.{inl, inr, ◌≡◌, ℕ, ◌+◌, ◌<◌, ◌≤◌, ◌⊎◌, Bool, true, false, cond, List, [], ◌∷◌, ◌++◌, map, length, refl, sym, ap, ◌∙◌, arith, subst}
use Rattle.std.specs.Prelude.{filter}
use Rattle.std.proofs.lemmas.Bool.Decides.{nat_tests}
use Rattle.std.proofs.lemmas.Bool.{cases_Bool}
use Rattle.heap_space.specs.Runs.{within}
use Rattle.heap_space.specs.Places.{Placed, without_block, with_word, zeros_at, word_at, is_base, length_at, has, covers, begins, RiseTo, end_of}
use Rattle.heap_space.specs.Memory.{Memory, with_large, without_large}
use Rattle.heap_space.specs.Order.{IsInOrder}
use Rattle.heap_space.specs.Extents.{Extent, Each, extent_of, begins_between, extents_between, KeepsOutside}
use Rattle.heap_space.proofs.Blocks.{word_at-none, word_at-elsewhere, begins-base}
use Rattle.heap_space.proofs.Order.{word_at-with_large, has-without_large, word_at-without_large, has-next_large}
use Rattle.heap_space.proofs.ExtentLaws.{extents-elsewhere, extents-with_word, Each-out}
use Rattle.large_objects.specs.Blocks.{larges_of}
use Rattle.large_objects.proofs.Same.{Splits}
use Rattle.large_objects.proofs.MemoryLaws.{from-each, larges-below}
use Rattle.large_objects.proofs.LargeLaws.{larges-within}

-- an extent among those of some blocks is that of one of them

-- of y and the others, x is y or one of the others
pub splits-first : (x y : Extent) (ys : List Extent) → Splits x (y ∷ ys) → (y ≡ x) ⊎ Splits x ys
splits-first x y ys s = go s.front s.back s.is where
  go : (fs ls : List Extent) → y ∷ ys ≡ fs ++ x ∷ ls → (y ≡ x) ⊎ Splits x ys
  go [] ls e = inl cc
  go (f ∷ fs) ls e = inr (record { front = fs; back = ls; is = cc })

splits-later : (x y : Extent) (ys : List Extent) → Splits x ys → Splits x (y ∷ ys)
splits-later x y ys s = record { front = y ∷ s.front; back = s.back; is = ap (λ (zs : List Extent). y ∷ zs) s.is }

splits-kept : (t : Extent → Bool) (x y : Extent) (ys : List Extent) → Splits x (y ∷ filter t ys) → (Splits x (filter t ys) → Splits x ys) → Splits x (y ∷ ys)
splits-kept t x y ys s more = elim (splits-first x y (filter t ys) s) [
  | inl e ↦ record { front = []; back = ys; is = ap (λ (z : Extent). z ∷ ys) e }
  | inr r ↦ splits-later x y ys (more r)
]

splits-filter : (t : Extent → Bool) (x : Extent) (xs : List Extent) → Splits x (filter t xs) → Splits x xs
splits-filter t x [] s = s
splits-filter t x (y ∷ ys) s = elim (cases_Bool (t y)) [
  | inl h ↦ (let here : Splits x (y ∷ filter t ys) = rw h at s in splits-kept t x y ys here (λ r. splits-filter t x ys r))
  | inr h ↦ (let rest : Splits x (filter t ys) = rw h at s in let more = splits-filter t x ys rest in
      record { front = y ∷ more.front; back = more.back; is = ap (λ (zs : List Extent). y ∷ zs) more.is })
]

pub no-split : (x : Extent) → Splits x [] → ⊥
no-split x s = go s.front s.back s.is where
  go : (fs ls : List Extent) → [] ≡ fs ++ x ∷ ls → ⊥
  go [] ls e = cc
  go (f ∷ fs) ls e = cc

pub Each-splits : (P : Extent → Type 0) (x : Extent) (xs : List Extent) → Splits x xs → Each P xs → P x
Each-splits P x xs s all = (Each-out P s.front s.back x (subst (λ (zs : List Extent). Each P zs) s.is all)).0

pub is_base-extent : (ps : List Placed) (x : Extent) → 0 < x.1 → Splits x (map extent_of ps) → is_base ps x.0 ≡ true
is_base-extent [] x some s = absurd (no-split x s)
is_base-extent (p ∷ ps) x some s = elim (splits-first x (extent_of p) (map extent_of ps) s) [
  | inl e ↦ (let base : p.base ≡ x.0 = ap (λ (y : Extent). y.0) e in let size : length p.words ≡ x.1 = ap (λ (y : Extent). y.1) e in
      let here : begins p x.0 ≡ true = grind (arith, nat_tests) in rw here refl)
  | inr r ↦ (let more = is_base-extent ps x some r in grind (arith, more))
]

pub length_at-extent : (from end : ℕ) (ps : List Placed) (x : Extent) → 0 < x.1 → RiseTo from ps end → Splits x (map extent_of ps)
    → length_at ps x.0 ≡ x.1
length_at-extent from end [] x some r s = absurd (no-split x s)
length_at-extent from end (p ∷ ps) x some r s = elim (splits-first x (extent_of p) (map extent_of ps) s) [
  | inl e ↦ (let base : p.base ≡ x.0 = ap (λ (y : Extent). y.0) e in let size : length p.words ≡ x.1 = ap (λ (y : Extent). y.1) e in
      let here : begins p x.0 ≡ true = grind (arith, nat_tests) in rw here size)
  | inr q ↦ (let above : end_of p ≤ x.0 = Each-splits (λ y. end_of p ≤ y.0) x (map extent_of ps) q (from-each (end_of p) end ps r.1) in
      let here : begins p x.0 ≡ false = grind (arith, nat_tests) in
      rw here (length_at-extent (end_of p) end ps x some r.1 q))
]

is_second : (ps : List Placed) (x : Extent) → 2 ≤ x.1 → Splits x (map extent_of ps) → has ps (x.0 + 1) ≡ true
is_second [] x two s = absurd (no-split x s)
is_second (p ∷ ps) x two s = elim (splits-first x (extent_of p) (map extent_of ps) s) [
  | inl e ↦ (let base : p.base ≡ x.0 = ap (λ (y : Extent). y.0) e in let size : length p.words ≡ x.1 = ap (λ (y : Extent). y.1) e in
      let here : covers p (x.0 + 1) ≡ true = grind (arith, nat_tests) in rw here refl)
  | inr r ↦ (let more = is_second ps x two r in grind (arith, more))
]

-- the same of a large block

pub is_base-large : (m : Memory) (x : Extent) → 0 < x.1 → Splits x (larges_of m) → is_base m.blocks x.0 ≡ true
is_base-large m x some s = is_base-extent m.blocks x some (splits-filter (begins_between 1099511627776 9223372036854775808) x (map extent_of m.blocks) s)

pub length_at-large : (m : Memory) (x : Extent) → IsInOrder m → 0 < x.1 → Splits x (larges_of m) → length_at m.blocks x.0 ≡ x.1
length_at-large m x o some s =
    length_at-extent 1 m.next_large m.blocks x some o.rises (splits-filter (begins_between 1099511627776 9223372036854775808) x (map extent_of m.blocks) s)

pub second-large : (m : Memory) (x : Extent) → 2 ≤ x.1 → Splits x (larges_of m) → has m.blocks (x.0 + 1) ≡ true
second-large m x two s =
    is_second m.blocks x two (splits-filter (begins_between 1099511627776 9223372036854775808) x (map extent_of m.blocks) s)

-- which words stay

pub word_at-dropped : (m : Memory) (x : Extent) (e : ℕ) → IsInOrder m → 0 < x.1 → Splits x (larges_of m) → (e < x.0) ⊎ (x.0 + x.1 ≤ e)
    → word_at (without_large m x.0).blocks e ≡ word_at m.blocks e
word_at-dropped m x e o some s out =
    let base = is_base-large m x some s in
    let size = length_at-large m x o some s in
    let far : within x.0 (length_at m.blocks x.0) e ≡ false = rw size (elim out [ inl a ↦ grind (arith, nat_tests) | inr b ↦ grind (arith, nat_tests) ]) in
    let has_new = has-without_large m x.0 e o base in
    elim (cases_Bool (has m.blocks e)) [
      | inl h ↦ word_at-without_large m x.0 e o (has_new ∙ rw (h, far) refl)
      | inr h ↦ word_at-none (without_large m x.0).blocks e (has_new ∙ rw h refl) ∙ sym (word_at-none m.blocks e h)
    ]

pub word_at-new_large : (m : Memory) (n : ℕ) → IsInOrder m → word_at (with_large m n).blocks m.next_large ≡ 0
word_at-new_large m n o =
    word_at-with_large m n m.next_large o ∙ word_at-none m.blocks m.next_large (has-next_large m m.next_large o (omega arith))

-- what stays outside the large blocks' places

outside-from : (m new : Memory)
    → ((low high : ℕ) → (high ≤ 1099511627776) ⊎ (9223372036854775808 ≤ low) → extents_between low high new ≡ extents_between low high m)
    → ((e : ℕ) → (e < 1099511627776) ⊎ (9223372036854775808 ≤ e) → word_at new.blocks e ≡ word_at m.blocks e)
    → KeepsOutside 1099511627776 9223372036854775808 m new
outside-from m new blocks words = record {
  below = record { blocks = blocks 0 1099511627776 (inl (omega arith)); words = λ a low high out. words a (inl high) };
  above = λ end. record { blocks = blocks 9223372036854775808 end (inr (omega arith)); words = λ a low high out. words a (inr low) };
}

not-between : (low high : ℕ) (x : Extent) → 1099511627776 ≤ x.0 → x.0 < 9223372036854775808 → (high ≤ 1099511627776) ⊎ (9223372036854775808 ≤ low)
    → begins_between low high x ≡ false
not-between low high x l h out = elim out [ inl a ↦ grind (arith, nat_tests) | inr b ↦ grind (arith, nat_tests) ]

pub outside-with_large : (m : Memory) (n : ℕ) → IsInOrder m → KeepsOutside 1099511627776 9223372036854775808 m (with_large m n)
outside-with_large m n o =
    let q = zeros_at m.next_large n in
    outside-from m (with_large m n)
    (λ low high out. extents-elsewhere m (with_large m n) low high q refl (not-between low high (extent_of q) o.large_above o.large_small out))
    (λ e out. word_at-with_large m n e o)

between-others : (low high a : ℕ) (ps : List Placed) → ((n : ℕ) → begins_between low high (a, n) ≡ false)
    → filter (begins_between low high) (map extent_of (without_block ps a)) ≡ filter (begins_between low high) (map extent_of ps)
between-others low high a [] out = refl
between-others low high a (p ∷ ps) out =
    let more = between-others low high a ps out in
    elim (cases_Bool (begins p a)) [
      | inl h ↦ (let none : begins_between low high (extent_of p) ≡ false =
          ap (λ (b : ℕ). begins_between low high (b, length p.words)) (begins-base p a h) ∙ out (length p.words) in
          rw (h, none) more)
      | inr h ↦ (let tail : List Extent = filter (begins_between low high) (map extent_of (without_block ps a)) in
          rw h (ap (λ (xs : List Extent). cond (begins_between low high (extent_of p)) (extent_of p ∷ xs) xs) more))
    ]

pub outside-without_large : (m : Memory) (x : Extent) → IsInOrder m → 0 < x.1 → Splits x (larges_of m)
    → KeepsOutside 1099511627776 9223372036854775808 m (without_large m x.0)
outside-without_large m x o some s =
    let place = Each-splits (λ y. (1099511627776 ≤ y.0) × (y.0 < 9223372036854775808)) x (larges_of m) s (larges-within m) in
    let end = Each-splits (λ y. y.0 + y.1 ≤ m.next_large) x (larges_of m) s (larges-below m o) in
    let small = o.large_small in
    outside-from m (without_large m x.0)
    (λ low high out. between-others low high x.0 m.blocks (λ n. not-between low high (x.0, n) place.0 place.1 out))
    (λ e out. word_at-dropped m x e o some s (elim out [ inl a ↦ inl (omega (arith, place.0)) | inr b ↦ inr (omega arith) ]))

pub outside-written : (m : Memory) (a v : ℕ) → 1099511627776 ≤ a → a < 9223372036854775808
    → KeepsOutside 1099511627776 9223372036854775808 m (record m { blocks = with_word m.blocks a v })
outside-written m a v low high =
    outside-from m (record m { blocks = with_word m.blocks a v })
    (λ from end out. ap (λ (xs : List Extent). filter (begins_between from end) xs) (extents-with_word m.blocks a v))
    (λ e out. word_at-elsewhere m.blocks a v e (λ same. elim out [ inl p ↦ omega (arith, same) | inr q ↦ omega (arith, same) ]))

pub outside-same : (m new : Memory) → new.blocks ≡ m.blocks → KeepsOutside 1099511627776 9223372036854775808 m new
outside-same m new e =
    outside-from m new (λ low high out. ap (λ (ps : List Placed). filter (begins_between low high) (map extent_of ps)) e) (λ a out. ap (λ (ps : List Placed). word_at ps a) e)
