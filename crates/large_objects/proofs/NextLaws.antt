-- A block of a memory, and the block that is swept next.
use Rattle.std.proofs.Common.{inl, inr, ◌≡◌, ℕ, ◌+◌, ◌<◌, ◌≤◌, true, false, List, [], ◌∷◌, sym, ap, ◌∙◌, arith, subst}
use Rattle.std.specs.Prelude.{filter}
use Rattle.std.specs.BTreeMap.Range.{range_contains}
use Rattle.std.specs.declared.ops.Bound.TheVariants.{Included, Unbounded}
use Rattle.std.specs.Ordering.{nat_cmp}
use Rattle.std.proofs.lemmas.Bool.{cases_Bool}
use Rattle.std.proofs.lemmas.Bool.Decides.{nat_tests}
use Rattle.heap_space.specs.Places.{has, is_base}
use Rattle.heap_space.specs.Memory.{Memory}
use Rattle.heap_space.specs.Extents.{Extent, begins_between}
use Rattle.heap_space.proofs.Blocks.{is_base-has}
use Rattle.large_objects.specs.Blocks.{larges_of, places_of, AreRising}
use Rattle.large_objects.specs.Large.{HasBlocks, IsNext}
use Rattle.large_objects.specs.declared.Large.{Large}
use Rattle.large_objects.proofs.Same.{Splits, same-splits, same-permutation}
use Rattle.large_objects.proofs.Rising.{waiting-first}
use Rattle.large_objects.proofs.PlaceLaws.{no-split, splits-first, Each-splits, is_base-large, second-large}
use Rattle.large_objects.proofs.LargeLaws.{larges-within}

-- a large block of two words or more begins at a
pub record IsBlock (m : Memory) (a : ℕ) : Type 0 where
  pub words : ℕ
  pub splits : Splits (a, words) (larges_of m)
  pub wide : 2 ≤ words

-- a live block is one of them
pub live-splits : (large : Large) (m : Memory) (x : Extent) (live : List Extent) (waiting : List ℕ) → HasBlocks large m (x ∷ live) waiting → Splits x (larges_of m)
live-splits large m x live waiting h = same-splits x (larges_of m) live (same-permutation (larges_of m) (x ∷ live) h.same)

pub live-block : (large : Large) (m : Memory) (a n : ℕ) (live : List Extent) (waiting : List ℕ) → HasBlocks large m ((a, n) ∷ live) waiting → IsBlock m a
live-block large m a n live waiting h =
    let at = live-splits large m (a, n) live waiting h in
    record { words = n; splits = at; wide = Each-splits (λ x. 2 ≤ x.1) (a, n) (larges_of m) at h.wide }

pub next-block : (large : Large) (m : Memory) (a : ℕ) → IsNext large m a → IsBlock m a
next-block large m a next =
    let h = next.blocks in
    let first = waiting-first large.wait_from large.wait_end a (larges_of m) next.waiting (sym h.waits) in
    record { words = first.words; splits = first.splits; wide = Each-splits (λ x. 2 ≤ x.1) (a, first.words) (larges_of m) first.splits h.wide }

pub block-within : (m : Memory) (a : ℕ) → IsBlock m a → (1099511627776 ≤ a) × (a < 9223372036854775808)
block-within m a b = Each-splits (λ x. (1099511627776 ≤ x.0) × (x.0 < 9223372036854775808)) (a, b.words) (larges_of m) b.splits (larges-within m)

pub block-base : (m : Memory) (a : ℕ) → IsBlock m a → is_base m.blocks a ≡ true
block-base m a b = let two = b.wide in is_base-large m (a, b.words) (omega arith) b.splits

pub block-has : (m : Memory) (a : ℕ) → IsBlock m a → has m.blocks a ≡ true
block-has m a b = is_base-has m.blocks a (block-base m a b)

pub block-second : (m : Memory) (a : ℕ) → IsBlock m a → has m.blocks (a + 1) ≡ true
block-second m a b = second-large m (a, b.words) b.wide b.splits

-- the first entry from a place on

from-test : (from q : ℕ) → range_contains nat_cmp (Included from) Unbounded q ≡ true → from ≤ q
from-test from q h = grind (arith, nat_tests)

from-passes : (from q : ℕ) → from ≤ q → range_contains nat_cmp (Included from) Unbounded q ≡ true
from-passes from q h = grind (arith, nat_tests)

pub lowest-first : (from end b : ℕ) (xs : List Extent) (x : Extent) (rest : List Extent) (waiting : List ℕ) → AreRising xs
    → filter (λ e. range_contains nat_cmp (Included from) Unbounded e.0) xs ≡ x ∷ rest
    → places_of (filter (begins_between from end) xs) ≡ b ∷ waiting → x.0 ≡ b
lowest-first from end b [] x rest waiting r e f = cc
lowest-first from end b (y ∷ ys) x rest waiting r e f =
    elim (cases_Bool (range_contains nat_cmp (Included from) Unbounded y.0)) [
      | inl h ↦ (let e' = rw h at e in let same : y ≡ x = cc in
          let low = from-test from y.0 h in
          let first = waiting-first from end b (y ∷ ys) waiting f in
          let up : y.0 ≤ b = elim (splits-first (b, first.words) y ys first.splits) [
            | inl p ↦ (let q = ap (λ (z : Extent). z.0) p in omega arith)
            | inr p ↦ (let q = Each-splits (λ z. y.0 + y.1 ≤ z.0) (b, first.words) ys p r.0 in omega arith)
          ] in
          let high = first.high in
          let here : begins_between from end y ≡ true = grind (arith, nat_tests) in
          let f' = rw here at f in let is : y.0 ≡ b = cc in ap (λ (z : Extent). z.0) (sym same) ∙ is)
      | inr h ↦ (let e' = rw h at e in
          let out : begins_between from end y ≡ false = elim (cases_Bool (begins_between from end y)) [
            | inl t ↦ (let low : from ≤ y.0 = grind (arith, nat_tests) in let p = from-passes from y.0 low in cc)
            | inr t ↦ t
          ] in
          let f' = rw out at f in lowest-first from end b ys x rest waiting r.1 e' f')
    ]

pub lowest-some : (from : ℕ) (b : Extent) (xs : List Extent) → from ≤ b.0 → Splits b xs
    → filter (λ e. range_contains nat_cmp (Included from) Unbounded e.0) xs ≡ [] → ⊥
lowest-some from b [] low s e = no-split b s
lowest-some from b (y ∷ ys) low s e = elim (cases_Bool (range_contains nat_cmp (Included from) Unbounded y.0)) [
  | inl h ↦ (let e' = rw h at e in cc)
  | inr h ↦ (let e' = rw h at e in elim (splits-first b y ys s) [
    | inl p ↦ (let same : b.0 ≡ y.0 = ap (λ (z : Extent). z.0) (sym p) in
        let low' : from ≤ y.0 = omega arith in let t = from-passes from y.0 low' in cc)
    | inr q ↦ lowest-some from b ys low q e'
  ])
]

-- the place at which a sweep goes on

pub next-from : (large : Large) (m : Memory) (a : ℕ) (live : List Extent) (waiting : List ℕ) → HasBlocks large m live waiting → 0 < large.waiting
    → ((b : ℕ) (rest : List ℕ) → HasBlocks large m live (b ∷ rest) → a ≡ b) → IsNext large m a
next-from large m a live [] h some first = absurd (let e = h.counted in omega (arith, e))
next-from large m a live (b ∷ rest) h some first =
    record { live = live; waiting = rest; blocks = subst (λ (c : ℕ). HasBlocks large m live (c ∷ rest)) (sym (first b rest h)) h }

pub lowest : (large : Large) (m : Memory) (live : List Extent) (waiting : List ℕ) (found : List Extent) (a w : ℕ) (rest : List Extent)
    → HasBlocks large m live waiting → 0 < large.waiting
    → found ≡ filter (λ e. range_contains nat_cmp (Included large.wait_from) Unbounded e.0) large.blocks.entries
    → found ≡ (a, w) ∷ rest → IsNext large m a
lowest large m live waiting found a w rest h some is e =
    next-from large m a live waiting h some (λ b others g.
    lowest-first large.wait_from large.wait_end b (larges_of m) (a, w) rest others h.rising
    (ap (λ (xs : List Extent). filter (λ x. range_contains nat_cmp (Included large.wait_from) Unbounded x.0) xs) (sym h.listed) ∙ sym is ∙ e)
    (sym g.waits))

pub lowest-none : (large : Large) (m : Memory) (live : List Extent) (waiting : List ℕ) (found : List Extent)
    → HasBlocks large m live waiting → 0 < large.waiting
    → found ≡ filter (λ e. range_contains nat_cmp (Included large.wait_from) Unbounded e.0) large.blocks.entries
    → found ≡ [] → ⊥
lowest-none large m live [] found h some is e = let c = h.counted in omega (arith, c)
lowest-none large m live (b ∷ rest) found h some is e =
    let first = waiting-first large.wait_from large.wait_end b (larges_of m) rest (sym h.waits) in
    lowest-some large.wait_from (b, first.words) (larges_of m) first.low first.splits
    (ap (λ (xs : List Extent). filter (λ x. range_contains nat_cmp (Included large.wait_from) Unbounded x.0) xs) (sym h.listed) ∙ sym is ∙ e)
