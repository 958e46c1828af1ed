-- The large blocks of a memory as a block comes or goes.
use Rattle.std.proofs.Common.{inl, inr, ◌≡◌, ℕ, ◌+◌, ◌<◌, ◌≤◌, Bool, true, false, not, nat_lt, List, [], ◌∷◌, ◌++◌, map, length, refl, ap, append-nil, ◌∙◌, arith}
use Rattle.std.specs.Prelude.{filter, ◌==◌}
use Rattle.std.proofs.lemmas.Bool.Decides.{nat_tests}
use Rattle.std.proofs.lemmas.Bool.{cases_Bool}
use Rattle.std.proofs.lemmas.List.Elements.{filter-append}
use Rattle.heap_space.specs.Places.{Placed, with_block, without_block, zeros_at, begins, RiseTo, end_of}
use Rattle.heap_space.specs.Memory.{Memory, with_large, without_large}
use Rattle.heap_space.specs.Order.{IsInOrder}
use Rattle.heap_space.specs.Extents.{Extent, Each, extent_of, begins_between}
use Rattle.heap_space.proofs.Blocks.{length-zeros_at, without-none}
use Rattle.heap_space.proofs.Rising.{rise_le}
use Rattle.heap_space.proofs.Order.{has-next_large}
use Rattle.heap_space.proofs.ExtentLaws.{Each-map}
use Rattle.large_objects.specs.Blocks.{larges_of, AreRising, begin_elsewhere}
use Rattle.large_objects.proofs.Rising.{Each-filter, AreRising-filter}

with_block-last : (from end : ℕ) (ps : List Placed) (q : Placed) → RiseTo from ps end → end ≤ q.base → with_block ps q ≡ ps ++ q ∷ []
with_block-last from end [] q r l = refl
with_block-last from end (p ∷ ps) q r l =
    let up = rise_le (end_of p) end ps r.1 in let e : nat_lt q.base p.base ≡ false = grind (arith, nat_tests) in
    rw e (ap (λ (zs : List Placed). p ∷ zs) (with_block-last (end_of p) end ps q r.1 l))

map-append : (ps qs : List Placed) → map extent_of (ps ++ qs) ≡ map extent_of ps ++ map extent_of qs
map-append [] qs = refl
map-append (p ∷ ps) qs = ap (λ (xs : List Extent). extent_of p ∷ xs) (map-append ps qs)

new-between : (m : Memory) (n : ℕ) → IsInOrder m
    → begins_between 1099511627776 9223372036854775808 (extent_of (zeros_at m.next_large n)) ≡ true
new-between m n o = let low = o.large_above in let high = o.large_small in grind (arith, nat_tests)

-- a block more stands behind the others
pub larges-with_large : (m : Memory) (n : ℕ) → IsInOrder m → larges_of (with_large m n) ≡ larges_of m ++ (m.next_large, n) ∷ []
larges-with_large m n o =
    let q = zeros_at m.next_large n in
    let between = begins_between 1099511627776 9223372036854775808 in
    let new : between (extent_of q) ≡ true = new-between m n o in
    ap (λ (ps : List Placed). filter between (map extent_of ps)) (with_block-last 1 m.next_large m.blocks q o.rises (omega arith))
    ∙ ap (λ (xs : List Extent). filter between xs) (map-append m.blocks (q ∷ []))
    ∙ filter-append between (map extent_of m.blocks) (extent_of q ∷ [])
    ∙ rw new (ap (λ (k : ℕ). let x : Extent = (m.next_large, k) in larges_of m ++ x ∷ []) (length-zeros_at m.next_large n))

pub from-each : (from end : ℕ) (ps : List Placed) → RiseTo from ps end → Each (λ y. from ≤ y.0) (map extent_of ps)
from-each from end [] r = tt
from-each from end (p ∷ ps) r =
    let here = r.0 in
    (r.0, Each-map (λ y. end_of p ≤ y.0) (λ y. from ≤ y.0) (λ y h. omega arith) (map extent_of ps) (from-each (end_of p) end ps r.1))

extents-rise : (from end : ℕ) (ps : List Placed) → RiseTo from ps end → AreRising (map extent_of ps) × Each (λ x. x.0 + x.1 ≤ end) (map extent_of ps)
extents-rise from end [] r = (tt, tt)
extents-rise from end (p ∷ ps) r = let rest = extents-rise (end_of p) end ps r.1 in
    ((from-each (end_of p) end ps r.1, rest.0), (rise_le (end_of p) end ps r.1, rest.1))

-- all lie below the place of the next
pub larges-below : (m : Memory) → IsInOrder m → Each (λ x. x.0 + x.1 ≤ m.next_large) (larges_of m)
larges-below m o = Each-filter (λ x. x.0 + x.1 ≤ m.next_large) _ (map extent_of m.blocks) (extents-rise 1 m.next_large m.blocks o.rises).1

pub larges-rise : (m : Memory) → IsInOrder m → AreRising (larges_of m)
larges-rise m o = AreRising-filter _ (map extent_of m.blocks) (extents-rise 1 m.next_large m.blocks o.rises).0

-- a block less

begins-some : (p : Placed) (a : ℕ) → 0 < length p.words → begins p a ≡ (p.base == a)
begins-some p a some = grind (arith, nat_tests)

between-without : (t : Extent → Bool) (ps : List Placed) (a : ℕ) → Each (λ x. 0 < x.1) (filter t (map extent_of ps))
    → filter t (map extent_of (without_block ps a)) ≡ begin_elsewhere a (filter t (map extent_of ps))
between-without t [] a some = refl
between-without t (p ∷ ps) a some = elim (cases_Bool (t (extent_of p))) [
  | inl h ↦ (let both = rw h at some in let here = begins-some p a both.0 in let more = between-without t ps a both.1 in
      grind (arith, nat_tests, more, here, h))
  | inr h ↦ (let rest = rw h at some in let more = between-without t ps a rest in
      elim (cases_Bool (begins p a)) [ inl b ↦ rw (b, h) more | inr b ↦ rw (b, h) more ])
]

pub larges-without_large : (m : Memory) (a : ℕ) → Each (λ x. 2 ≤ x.1) (larges_of m) → larges_of (without_large m a) ≡ begin_elsewhere a (larges_of m)
larges-without_large m a wide =
    between-without (begins_between 1099511627776 9223372036854775808) m.blocks a
    (Each-map (λ x. 2 ≤ x.1) (λ x. 0 < x.1) (λ x h. omega arith) (larges_of m) wide)

-- a new block that goes at once leaves the blocks as they were
pub dropped-new : (m : Memory) (n : ℕ) → IsInOrder m → 0 < n → (without_large (with_large m n) m.next_large).blocks ≡ m.blocks
dropped-new m n o some =
    let a = m.next_large in let q = zeros_at a n in
    let t : Placed → Bool = λ p. not (begins p a) in
    let size = length-zeros_at a n in
    let gone : begins q a ≡ true = begins-some q a (omega arith) ∙ grind (arith, nat_tests) in
    let kept = without-none m.blocks a (has-next_large m a o (omega arith)) in
    ap (λ (ps : List Placed). filter t ps) (with_block-last 1 a m.blocks q o.rises (omega arith))
    ∙ filter-append t m.blocks (q ∷ []) ∙ rw gone (append-nil (filter t m.blocks)) ∙ kept
