-- Which live blocks wait.
use Rattle.std.proofs.Common.{inl, inr, ◌≡◌, ℕ, Bool, true, List, [], ◌∷◌, get_or, refl, sym, ap, ◌∙◌, arith, subst, IsTrue}
use Rattle.std.specs.Prelude.{filter}
use Rattle.std.specs.List.{Contains}
use Rattle.std.proofs.lemmas.Bool.{cases_Bool}
use Rattle.std.proofs.lemmas.List.Elements.{Contains-append_right, Contains-append_cases}
use Rattle.heap_space.specs.Memory.{Memory}
use Rattle.heap_space.specs.Extents.{Extent, begins_between}
use Rattle.large_objects.specs.Blocks.{larges_of, places_of}
use Rattle.large_objects.specs.Large.{HasBlocks}
use Rattle.large_objects.specs.declared.Large.{Large}
use Rattle.large_objects.proofs.Same.{Splits}
use Rattle.large_objects.proofs.PlaceLaws.{no-split, splits-first}
use Rattle.large_objects.proofs.NextLaws.{live-splits}

contains-here : (a : ℕ) (xs : List ℕ) → Contains (a ∷ xs) a
contains-here a xs = (0, omega arith, refl)

contains-one : (b a : ℕ) → Contains (b ∷ []) a → b ≡ a
contains-one b a h = let k = h.1 in let zero' : h.0 ≡ 0 = omega (arith, k) in ap (λ (i : ℕ). get_or (b ∷ []) i a) (sym zero') ∙ h.2

-- a block that passes is told
passes-contains : (t : Extent → Bool) (x : Extent) (xs : List Extent) → Splits x xs → t x ≡ true → Contains (places_of (filter t xs)) x.0
passes-contains t x [] s h = absurd (no-split x s)
passes-contains t x (y ∷ ys) s h = elim (splits-first x y ys s) [
  | inl e ↦ (let passed : t y ≡ true = ap t e ∙ h in
      rw passed (subst (λ (a : ℕ). Contains (y.0 ∷ places_of (filter t ys)) a) (ap (λ (z : Extent). z.0) e) (contains-here y.0 (places_of (filter t ys)))))
  | inr r ↦ (let more = passes-contains t x ys r h in elim (cases_Bool (t y)) [
    | inl k ↦ rw k (Contains-append_right (y.0 ∷ []) (places_of (filter t ys)) x.0 more)
    | inr k ↦ rw k more
  ])
]

-- what is told passes
contains-between : (from end a : ℕ) (xs : List Extent) → Contains (places_of (filter (begins_between from end) xs)) a
    → begins_between from end (a, 0) ≡ true
contains-between from end a [] h = (let k = h.1 in absurd (omega (arith, k)))
contains-between from end a (x ∷ xs) h = elim (cases_Bool (begins_between from end x)) [
  | inl k ↦ (let h' = rw k at h in elim (Contains-append_cases (x.0 ∷ []) (places_of (filter (begins_between from end) xs)) a h') [
    | inl e ↦ (let same = contains-one x.0 a e in ap (λ (b : ℕ). begins_between from end (b, 0)) (sym same) ∙ k)
    | inr r ↦ contains-between from end a xs r
  ])
  | inr k ↦ (let h' = rw k at h in contains-between from end a xs h')
]

pub waits-exactly : (large : Large) (m : Memory) (a n : ℕ) (others : List Extent) (then : List ℕ) (live : List Extent) (waiting : List ℕ) (b : Bool)
    → b ≡ begins_between large.wait_from large.wait_end (a, 0) → HasBlocks large m ((a, n) ∷ others) then → HasBlocks large m live waiting
    → (IsTrue b → Contains waiting a) × (Contains waiting a → IsTrue b)
waits-exactly large m a n others then live waiting b e g h = (
  (λ yes. subst (λ (ps : List ℕ). Contains ps a) (sym h.waits) (passes-contains (begins_between large.wait_from large.wait_end) (a, n) (larges_of m) (live-splits large m (a, n) others then g) (sym e ∙ yes))),
  (λ told. e ∙ contains-between large.wait_from large.wait_end a (larges_of m) (subst (λ (ps : List ℕ). Contains ps a) h.waits told)),
)
