-- Two objects of two references each, as the test writes them.
use Rattle.std.proofs.Common.{◌≡◌, ℕ, ◌+◌, false, true, IsTrue, List, [], ◌∷◌, ◌++◌, Some, filter, refl, sym, ap, ap₂, ◌∙◌, subst, inl, inr, arith}
use Rattle.std.specs.Prelude.{IsSome}
use Rattle.type_table.specs.declared.info.Shape.TheVariants.{Fixed}
use Rattle.type_table.specs.declared.info.TypeInfo.{TypeInfo}
use Rattle.type_table.specs.Table.{Table, value_at}
use Rattle.heap_space.specs.Places.{has, word_at, with_word, lies_in_one}
use Rattle.heap_space.specs.Memory.{Memory, fresh_memory, with_arena}
use Rattle.object_model.specs.Layout.{Layout, layout_of}
use Rattle.object_model.specs.Sets.{is_in}
use Rattle.object_model.specs.ObjectWords.{words_from, info_or_weak, layout_at, words_at, Covers}
use Rattle.object_view.specs.Views.{HasObject}
use Rattle.object_model.proofs.Members.{is_in-tail, is_in-cases, is_in-nil}
use Rattle.nursery_gaps.specs.Nursery.{Layout as Nursery, unused}
use Rattle.mark_steps.specs.declared.MarkEnd.{MarkEnd}
use Rattle.mark_steps.specs.Ends.{Marks}
use Rattle.mark_steps.proofs.FrameLaws.{visits-can}
use Rattle.mark_steps.specs.Visits.{is_outside, outside_refs, CanVisit}

abbrev pair_info : TypeInfo
pair_info = record { shape = Fixed 0 2; destructor = false }

abbrev pub wrote : Memory → ℕ → ℕ → Memory
wrote m a x = record m { blocks = with_word m.blocks a x }

abbrev pub five_writes : Memory
five_writes = wrote (wrote (wrote (wrote (wrote (with_arena (fresh_memory 16 64)) 4294967297 7) 4294967298 4294967300) 4294967299 5) 4294967301 8) 4294967302 4294967296

abbrev pub two_objects : Memory
two_objects = wrote five_writes 4294967303 4294967300

pub five-written : (m0 m1 w1 w2 w3 w4 w5 : Memory) (a : ℕ) → m0 ≡ fresh_memory 16 64 → (a ≡ m0.next_arena) × (m1 ≡ with_arena m0)
    → w1 ≡ wrote m1 (a + 1) 7 → w2 ≡ wrote w1 (a + 2) (a + 4) → w3 ≡ wrote w2 (a + 3) 5 → w4 ≡ wrote w3 (a + 5) 8 → w5 ≡ wrote w4 (a + 6) a
    → (a ≡ 4294967296) × (w5 ≡ five_writes)
five-written m0 m1 w1 w2 w3 w4 w5 a e0 e1 f1 f2 f3 f4 f5 =
    let at : a ≡ 4294967296 = e1.0 ∙ ap (λ (m : Memory). m.next_arena) e0 in
    let g0 : m1 ≡ with_arena (fresh_memory 16 64) = e1.1 ∙ ap with_arena e0 in
    let g1 : w1 ≡ wrote (with_arena (fresh_memory 16 64)) 4294967297 7 = f1 ∙ ap₂ (λ (m : Memory) (b : ℕ). wrote m (b + 1) 7) g0 at in
    let g2 = f2 ∙ ap₂ (λ (m : Memory) (b : ℕ). wrote m (b + 2) (b + 4)) g1 at in
    let g3 = f3 ∙ ap₂ (λ (m : Memory) (b : ℕ). wrote m (b + 3) 5) g2 at in
    let g4 = f4 ∙ ap₂ (λ (m : Memory) (b : ℕ). wrote m (b + 5) 8) g3 at in
    (at, f5 ∙ ap₂ (λ (m : Memory) (b : ℕ). wrote m (b + 6) b) g4 at)

pub last-place : (m : Memory) (a : ℕ) → (a ≡ 4294967296) × (m ≡ five_writes) → has m.blocks (a + 7) ≡ true
last-place m a e = ap₂ (λ (k : Memory) (b : ℕ). has k.blocks (b + 7)) e.1 e.0

pub last-written : (m new : Memory) (a : ℕ) → (a ≡ 4294967296) × (m ≡ five_writes) → new ≡ wrote m (a + 7) (a + 4) → new ≡ two_objects
last-written m new a e f = f ∙ ap₂ (λ (k : Memory) (b : ℕ). wrote k (b + 7) (b + 4)) e.1 e.0

module _ (types : Table TypeInfo) (e : value_at types 0 ≡ Some pair_info) where
  abbrev w : ℕ → ℕ
  w = word_at two_objects.blocks

  lay-first : layout_at types w 4294967296 ≡ layout_of (Fixed 0 2) 4294967296 4294967300
  unfolding layout_at
  lay-first = ap (λ o. layout_of (info_or_weak o).shape 4294967296 4294967300) e

  lay-second : layout_at types w 4294967300 ≡ layout_of (Fixed 0 2) 4294967300 4294967296
  unfolding layout_at
  lay-second = ap (λ o. layout_of (info_or_weak o).shape 4294967300 4294967296) e

  refs-first : outside_refs types 16 w 4294967296 ≡ 4294967300 ∷ []
  refs-first = ap (λ (l : Layout). filter (is_outside 16) (words_from w l.ref_start l.ref_count)) lay-first

  refs-second : outside_refs types 16 w 4294967300 ≡ 4294967296 ∷ 4294967300 ∷ []
  refs-second = ap (λ (l : Layout). filter (is_outside 16) (words_from w l.ref_start l.ref_count)) lay-second

  typed : IsSome (value_at types 0)
  typed = rw e refl

  first-whole : HasObject two_objects types 4294967296
  first-whole = record { typed = typed; whole = ap (λ (l : Layout). lies_in_one two_objects.blocks 4294967296 l.words) lay-first }

  second-whole : HasObject two_objects types 4294967300
  second-whole = record { typed = typed; whole = ap (λ (l : Layout). lies_in_one two_objects.blocks 4294967300 l.words) lay-second }

  -- what is so at both places
  both : (P : ℕ → Type 0) → P 4294967296 → P 4294967300 → (p : ℕ) → IsTrue (is_in p (4294967296 ∷ 4294967300 ∷ [])) → P p
  both P x y p t = elim (is_in-cases p 4294967296 (4294967300 ∷ []) t) [
    | inl is ↦ subst P (sym is) x
    | inr u ↦ elim (is_in-cases p 4294967300 [] u) [ inl is ↦ subst P (sym is) y | inr none ↦ absurd (is_in-nil p none) ]
  ]

  size-first : words_at types w 4294967296 ≡ 4
  size-first = ap (λ (l : Layout). l.words) lay-first

  size-second : words_at types w 4294967300 ≡ 4
  size-second = ap (λ (l : Layout). l.words) lay-second

  pub two-visits : CanVisit types 16 two_objects (4294967296 ∷ []) (4294967296 ∷ 4294967300 ∷ [])
  two-visits = record {
    whole = both (HasObject two_objects types) first-whole second-whole;
    apart = λ p q at t u. both (λ k. Covers types w k at → Covers types w q at → k ≡ q)
        (both (λ k. Covers types w 4294967296 at → Covers types w k at → 4294967296 ≡ k) (λ a b. refl) (λ a b. absurd (let s = size-first in omega (arith, s, a.1, b.0))) q u)
        (both (λ k. Covers types w 4294967300 at → Covers types w k at → 4294967300 ≡ k) (λ a b. absurd (let s = size-first in omega (arith, s, b.1, a.0))) (λ a b. refl) q u)
        p t;
    closed = λ p q t u. both (λ k. IsTrue (is_in q (outside_refs types 16 w k)) → IsTrue (is_in q (4294967296 ∷ 4294967300 ∷ [])))
        (λ v. is_in-tail q 4294967296 (4294967300 ∷ []) (subst (λ (l : List ℕ). IsTrue (is_in q l)) refs-first v))
        (λ v. subst (λ (l : List ℕ). IsTrue (is_in q l)) refs-second v) p t u;
    listed = λ p t o. elim (is_in-cases p 4294967296 [] t) [
      | inl is ↦ (let P : ℕ → Type 0 = λ k. IsTrue (is_in k (4294967296 ∷ 4294967300 ∷ [])) in subst P (sym is) refl)
      | inr none ↦ absurd (is_in-nil p none)
    ];
  }

-- after one step another one can follow
pub second-step : (types : Table TypeInfo) (nursery : Nursery) (m new : Memory) (empty gray told left tells all : List ℕ) (end : MarkEnd)
    → CanVisit types 16 m (4294967296 ∷ []) all → nursery ≡ unused 16 0 → empty ≡ [] → gray ≡ empty ++ 4294967296 ∷ []
    → Marks types nursery.words 4 m gray told new left tells end → (places : List ℕ) × CanVisit types nursery.words new left places
second-step types nursery m new empty gray told left tells all end can made none pushed marks =
    let first : 4294967296 ∷ [] ≡ gray = sym (pushed ∙ ap (λ (l : List ℕ). l ++ 4294967296 ∷ []) none) in
    let here : CanVisit types nursery.words m gray all =
    subst (λ (l : List ℕ). CanVisit types nursery.words m l all) first (subst (λ (n : ℕ). CanVisit types n m (4294967296 ∷ []) all) (sym (ap (λ (k : Nursery). k.words) made)) can) in
    (all, visits-can m gray marks.places new left all here marks.visits)
