-- Two weak objects that are each other's targets, as the test writes them.
use Rattle.std.proofs.Common.{◌≡◌, ℕ, ◌+◌, false, not, IsTrue, List, [], ◌∷◌, ◌++◌, Some, filter, refl, sym, ap, ap₂, ◌∙◌, subst, inl, inr, arith}
use Rattle.std.specs.Prelude.{IsSome}
use Rattle.type_table.specs.declared.info.Shape.TheVariants.{Weak}
use Rattle.type_table.specs.declared.info.TypeInfo.{TypeInfo}
use Rattle.type_table.specs.Table.{Table, value_at}
use Rattle.heap_space.specs.Places.{word_at, with_word, lies_in_one}
use Rattle.heap_space.specs.Memory.{Memory, fresh_memory, with_arena}
use Rattle.object_model.specs.Layout.{Layout, layout_of}
use Rattle.object_model.specs.Sets.{is_in}
use Rattle.object_model.specs.ObjectWords.{info_or_weak, info_at, layout_at, words_at, Covers}
use Rattle.object_view.specs.Views.{HasObject}
use Rattle.object_model.proofs.Members.{is_in-cases, is_in-nil}
use Rattle.nursery_gaps.specs.Nursery.{Layout as Nursery, unused}
use Rattle.weak_lists.specs.Targets.{target_at}
use Rattle.weak_lists.specs.Conditions.{AreObjects, CanClear}

abbrev weak_info : TypeInfo
weak_info = record { shape = Weak; destructor = false }

abbrev pub wrote : Memory → ℕ → ℕ → Memory
wrote m a x = record m { blocks = with_word m.blocks a x }

abbrev pub two_weak : Memory
two_weak = wrote (wrote (wrote (wrote (with_arena (fresh_memory 16 64)) 4294967297 7) 4294967298 4294967299) 4294967300 8) 4294967301 4294967296

pub weak-written : (m0 m1 w1 w2 w3 w4 : Memory) (a : ℕ) → m0 ≡ fresh_memory 16 64 → (a ≡ m0.next_arena) × (m1 ≡ with_arena m0)
    → w1 ≡ wrote m1 (a + 1) 7 → w2 ≡ wrote w1 (a + 2) (a + 3) → w3 ≡ wrote w2 (a + 4) 8 → w4 ≡ wrote w3 (a + 5) a → w4 ≡ two_weak
weak-written m0 m1 w1 w2 w3 w4 a e0 e1 f1 f2 f3 f4 =
    let at : a ≡ 4294967296 = e1.0 ∙ ap (λ (m : Memory). m.next_arena) e0 in
    let g0 : m1 ≡ with_arena (fresh_memory 16 64) = e1.1 ∙ ap with_arena e0 in
    let g1 : w1 ≡ wrote (with_arena (fresh_memory 16 64)) 4294967297 7 = f1 ∙ ap₂ (λ (m : Memory) (b : ℕ). wrote m (b + 1) 7) g0 at in
    let g2 = f2 ∙ ap₂ (λ (m : Memory) (b : ℕ). wrote m (b + 2) (b + 3)) g1 at in
    let g3 = f3 ∙ ap₂ (λ (m : Memory) (b : ℕ). wrote m (b + 4) 8) g2 at in
    f4 ∙ ap₂ (λ (m : Memory) (b : ℕ). wrote m (b + 5) b) g3 at

-- what is so of both members of a list
of-two : (P : ℕ → Type 0) (x y : ℕ) → P x → P y → (p : ℕ) → IsTrue (is_in p (x ∷ y ∷ [])) → P p
of-two P x y one two p t = elim (is_in-cases p x (y ∷ []) t) [
  | inl is ↦ subst P (sym is) one
  | inr u ↦ elim (is_in-cases p y [] u) [ inl is ↦ subst P (sym is) two | inr none ↦ absurd (is_in-nil p none) ]
]

module _ (types : Table TypeInfo) (e : value_at types 0 ≡ Some weak_info) where
  abbrev w : ℕ → ℕ
  w = word_at two_weak.blocks

  lay-first : layout_at types w 4294967296 ≡ layout_of Weak 4294967296 4294967299
  unfolding layout_at
  lay-first = ap (λ o. layout_of (info_or_weak o).shape 4294967296 4294967299) e

  lay-second : layout_at types w 4294967299 ≡ layout_of Weak 4294967299 4294967296
  unfolding layout_at
  lay-second = ap (λ o. layout_of (info_or_weak o).shape 4294967299 4294967296) e

  typed : IsSome (value_at types 0)
  typed = rw e refl

  size-first : words_at types w 4294967296 ≡ 3
  size-first = ap (λ (l : Layout). l.words) lay-first

  objects : AreObjects types two_weak (4294967296 ∷ 4294967299 ∷ [])
  objects = record {
    whole = of-two (HasObject two_weak types) 4294967296 4294967299
        (record { typed = typed; whole = ap (λ (l : Layout). lies_in_one two_weak.blocks 4294967296 l.words) lay-first })
        (record { typed = typed; whole = ap (λ (l : Layout). lies_in_one two_weak.blocks 4294967299 l.words) lay-second });
    apart = λ p q at t u. of-two (λ k. Covers types w k at → Covers types w q at → k ≡ q) 4294967296 4294967299
        (of-two (λ k. Covers types w 4294967296 at → Covers types w k at → 4294967296 ≡ k) 4294967296 4294967299 (λ a b. refl) (λ a b. absurd (let s = size-first in omega (arith, s, a.1, b.0))) q u)
        (of-two (λ k. Covers types w 4294967299 at → Covers types w k at → 4294967299 ≡ k) 4294967296 4294967299 (λ a b. absurd (let s = size-first in omega (arith, s, b.1, a.0))) (λ a b. refl) q u)
        p t;
  }

  pub two-clear : CanClear types 16 two_weak (4294967299 ∷ 4294967296 ∷ []) (4294967296 ∷ 4294967299 ∷ [])
  two-clear = record {
    objects = objects;
    there = of-two (λ k. IsTrue (is_in k (4294967296 ∷ 4294967299 ∷ []))) 4294967299 4294967296 refl refl;
    weak = of-two (λ k. (info_at types w k).shape ≡ Weak) 4294967299 4294967296 (ap (λ o. (info_or_weak o).shape) e) (ap (λ o. (info_or_weak o).shape) e);
    targets = λ p t o. of-two (λ k. IsTrue (is_in (target_at types w k) (4294967296 ∷ 4294967299 ∷ []))) 4294967299 4294967296
        (ap (λ (l : Layout). is_in (w l.ref_start) (4294967296 ∷ 4294967299 ∷ [])) lay-second) (ap (λ (l : Layout). is_in (w l.ref_start) (4294967296 ∷ 4294967299 ∷ [])) lay-first) p t;
  }

first-listed : (p : ℕ) → IsTrue (is_in p (4294967299 ∷ [])) → IsTrue (is_in p (4294967299 ∷ 4294967296 ∷ []))
first-listed p t = elim (is_in-cases p 4294967299 [] t) [
  | inl is ↦ (let P : ℕ → Type 0 = λ k. IsTrue (is_in k (4294967299 ∷ 4294967296 ∷ [])) in subst P (sym is) refl)
  | inr none ↦ absurd (is_in-nil p none)
]

-- once the second is off the list, the first alone is looked at
pub first-clear : (types : Table TypeInfo) (nursery : Nursery) (m : Memory) (empty one two left all : List ℕ)
    → CanClear types 16 m (4294967299 ∷ 4294967296 ∷ []) all → nursery ≡ unused 16 0 → empty ≡ [] → one ≡ empty ++ 4294967299 ∷ []
    → two ≡ one ++ 4294967296 ∷ [] → left ≡ filter (λ a. not (is_in a (4294967296 ∷ []))) two → (places : List ℕ) × CanClear types nursery.words m left places
first-clear types nursery m empty one two left all can made e0 e1 e2 e3 =
    let first : one ≡ 4294967299 ∷ [] = e1 ∙ ap (λ (l : List ℕ). l ++ 4294967299 ∷ []) e0 in
    let both : two ≡ 4294967299 ∷ 4294967296 ∷ [] = e2 ∙ ap (λ (l : List ℕ). l ++ 4294967296 ∷ []) first in
    let alone : left ≡ 4294967299 ∷ [] = e3 ∙ ap (filter (λ a. not (is_in a (4294967296 ∷ [])))) both in
    let here : CanClear types 16 m (4294967299 ∷ []) all = record {
      objects = can.objects;
      there = λ p t. can.there p (first-listed p t);
      weak = λ p t. can.weak p (first-listed p t);
      targets = λ p t o. can.targets p (first-listed p t) o;
    } in
    let inside : CanClear types nursery.words m (4294967299 ∷ []) all = subst (λ (k : ℕ). CanClear types k m (4294967299 ∷ []) all) (sym (ap (λ (k : Nursery). k.words) made)) here in
    (all, subst (λ (l : List ℕ). CanClear types nursery.words m l all) (sym alone) inside)
