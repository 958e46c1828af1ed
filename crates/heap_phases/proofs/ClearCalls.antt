-- Targets are cleared, as the code does it: what it asks for.
use Rattle.std.proofs.Common.{◌≡◌, ℕ, true, IsTrue, refl, sym, subst, inl, inr, arith}
use Rattle.std.specs.Prelude.{filter, ◌==◌, nat_lt}
use Rattle.std.proofs.lemmas.Bool.Decides.{nat_tests}
use Rattle.std.proofs.lemmas.List.Sorted.{list_any-IsPermutation}
use Rattle.type_table.specs.declared.info.Shape.{Shape}
use Rattle.type_table.specs.declared.info.Shape.TheVariants.{Fixed, IntArray, RefArray, Weak}
use Rattle.object_model.specs.Sets.{is_in}
use Rattle.object_model.specs.Shapes.{is_weak_shape}
use Rattle.object_model.specs.Holds.{IsPointer}
use Rattle.object_model.specs.ObjectWords.{info_at}
use Rattle.object_model.proofs.Members.{filter-part, filter-member}
use Rattle.object_view.proofs.LayoutLaws.{weak-at}
use Rattle.store_model.specs.Store.{Store}
use Rattle.weak_lists.specs.Conditions.{CanClear}
use Rattle.weak_lists.specs.Targets.{target_at}
use Rattle.heap_parts.specs.Parts.{HeapParts, word_in}
use Rattle.heap_parts.specs.Places.{is_weak_at}
use Rattle.heap_parts.specs.StandsFor.{PartsStandFor}

pub weak_shape : (s : Shape) → is_weak_shape s ≡ true → s ≡ Weak
weak_shape (Fixed a b) e = absurd (let no : ⊥ = cc in no)
weak_shape IntArray e = absurd (let no : ⊥ = cc in no)
weak_shape RefArray e = absurd (let no : ⊥ = cc in no)
weak_shape Weak e = refl

module _ (heap : HeapParts) (store : Store) (s : PartsStandFor heap store) where
  -- a listed weak object is one of the objects, and weak
  pub weak_there : (p : ℕ) → IsTrue (is_in p heap.weaks) → IsTrue (is_in p s.places) × (is_weak_at heap.setup.types (word_in heap) p ≡ true)
  weak_there p t = filter-part (is_weak_at heap.setup.types (word_in heap)) s.places p
      (subst IsTrue (sym (list_any-IsPermutation (λ (y : ℕ). y == p) (filter (is_weak_at heap.setup.types (word_in heap)) s.places) heap.weaks s.words.weak)) t)

  -- each weak object is listed
  pub weak_listed : (p : ℕ) → IsTrue (is_in p s.places) → is_weak_at heap.setup.types (word_in heap) p ≡ true → IsTrue (is_in p heap.weaks)
  weak_listed p t weak = subst IsTrue (list_any-IsPermutation (λ (y : ℕ). y == p) (filter (is_weak_at heap.setup.types (word_in heap)) s.places) heap.weaks s.words.weak)
      (filter-member (is_weak_at heap.setup.types (word_in heap)) s.places p t weak)

  pub weak_at : (p : ℕ) → is_weak_at heap.setup.types (word_in heap) p ≡ true → (info_at heap.setup.types (word_in heap) p).shape ≡ Weak
  weak_at p e = weak_shape (info_at heap.setup.types (word_in heap) p).shape e

  -- its target is nil or one of the objects
  pub target_pointer : (p : ℕ) → IsTrue (is_in p s.places) → is_weak_at heap.setup.types (word_in heap) p ≡ true → IsPointer s.places (target_at heap.setup.types (word_in heap) p)
  target_pointer p t weak =
      let one = (weak-at heap.setup.types (word_in heap) p (weak_at p weak)).0 in
      subst (λ (k : ℕ). IsPointer s.places (word_in heap k)) (omega arith) (s.words.objects.closed p 0 t (omega (arith, one)))

  pub can_clear : CanClear heap.setup.types heap.nursery.words heap.memory heap.weaks s.places
  can_clear = record {
    objects = record { whole = s.words.whole; apart = s.words.objects.apart };
    there = λ p t. (weak_there p t).0;
    weak = λ p t. weak_at p (weak_there p t).1;
    targets = λ p t out. elim (target_pointer p (weak_there p t).0 (weak_there p t).1) [
      | inl z ↦ absurd (let o : nat_lt heap.nursery.words (target_at heap.setup.types (word_in heap) p) ≡ true = out in let no : ⊥ = grind (arith, nat_tests) in no)
      | inr there ↦ there
    ];
  }
