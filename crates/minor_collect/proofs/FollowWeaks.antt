-- In the middle of a collection the weak objects can be looked at.
use Rattle.std.proofs.Common.{◌≡◌, ℕ, ◌+◌, ◌≤◌, ◌⊎◌, IsTrue, List, [], refl, sym, ◌∙◌, subst, inl, inr, map, arith}
use Rattle.heap_space.specs.Memory.{Memory}
use Rattle.heap_space.specs.Places.{lies_in_one, word_at}
use Rattle.heap_space.specs.Extents.{extent_of}
use Rattle.heap_space.proofs.ExtentLaws.{lies_in_one-extents, lies_within-part}
use Rattle.object_view.specs.Moving.{place_now}
use Rattle.object_view.proofs.ForwardLaws.{header-unmarked}
use Rattle.object_view.proofs.LayoutLaws.{laid_out, weak-at}
use Rattle.object_model.specs.Sets.{is_in}
use Rattle.object_model.specs.Holds.{IsPointer}
use Rattle.object_model.specs.ObjectWords.{info_at, words_at}
use Rattle.type_table.specs.declared.info.Shape.TheVariants.{Weak}
use Rattle.weak_lists.specs.Conditions.{CanFollow, IsFollowed}
use Rattle.weak_lists.specs.Targets.{target_at, ChangesTargets, weaks_left, followed, is_gone}
use Rattle.weak_lists.specs.Cleared.{TellsInOrder, births_losing}
use Rattle.heap_parts.specs.Parts.{HeapParts, word_in}
use Rattle.minor_collect.specs.Calls.{Stage, Spot, Middle}
use Rattle.minor_collect.specs.WeakPass.{PassesWeaks}
use Rattle.minor_collect.proofs.Weaks.{now_place, weak_was}
use Rattle.minor_collect.proofs.WeakPass.{weak-shape}

module _ {stage : Stage} {now : HeapParts} {spot : Spot} (middle : Middle stage now spot []) where
  two-words : (x : ℕ) → IsTrue (is_in x spot.placing.met) → IsTrue (is_in x spot.placing.places) ⊎ (x + 1 ≤ stage.start.nursery.words) → IsTrue (lies_in_one now.memory.blocks x 2)
  two-words x t (inl there) =
      let size = (laid_out stage.start.setup.types (word_at now.memory.blocks) x).header in
      lies_in_one-extents now.memory.blocks x 2
      ∙ lies_within-part (map extent_of now.memory.blocks) x (words_at stage.start.setup.types (word_at now.memory.blocks) x) x 2 (omega arith) (omega (arith, size))
      (sym (lies_in_one-extents now.memory.blocks x (words_at stage.start.setup.types (word_at now.memory.blocks) x)) ∙ (middle.mid.words.whole x there).whole)
  two-words x t (inr low) =
      let above = middle.mid.words.moving.above x t in
      lies_in_one-extents now.memory.blocks x 2
      ∙ lies_within-part (map extent_of now.memory.blocks) 1 stage.start.nursery.words x 2 above (omega (arith, low))
      (sym (lies_in_one-extents now.memory.blocks 1 stage.start.nursery.words) ∙ middle.mid.words.nursery_whole)

  met-followed : (x : ℕ) → IsTrue (is_in x spot.placing.met) → IsFollowed stage.start.setup.types now.memory spot.placing.places x
  met-followed x t = elim (middle.mid.words.moving.each x t) [
    | inl there ↦ inl there
    | inr left ↦ inr (record { marked = left.marked; there = left.there; outside = left.outside; readable = two-words x t (middle.mid.words.left_low x t) })
  ]

  weak-is : (x : ℕ) → IsTrue (is_in x stage.start.weaks) → (info_at stage.start.setup.types (word_at now.memory.blocks) (place_now (word_at now.memory.blocks) x)).shape ≡ Weak
  weak-is x t = weak-shape _ (weak_was middle.mid.words.objects middle.mid.words.moving middle.mid.carried x t)

  target-followed : (x : ℕ) → IsTrue (is_in x stage.start.weaks)
      → let target = target_at stage.start.setup.types (word_at now.memory.blocks) (place_now (word_at now.memory.blocks) x) in (target ≡ 0) ⊎ IsFollowed stage.start.setup.types now.memory spot.placing.places target
  target-followed x t =
      let p : ℕ = place_now (word_at now.memory.blocks) x in
      let there = now_place middle.mid.words.objects middle.mid.words.moving x (middle.mid.carried.weaks_are.there x t) in
      let one = weak-at stage.start.setup.types (word_at now.memory.blocks) p (weak-is x t) in
      let F : ℕ → Type 0 = λ k. IsPointer spot.placing.met (word_at now.memory.blocks k) in
      let closed : IsPointer spot.placing.met (target_at stage.start.setup.types (word_at now.memory.blocks) p) = subst F (omega arith) (middle.mid.words.objects.closed p 0 there.0 (omega (arith, one.0))) in
      elim closed [ inl z ↦ inl z | inr met ↦ inr (met-followed _ met) ]

  follows-weaks : CanFollow stage.start.setup.types stage.start.nursery.words now.memory stage.start.weaks spot.placing.places
  follows-weaks = record {
    objects = record { whole = middle.mid.words.whole; apart = middle.mid.words.objects.apart };
    unmoved = λ p t. header-unmarked p middle.mid.words.objects t;
    followed = λ x t. met-followed x (middle.mid.carried.weaks_are.there x t);
    weak = weak-is;
    targets = λ x t l. target-followed x t;
  }

  -- as the pass over them asks for
  pub can_follow_weaks : now.weaks ≡ stage.start.weaks → CanFollow now.setup.types now.nursery.words now.memory now.weaks spot.placing.places
  can_follow_weaks same =
      subst (λ (weaks : List ℕ). CanFollow now.setup.types now.nursery.words now.memory weaks spot.placing.places) (sym same)
      (subst (λ (h : HeapParts). CanFollow h.setup.types h.nursery.words now.memory stage.start.weaks spot.placing.places) (sym middle.rest) follows-weaks)

-- what the pass tells of the parts
pub weaks_passed : (before : HeapParts) (memory : Memory) (weaks told_old told_new : List ℕ) → weaks ≡ weaks_left before.nursery.words (word_in before) before.weaks
    → ChangesTargets before.setup.types (followed before.nursery.words (word_in before)) before.memory memory (weaks_left before.nursery.words (word_in before) before.weaks)
    → TellsInOrder (births_losing before.setup.types (word_in before) (is_gone before.nursery.words (word_in before)) (weaks_left before.nursery.words (word_in before) before.weaks)) told_old told_new
    → PassesWeaks before (record before { memory = memory; weaks = weaks }) told_old told_new
weaks_passed before memory weaks told_old told_new left targets told = record {
  left = left;
  targets = subst (ChangesTargets before.setup.types (followed before.nursery.words (word_in before)) before.memory memory) (sym left) targets;
  told = subst (λ (places : List ℕ). TellsInOrder (births_losing before.setup.types (word_in before) (is_gone before.nursery.words (word_in before)) places) told_old told_new) (sym left) told;
  only = refl;
}
