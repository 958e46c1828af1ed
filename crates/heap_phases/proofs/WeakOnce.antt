-- The listed weak objects, each once, and whose births are told.
use Rattle.std.proofs.Common.{◌≡◌, ℕ, ◌+◌, List, [], map, sym, ap, ◌∙◌, subst, arith}
use Rattle.std.specs.Prelude.{filter, nat_eq}
use Rattle.std.specs.List.Sorted.{IsPermutation, IsNonDecreasing}
use Rattle.std.proofs.lemmas.Bool.Decides.{nat_tests}
use Rattle.std.proofs.lemmas.Map.Keys.{IsDistinct-IsPermutation}
use Rattle.std.proofs.lemmas.List.Sorted.{IsPermutation-map}
use Rattle.object_model.proofs.SameMembers.{names_differ}
use Rattle.object_model.proofs.Members.{filter-agree}
use Rattle.text_model.specs.declared.line.Phase.TheVariants.{Marking}
use Rattle.store_model.specs.Store.{Store}
use Rattle.store_model.specs.Marking.{IsMarked, is_white}
use Rattle.weak_lists.proofs.Once.{once-different}
use Rattle.weak_lists.specs.Cleared.{TellsInOrder, births_losing, once_after}
use Rattle.weak_lists.specs.Targets.{is_unvisited, target_at}
use Rattle.heap_parts.specs.Parts.{HeapParts, word_in}
use Rattle.heap_parts.specs.Places.{is_weak_at}
use Rattle.heap_parts.specs.StandsFor.{PartsStandFor}
use Rattle.heap_parts.specs.Collects.{AreAllPinned}
use Rattle.frame_laws.proofs.Births.{rise-differ}
use Rattle.heap_phases.proofs.ClearCalls.{weak_there}
use Rattle.heap_phases.proofs.EndCode.{clears}
use Rattle.heap_phases.proofs.EndLines.{SortsBirths}
use Rattle.heap_phases.proofs.EndLists.{rise_filtered}
use Rattle.heap_phases.proofs.EndMemory.{clears_is}

module _ (heap : HeapParts) (store : Store) (s : PartsStandFor heap store) (pinned : AreAllPinned store) (marked : IsMarked store) (marking : heap.phase ≡ Marking) where
  weaks-once : once_after [] heap.weaks ≡ heap.weaks
  weaks-once = once-different heap.weaks (names_differ s.name heap.weaks (IsDistinct-IsPermutation nat_eq (λ x y. grind (arith, nat_tests)) (map s.name (filter (is_weak_at heap.setup.types (word_in heap)) s.places)) (map s.name heap.weaks)
      (IsPermutation-map s.name (filter (is_weak_at heap.setup.types (word_in heap)) s.places) heap.weaks s.words.weak)
      (rise-differ 1 heap.next (map s.name (filter (is_weak_at heap.setup.types (word_in heap)) s.places)) (rise_filtered s.name (is_weak_at heap.setup.types (word_in heap)) s.places 1 heap.next s.births.rise))))

  pub cleared_sorted : (cleared : List ℕ) → TellsInOrder (births_losing heap.setup.types (word_in heap) (is_unvisited heap.nursery.words (word_in heap)) heap.weaks) [] cleared
      → SortsBirths (word_in heap) (filter (clears heap.setup.types (word_in heap) s.name (is_white store)) heap.weaks) cleared
  cleared_sorted cleared told =
      let losing : births_losing heap.setup.types (word_in heap) (is_unvisited heap.nursery.words (word_in heap)) heap.weaks
      ≡ map (λ p. word_in heap (p + 1)) (filter (clears heap.setup.types (word_in heap) s.name (is_white store)) heap.weaks) =
      ap (λ (ws : List ℕ). map (λ p. word_in heap (p + 1)) (filter (λ p. is_unvisited heap.nursery.words (word_in heap) (target_at heap.setup.types (word_in heap) p)) ws)) weaks-once
      ∙ ap (map (λ p. word_in heap (p + 1))) (filter-agree (λ p. is_unvisited heap.nursery.words (word_in heap) (target_at heap.setup.types (word_in heap) p)) (clears heap.setup.types (word_in heap) s.name (is_white store)) heap.weaks
      (λ p t. let there = weak_there heap store s p t in sym (clears_is heap store s pinned marked marking p there.0 there.1))) in
      record {
        just = subst (λ (xs : List ℕ). IsPermutation xs cleared) losing (subst (λ (xs : List ℕ). IsPermutation (births_losing heap.setup.types (word_in heap) (is_unvisited heap.nursery.words (word_in heap)) heap.weaks) xs) (sym told.behind) told.just);
        order = subst (λ (xs : List ℕ). IsNonDecreasing xs) (sym told.behind) told.rising;
      }
