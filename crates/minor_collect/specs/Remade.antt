-- The nursery is made anew around the pinned objects.
use Rattle.std.specs.Prelude.{◌≡◌, ℕ, ◌+◌, ◌<◌, ◌≤◌, ◌^◌, IsTrue, List, map, length, nat_lt, nat_eq, sum_by}
use Rattle.std.specs.List.{IsDistinct}
use Rattle.std.specs.List.Sorted.{IsPermutation, IsNonDecreasing}
use Rattle.nursery_gaps.specs.Ranges.{Range}
use Rattle.nursery_gaps.specs.Nursery.{IsLaidOut}
use Rattle.object_view.specs.Views.{HasObject}
use Rattle.object_model.specs.Sets.{is_in}
use Rattle.object_model.specs.ObjectWords.{words_at}
use Rattle.heap_parts.specs.Parts.{HeapParts, word_in, pinned_places}
use Rattle.heap_parts.specs.Places.{block_at}

-- the words of the object at a place
abbrev pub words_of : HeapParts → ℕ → ℕ
words_of heap = words_at heap.setup.types (word_in heap)

-- an object stands at each of these places
abbrev pub AreObjectsAt : HeapParts → List ℕ → Type 0
AreObjectsAt heap places = (p : ℕ) → IsTrue (is_in p places) → HasObject heap.memory heap.setup.types p

-- The pinned objects are listed by rising place, each with its words, and these are so many in all.
pub record ListsPinned (now : HeapParts) (words : ℕ) (ranges : List Range) : Type 0 where
  pub sorted : List ℕ
  pub permuted : IsPermutation (pinned_places now) sorted
  pub many : length sorted ≡ length (pinned_places now)
  pub rise : IsNonDecreasing sorted
  pub are : ranges ≡ map (block_at now.setup.types (word_in now)) sorted
  pub words_are : words ≡ sum_by (words_of now) (pinned_places now)

-- The pinned objects are whole, stand apart from one another in the nursery, and are no more than may be pinned.
pub record CanRemake (now : HeapParts) : Type 0 where
  pub objects : AreObjectsAt now (pinned_places now)
  pub few : sum_by (words_of now) (pinned_places now) < 2 ^ 64
  pub differ : IsDistinct nat_eq (pinned_places now)
  pub above : (p : ℕ) → IsTrue (is_in p (pinned_places now)) → (1 ≤ p) × (0 < words_of now p)
  pub apart : (p q : ℕ) → IsTrue (is_in p (pinned_places now)) → IsTrue (is_in q (pinned_places now)) → p < q → p + words_of now p ≤ q
  pub inside : (p : ℕ) → IsTrue (is_in p (pinned_places now)) → p + words_of now p ≤ now.nursery.words + 1
  pub allowed : length now.pins ≤ now.nursery.pins

-- Of the nursery just the pinned objects are used.
pub record Remakes (old new : HeapParts) : Type 0 where
  pub sorted : List ℕ
  pub sorted_are : IsPermutation sorted (pinned_places old)
  pub is : new ≡ record old {
    nursery = record old.nursery { used = map (block_at old.setup.types (word_in old)) sorted; gap = 1; cursor = 1 };
    unsettled = sum_by (words_of old) (pinned_places old);
    gapped = nat_lt 0 (length old.pins);
  }
  pub laid_out : IsLaidOut new.nursery
