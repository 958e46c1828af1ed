-- Items of a settled object are remembered before they are written.
use Rattle.std.specs.Prelude.{◌≡◌, ℕ, ◌+◌, ◌^◌, ◌<◌, ◌≤◌, IsTrue}
use Rattle.heap_space.specs.Places.{has}
use Rattle.remember_cards.specs.Remembered.{RemembersMore, is_held}
use Rattle.remember_cards.specs.Tracking.{IsTracked, items_head}
use Rattle.parts_model.specs.Parts.{HeapParts, word_in}
use Rattle.parts_model.specs.Effects.{with_word_at}

-- the flags of the object at a place tell what is remembered of it
pub record CanRemember (heap : HeapParts) (place item count : ℕ) : Type 0 where
  pub there : IsTrue (has heap.memory.blocks place)
  pub tracked : IsTracked heap.remembered place (word_in heap place)
  pub items_small : item + count < 2 ^ 64

-- so many items are remembered from then on, and no less than before; only the first word of the object changes beside that
pub record RemembersItems (old new : HeapParts) (place item count : ℕ) : Type 0 where
  pub only : new ≡ record (with_word_at old place (items_head (word_in old place) count)) { remembered = new.remembered }
  pub more : RemembersMore old.remembered new.remembered place
  pub tracked : IsTracked new.remembered place (word_in new place)
  pub covered : (j : ℕ) → item ≤ j → j < item + count → IsTrue (is_held new.remembered place j)
