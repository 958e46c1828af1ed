-- What a minor collection queues for marking.
use Rattle.std.specs.Prelude.{◌≡◌, ◌≢◌, ℕ, ◌+◌, ◌<◌, ◌⊎◌, false, IsTrue, List}
use Rattle.type_table.specs.declared.info.TypeInfo.{TypeInfo}
use Rattle.type_table.specs.Table.{Table}
use Rattle.object_model.specs.ObjectWords.{layout_at}
use Rattle.remember_cards.specs.Remembered.{held_places}
use Rattle.heap_parts.specs.Parts.{HeapParts}
use Rattle.heap_parts.specs.Places.{is_young, old_places, AreAmong}
use Rattle.object_model.specs.Sets.{is_in}
use Rattle.object_model.specs.Object.{Object, object_at}
use Rattle.store_model.specs.Roots.{referents_in}

-- a gray birth that was queued: that of a settled object to which a visited one refers
pub record ComesGray (kept : List Object) (settled visited : List ℕ) (y : ℕ) : Type 0 where
  pub from : ℕ
  pub visits : IsTrue (is_in from visited)
  pub refers : IsTrue (is_in y (referents_in (object_at kept from)))
  pub now_settled : IsTrue (is_in y settled)

-- a place that was queued: an item of one of these objects leads to it, outside the nursery
pub record IsQueuedFrom (types : Table TypeInfo) (word : ℕ → ℕ) (written : List ℕ) (place : ℕ) : Type 0 where
  pub from : ℕ
  pub item : ℕ
  pub there : IsTrue (is_in from written)
  pub within : item < (layout_at types word from).ref_count
  pub is : place ≡ word ((layout_at types word from).ref_start + item)
  pub some : place ≢ 0
  pub old : is_young place ≡ false

-- What the code queues once no object is to be opened any more. written: the visited objects that were remembered as the collection
-- began; gray and after: what was gray before, and is from now on.
pub record QueuesWritten (start : HeapParts) (word name : ℕ → ℕ) (places visited written gray after : List ℕ) : Type 0 where
  pub listed : (q : ℕ) → IsTrue (is_in q (held_places start.remembered)) → IsTrue (is_in (name q) visited) → IsTrue (is_in q written)
  pub just : (q : ℕ) → IsTrue (is_in q written) → IsTrue (is_in q (old_places places)) × IsTrue (is_in (name q) visited)
  pub more : AreAmong after gray
  pub from : (p : ℕ) → IsTrue (is_in p after) → IsTrue (is_in p gray) ⊎ IsQueuedFrom start.setup.types word written p
  pub all : (q j : ℕ) → IsTrue (is_in q written) → j < (layout_at start.setup.types word q).ref_count
      → word ((layout_at start.setup.types word q).ref_start + j) ≢ 0 → is_young (word ((layout_at start.setup.types word q).ref_start + j)) ≡ false
      → IsTrue (is_in (word ((layout_at start.setup.types word q).ref_start + j)) after) ⊎ IsTrue (is_in (name (word ((layout_at start.setup.types word q).ref_start + j))) visited)
