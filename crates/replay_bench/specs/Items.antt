-- What the calls inside ask and say: of one item, and of all items.
use Rattle.std.specs.Prelude.{◌≡◌, ℕ, List, length, None}
use Rattle.text_model.specs.declared.item.Item.{Item}
use Rattle.store_model.specs.Progress.{Progress, at_start}
use Rattle.store_model.specs.Refusal.{refusal}
use Rattle.store_model.specs.Transcript.{Group, ItemDoes, ItemExceeds, Runs, group_lines}
use Rattle.heap_core.specs.Heap.{HeapSeen}
use Rattle.session_core.specs.Seen.{SessionSeen}
use Rattle.session_core.specs.Standing.{StandsAt}
use Rattle.replay_bench.specs.declared.tally.Tally.{Tally}
use Rattle.replay_bench.specs.Summary.{tally_of, tally_plus}

-- Session and heap stand where some script has come to, and there the item is not refused, nor is it by the limit.
pub record CanDoItem (session : SessionSeen) (heap : HeapSeen) (item : Item) : Type 0 where
  pub at : Progress
  pub stands : StandsAt session heap at
  pub accepted : refusal at item ≡ None
  pub within : (counted request limit : ℕ) (groups : List Group) (after : Progress) → ItemExceeds at item counted request limit groups after → ⊥

-- From `at`, the item was done, and its groups are counted.
pub record CountsItem (at : Progress) (item : Item) (tally new : Tally) (session : SessionSeen) (heap : HeapSeen) : Type 0 where
  pub groups : List Group
  pub after : Progress
  pub accepted : refusal at item ≡ None
  pub does : ItemDoes at item groups after
  pub counted : new ≡ tally_plus tally (length groups) (group_lines groups)
  pub stands : StandsAt session heap after

-- The items are done, their groups are counted, and session and heap stand there.
pub record CountsItems (items : List Item) (tally : Tally) (session : SessionSeen) (heap : HeapSeen) : Type 0 where
  pub groups : List Group
  pub at : Progress
  pub runs : Runs at_start items groups at
  pub counted : tally ≡ tally_of groups
  pub stands : StandsAt session heap at
