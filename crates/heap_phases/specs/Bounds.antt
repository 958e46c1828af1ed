-- What else holds of steps: how many units are swept, and what a cycle leaves of what it found to be dead.
use Rattle.std.specs.Prelude.{◌≡◌, ◌+◌, ◌↔◌, min, []}
use Rattle.old_space.specs.Sweeping.{units_left}
use Rattle.text_model.specs.declared.line.Phase.TheVariants.{Finalizing}
use Rattle.store_model.specs.Store.{Store}
use Rattle.store_model.specs.Sound.{AreGone}
use Rattle.heap_parts.specs.Parts.{HeapParts}
use Rattle.heap_parts.specs.Collects.{IsCollected}

-- so many units are swept as the setting says, or all that wait, and sweeping is over exactly where none waits then
pub record SweepsUnits (old new : HeapParts) : Type 0 where
  pub fewer : units_left new.old_blocks + min old.setup.settings.sweep (units_left old.old_blocks) ≡ units_left old.old_blocks
  pub over : (new.phase ≡ Finalizing) ↔ (units_left new.old_blocks ≡ 0)

-- no husk is left, and no object is kept that was not retained where the cycle began, and was not revived
pub record LeavesNone (old new : HeapParts) : Type 0 where
  pub husks : new.husk_list ≡ []
  pub doomed : (store : Store) → IsCollected old store → AreGone store.kept store.doomed
