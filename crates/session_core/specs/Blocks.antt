-- Where an item leaves off for which memory ran out.
use Rattle.std.specs.Prelude.{◌≡◌, Bool, true, false, List, ◌⊎◌}
use Rattle.text_model.specs.declared.command.Command.{Command}
use Rattle.text_model.specs.declared.command.Command.TheVariants.{NewFixed, NewArray, NewWeak, Step, Collect}
use Rattle.text_model.specs.declared.item.Item.{Item}
use Rattle.text_model.specs.declared.item.Item.TheVariants.{Command as CommandItem}
use Rattle.text_model.specs.declared.line.Line.{Line}
use Rattle.object_model.specs.declared.settings.Settings.{Settings}
use Rattle.store_model.specs.Store.{Store}
use Rattle.store_model.specs.Collections.{Block}
use Rattle.store_model.specs.Progress.{Progress, after_command}

-- whether a command may make blocks of collections
abbrev pub makes_blocks : Command → Bool
makes_blocks (NewFixed root type_id) = true
makes_blocks (NewArray root type_id len) = true
makes_blocks (NewWeak root type_id target) = true
makes_blocks Step = true
makes_blocks Collect = true
makes_blocks command = false

-- whole blocks lead from one store to another, one after the other
pub data LeadsByBlocks (settings : Settings) : Store → Store → Type 0 where
  NoBlock : {store : Store} → LeadsByBlocks settings store store
  BlockMore : {old mid new : Store} {is_due : Store → Bool} {lines : List Line} → Block is_due settings old lines mid →
      LeadsByBlocks settings mid new → LeadsByBlocks settings old new

-- what a command that may make blocks, or may not, leaves of a store when memory runs out in it
abbrev pub LeavesStore : Bool → Settings → Store → Store → Type 0
LeavesStore true settings old new = LeadsByBlocks settings old new
LeavesStore false settings old new = new ≡ old

-- Where an item leaves off for which memory ran out: nothing was done, or of a command no more than whole blocks of its collections.
unfoldable pub LeavesOff : Progress → Item → Progress → Type 0
LeavesOff old (CommandItem command) new =
    (new ≡ old) ⊎ ((store : Store) × LeavesStore (makes_blocks command) old.setup.settings old.store store × (new ≡ after_command old store))
LeavesOff old item new = new ≡ old
