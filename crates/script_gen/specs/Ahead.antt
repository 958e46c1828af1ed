-- What a generator has still to give.
use Rattle.std.specs.Prelude.{ℕ, Bool, true, false, List, [], ◌∷◌, ◌++◌, drop, map}
use Rattle.text_model.specs.declared.command.Command.{Command}
use Rattle.text_model.specs.declared.command.Command.TheVariants.{Collect}
use Rattle.text_model.specs.declared.item.Item.{Item}
use Rattle.text_model.specs.declared.item.Item.TheVariants.{Command as CommandItem}
use Rattle.text_model.specs.Generated.{generated_header, filling_commands, drawn_commands}

-- the collection at the end, unless it was given
abbrev pub last_command : Bool → List Command
last_command true = []
last_command false = Collect ∷ []

-- the commands, where so many of those that fill the slots were given, and so many are to be drawn behind x
abbrev pub commands_ahead : ℕ → ℕ → ℕ → Bool → List Command
commands_ahead filled x left collected = drop filled filling_commands ++ (drawn_commands x left ++ last_command collected)

-- the items, where so many of the settings and types were given
abbrev pub items_ahead : ℕ → List Command → List Item
items_ahead given commands = drop given generated_header ++ map CommandItem commands
