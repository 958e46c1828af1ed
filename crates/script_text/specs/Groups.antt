-- The groups of commands whose lines are printed by one function each.
use Rattle.std.specs.Prelude.{Bool, true, false}
use Rattle.text_model.specs.declared.command.Command.{Command}
use Rattle.text_model.specs.declared.command.Command.TheVariants.{NewFixed, NewArray, NewWeak, Put, Get, Link, Load, CopyRefs, MakeLink, Inc, Dec, Count, FromObj, ToObj, NextDead, Minor, Step, Collect, Used}

-- the commands on objects and their items
abbrev pub is_object_command : Command → Bool
is_object_command (NewFixed root type_id) = true
is_object_command (NewArray root type_id len) = true
is_object_command (NewWeak root type_id target) = true
is_object_command (Put root item value) = true
is_object_command (Get root item) = true
is_object_command (Link root item from) = true
is_object_command (Load to root item) = true
is_object_command (CopyRefs root item from from_item count) = true
is_object_command command = false

-- the commands on C structures and on the collector
abbrev pub is_structure_command : Command → Bool
is_structure_command (MakeLink p number root light own) = true
is_structure_command (Inc number) = true
is_structure_command (Dec number) = true
is_structure_command (Count number) = true
is_structure_command (FromObj root) = true
is_structure_command (ToObj to number) = true
is_structure_command NextDead = true
is_structure_command Minor = true
is_structure_command Step = true
is_structure_command Collect = true
is_structure_command Used = true
is_structure_command command = false
