-- The commands by what they work on.
use Rattle.std.specs.Prelude.{Bool, true, false, ◌||◌}
use Rattle.text_model.specs.declared.command.Command.{Command}
use Rattle.text_model.specs.declared.command.Command.TheVariants.{NewFixed, NewArray, NewWeak, Put, Get, Link, Load, CopyRefs, MoveRoot, DropRoot, Same, Ident, Hash, Place, Pin, Unpin, Deref, Register, NextFinal, Minor, Step, Collect, Used}

-- births and collections
abbrev pub may_collect : Command → Bool
may_collect (NewFixed root type_id) = true
may_collect (NewArray root type_id len) = true
may_collect (NewWeak root type_id target) = true
may_collect Minor = true
may_collect Step = true
may_collect Collect = true
may_collect command = false

-- items of objects, root slots, and the words in use
abbrev pub is_on_objects : Command → Bool
is_on_objects (Put root item value) = true
is_on_objects (Get root item) = true
is_on_objects (Link root item from) = true
is_on_objects (Load to root item) = true
is_on_objects (CopyRefs root item from from_item count) = true
is_on_objects (MoveRoot to from) = true
is_on_objects (DropRoot root) = true
is_on_objects (Same a b) = true
is_on_objects Used = true
is_on_objects command = false

-- identities, where objects are, and pins
abbrev pub is_on_identity : Command → Bool
is_on_identity (Ident root) = true
is_on_identity (Hash root) = true
is_on_identity (Place root) = true
is_on_identity (Pin root) = true
is_on_identity (Unpin root) = true
is_on_identity command = false

-- targets of weak objects, registrations and queues
abbrev pub is_on_finalizers : Command → Bool
is_on_finalizers (Deref to root) = true
is_on_finalizers (Register root queue) = true
is_on_finalizers (NextFinal to queue) = true
is_on_finalizers command = false

-- births, collections, and what works on objects and slots
abbrev pub is_early : Command → Bool
is_early command = may_collect command || is_on_objects command

-- these, and identities and pins
abbrev pub is_middle : Command → Bool
is_middle command = is_early command || is_on_identity command

-- all but those on C structures
abbrev pub is_no_struct : Command → Bool
is_no_struct command = is_middle command || is_on_finalizers command
