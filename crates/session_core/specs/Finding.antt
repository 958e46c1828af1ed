-- What is looked at before a command, to know whether it is refused, and to do it.
use Rattle.std.specs.Prelude.{ℕ, Option, None}
use Rattle.text_model.specs.declared.command.Command.{Command}
use Rattle.text_model.specs.declared.command.Command.TheVariants.{NewFixed, NewArray, NewWeak, Put, Get, Link, Load, CopyRefs, Deref}
use Rattle.text_model.specs.declared.item.Item.{Item}
use Rattle.text_model.specs.declared.item.Item.TheVariants.{Command as CommandItem}
use Rattle.type_table.specs.declared.info.TypeInfo.{TypeInfo}
use Rattle.object_model.specs.declared.kind.Kind.{Kind}
use Rattle.object_model.specs.Setup.{Setup, type_at}
use Rattle.store_model.specs.Look.{Look}
use Rattle.heap_core.specs.declared.found.Found.{Found}
use Rattle.heap_core.specs.Found.{found_in}
use Rattle.heap_core.specs.Heap.{HeapSeen}

-- something of the slot whose object's items or target a command works on, if it is such a command
abbrev pub of_fields : {T : Type 0} → (ℕ → Option T) → Command → Option T
of_fields tell (Put root item value) = tell root
of_fields tell (Get root item) = tell root
of_fields tell (Link root item from) = tell root
of_fields tell (Load to root item) = tell root
of_fields tell (CopyRefs root item from from_item count) = tell root
of_fields tell (Deref to root) = tell root
of_fields tell command = None

-- something of the type of which a command asks for an object, if it is such a command
abbrev pub of_births : {T : Type 0} → (ℕ → Option T) → Command → Option T
of_births tell (NewFixed root type_id) = tell type_id
of_births tell (NewArray root type_id len) = tell type_id
of_births tell (NewWeak root type_id target) = tell type_id
of_births tell command = None

-- the type of which a command asks for an object
abbrev pub type_for : Setup → Command → Option TypeInfo
type_for setup command = of_births (type_at setup) command

abbrev pub type_by : Setup → Item → Option TypeInfo
type_by setup (CommandItem command) = type_for setup command
type_by setup item = None

-- something of the slot from whose object a command copies references, if it is such a command
abbrev pub of_sources : {T : Type 0} → (ℕ → Option T) → Command → Option T
of_sources tell (CopyRefs root item from from_item count) = tell from
of_sources tell command = None

-- what is seen of the object from which a command copies, and what a look tells of its kind
abbrev pub source_for : HeapSeen → Command → Option Found
source_for heap command = of_sources (found_in heap) command

abbrev pub source_by : HeapSeen → Item → Option Found
source_by heap (CommandItem command) = source_for heap command
source_by heap item = None

abbrev pub source_kind_for : Look → Command → Option Kind
source_kind_for look command = of_sources look.kind command

abbrev pub source_kind_by : Look → Item → Option Kind
source_kind_by look (CommandItem command) = source_kind_for look command
source_kind_by look item = None

-- what is seen of the object whose items a command works on
abbrev pub found_for : HeapSeen → Command → Option Found
found_for heap command = of_fields (found_in heap) command

abbrev pub found_by : HeapSeen → Item → Option Found
found_by heap (CommandItem command) = found_for heap command
found_by heap item = None

-- what a look tells of its shape and numbers of items
abbrev pub kind_for : Look → Command → Option Kind
kind_for look command = of_fields look.kind command

abbrev pub kind_by : Look → Item → Option Kind
kind_by look (CommandItem command) = kind_for look command
kind_by look item = None
