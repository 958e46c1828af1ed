-- The first reason for which an item is refused where a script stands, if there is one.
use Rattle.std.specs.Prelude.{ℕ, ◌+◌, Bool, List, [], ◌∷◌, ◌++◌, Option, None, length}
use Rattle.type_table.specs.Table.{value_at}
use Rattle.text_model.specs.declared.command.Command.{Command}
use Rattle.text_model.specs.declared.command.Command.TheVariants.{NewFixed, NewArray, NewWeak, Put, Get, Link, Load, CopyRefs, MoveRoot, DropRoot, Same, Ident, Hash, Place, Pin, Unpin, Deref, Register, NextFinal, MakeLink, Inc, Dec, Count, FromObj, ToObj, NextDead, Minor, Step, Collect, Used}
use Rattle.text_model.specs.declared.item.Item.{Item}
use Rattle.text_model.specs.declared.item.Item.TheVariants.{Blank, Setting, TypeDef, Command as CommandItem}
use Rattle.text_model.specs.declared.item.Reason.{Reason}
use Rattle.text_model.specs.declared.item.Reason.TheVariants.{Range}
use Rattle.object_model.specs.Sets.{is_in}
use Rattle.object_model.specs.Setup.{Setup, type_at}
use Rattle.store_model.specs.Look.{Look, look}
use Rattle.object_model.specs.Shapes.{is_fixed_shape, is_array_shape, is_weak_shape}
use Rattle.text_model.specs.Range.{is_above}
use Rattle.store_model.specs.Checks.{Checks, first_reason, setting_checks, type_checks, slots_checks, found_checks, born_checks, int_checks, ref_checks, copy_checks}
use Rattle.store_model.specs.StructChecks.{weak_checks, unpin_checks, queue_checks, register_checks, link_checks, struct_checks, inc_checks, dec_checks}
use Rattle.store_model.specs.Progress.{Progress}

-- the root slots that a command names, in order of writing
abbrev pub slots_of : Command → List ℕ
slots_of (NewFixed root type_id) = root ∷ []
slots_of (NewArray root type_id len) = root ∷ []
slots_of (NewWeak root type_id target) = root ∷ target ∷ []
slots_of (Put root item value) = root ∷ []
slots_of (Get root item) = root ∷ []
slots_of (Link root item from) = root ∷ from ∷ []
slots_of (Load to root item) = to ∷ root ∷ []
slots_of (CopyRefs root item from from_item count) = root ∷ from ∷ []
slots_of (MoveRoot to from) = to ∷ from ∷ []
slots_of (DropRoot root) = root ∷ []
slots_of (Same a b) = a ∷ b ∷ []
slots_of (Ident root) = root ∷ []
slots_of (Hash root) = root ∷ []
slots_of (Place root) = root ∷ []
slots_of (Pin root) = root ∷ []
slots_of (Unpin root) = root ∷ []
slots_of (Deref to root) = to ∷ root ∷ []
slots_of (Register root queue) = root ∷ []
slots_of (NextFinal to queue) = to ∷ []
slots_of (MakeLink p number root light own) = root ∷ []
slots_of (Inc number) = []
slots_of (Dec number) = []
slots_of (Count number) = []
slots_of (FromObj root) = root ∷ []
slots_of (ToObj to number) = to ∷ []
slots_of NextDead = []
slots_of Minor = []
slots_of Step = []
slots_of Collect = []
slots_of Used = []

-- the checks on what the slots and numbers of a command lead to
abbrev pub further_checks : Setup → Look → Command → Checks
further_checks setup seen (NewFixed root type_id) = born_checks (type_at setup type_id) is_fixed_shape
further_checks setup seen (NewArray root type_id len) = born_checks (type_at setup type_id) is_array_shape
further_checks setup seen (NewWeak root type_id target) =
    found_checks (seen.kind target) ++ born_checks (type_at setup type_id) is_weak_shape
further_checks setup seen (Put root item value) = int_checks (seen.kind root) item
further_checks setup seen (Get root item) = int_checks (seen.kind root) item
further_checks setup seen (Link root item from) = ref_checks (seen.kind root) item
further_checks setup seen (Load to root item) = ref_checks (seen.kind root) item
further_checks setup seen (CopyRefs root item from from_item count) =
    copy_checks (seen.kind root) (seen.kind from) (item + count) (from_item + count)
further_checks setup seen (MoveRoot to from) = []
further_checks setup seen (DropRoot root) = []
further_checks setup seen (Same a b) = []
further_checks setup seen (Ident root) = found_checks (seen.kind root)
further_checks setup seen (Hash root) = found_checks (seen.kind root)
further_checks setup seen (Place root) = found_checks (seen.kind root)
further_checks setup seen (Pin root) = found_checks (seen.kind root)
further_checks setup seen (Unpin root) =
    found_checks (seen.kind root) ++ unpin_checks (seen.is_pinned root)
further_checks setup seen (Deref to root) = weak_checks (seen.kind root)
further_checks setup seen (Register root queue) =
    found_checks (seen.kind root)
    ++ (queue_checks setup.settings.queues queue ++ register_checks (seen.was_registered root))
further_checks setup seen (NextFinal to queue) = queue_checks setup.settings.queues queue
further_checks setup seen (MakeLink p number root light own) =
    found_checks (seen.kind root)
    ++ link_checks (seen.structure number) p (seen.has_p_link root)
further_checks setup seen (Inc number) = inc_checks (seen.structure number)
further_checks setup seen (Dec number) = dec_checks (seen.structure number)
further_checks setup seen (Count number) = struct_checks (seen.structure number)
further_checks setup seen (FromObj root) = found_checks (seen.kind root)
further_checks setup seen (ToObj to number) = struct_checks (seen.structure number)
further_checks setup seen NextDead = []
further_checks setup seen Minor = []
further_checks setup seen Step = []
further_checks setup seen Collect = []
further_checks setup seen Used = []

-- the checks of a command none of whose numbers is out of range, in order
abbrev pub checks_in_range : Setup → Look → Command → Checks
checks_in_range setup seen command = slots_checks setup.settings.roots (slots_of command) ++ further_checks setup seen command

-- all checks of a command, in order
abbrev pub command_checks : Setup → Look → Command → Checks
command_checks setup seen command = (is_above command, Range) ∷ checks_in_range setup seen command

-- Why an item is refused where settings and types are so, these settings were set, a command came or not, and the store looks so.
unfoldable pub refusal_seen : Setup → List ℕ → Bool → Look → Item → Option Reason
refusal_seen setup names late seen Blank = None
refusal_seen setup names late seen (Setting name value) = first_reason (setting_checks late (is_in name names) name value)
refusal_seen setup names late seen (TypeDef id info) =
    first_reason (type_checks late (value_at setup.types id) (length setup.types))
refusal_seen setup names late seen (CommandItem command) = first_reason (command_checks setup seen command)

-- why an item is refused where a script stands, if it is
abbrev pub refusal : Progress → Item → Option Reason
refusal at item = refusal_seen at.setup at.set_names at.late (look at.store) item
