-- Checks that refuse a line, each over just what it looks at.
use Rattle.std.specs.Prelude.{ℕ, Bool, ◌&&◌, ◌||◌, not, nat_lt, nat_le, is_some, is_none, List, [], ◌∷◌, Option, Some, None, slice_get, if◌then◌else◌}
use Rattle.type_table.specs.declared.info.Shape.{Shape}
use Rattle.type_table.specs.declared.info.TypeInfo.{TypeInfo}
use Rattle.text_model.specs.declared.item.Reason.{Reason}
use Rattle.text_model.specs.declared.item.Reason.TheVariants.{Late, SetTwice, SetRange, TypeTwice, TooManyTypes, NoRoot, NilRoot, NoType, WrongShape, NoItem}
use Rattle.object_model.specs.declared.kind.Kind.{Kind}
use Rattle.object_model.specs.SettingRanges.{ranges, is_outside}
use Rattle.object_model.specs.Shapes.{has_shape, ints_in, refs_in, has_ints, has_refs}

-- checks in their order, each with the reason that it gives where it holds
abbrev pub Checks : Type 0
Checks = List (Bool × Reason)

-- the first reason whose check holds
abbrev pub first_reason : Checks → Option Reason
first_reason [] = None
first_reason (check ∷ checks) = if check.0 then Some check.1 else first_reason checks

-- of a setting: whether a command came, whether its name was set, its number and its value
abbrev pub setting_checks : Bool → Bool → ℕ → ℕ → Checks
setting_checks late is_set name value = (late, Late) ∷ (is_set, SetTwice) ∷ (is_outside (slice_get ranges name) value, SetRange) ∷ []

-- of a type: whether a command came, the type of that id, and how many types there are
abbrev pub type_checks : Bool → Option TypeInfo → ℕ → Checks
type_checks late known count = (late, Late) ∷ (is_some known, TypeTwice) ∷ (nat_le 4096 count, TooManyTypes) ∷ []

-- of the slots that a command names: how many there are
abbrev pub slots_checks : ℕ → List ℕ → Checks
slots_checks roots [] = []
slots_checks roots (slot ∷ slots) = (nat_le roots slot, NoRoot) ∷ slots_checks roots slots

-- of what a slot holds, which must be something
abbrev pub found_checks : Option Kind → Checks
found_checks found = (is_none found, NilRoot) ∷ []

-- of the type of a birth, whose shape must pass the test
abbrev pub born_checks : Option TypeInfo → (Shape → Bool) → Checks
born_checks info test = (is_none info, NoType) ∷ (not (has_shape test info), WrongShape) ∷ []

-- of the use of a whole number: what is in the slot, and the item
abbrev pub int_checks : Option Kind → ℕ → Checks
int_checks found item = (is_none found, NilRoot) ∷ (not (has_ints found), WrongShape) ∷ (nat_le (ints_in found) item, NoItem) ∷ []

-- of the use of a reference: what is in the slot, and the item
abbrev pub ref_checks : Option Kind → ℕ → Checks
ref_checks found item = (is_none found, NilRoot) ∷ (not (has_refs found), WrongShape) ∷ (nat_le (refs_in found) item, NoItem) ∷ []

-- of a copy of references: what is in the two slots, and the ends of the two ranges of items
abbrev pub copy_checks : Option Kind → Option Kind → ℕ → ℕ → Checks
copy_checks found from end from_end =
    (is_none found, NilRoot) ∷ (is_none from, NilRoot)
    ∷ (not (has_refs found && has_refs from), WrongShape)
    ∷ (nat_lt (refs_in found) end || nat_lt (refs_in from) from_end, NoItem) ∷ []
