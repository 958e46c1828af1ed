-- The piece of an item that is not blank.
use Rattle.std.proofs.Common.{◌≡◌, [], ◌∷◌, ◌++◌, true, false, refl}
use Rattle.text_model.specs.declared.item.Item.{Item}
use Rattle.text_model.specs.declared.item.Item.TheVariants.{Blank, Setting, TypeDef, Command as CommandItem}
use Rattle.text_model.specs.ItemLine.{HasLine}
use Rattle.text_model.specs.ItemText.{item_text}
use Rattle.text_model.specs.Binary.{item_record}
use Rattle.script_convert.specs.Reader.{IsSaid}
use Rattle.script_convert.specs.Convert.{item_piece}

pub line_is : (item : Item) → (item ≡ Blank → ⊥) → item_piece true item ≡ item_text item ++ 10 ∷ []
line_is Blank other = absurd (other refl)
line_is (Setting name value) other = refl
line_is (TypeDef id info) other = refl
line_is (CommandItem command) other = refl

pub record_is : (item : Item) → (item ≡ Blank → ⊥) → item_piece false item ≡ item_record item
record_is Blank other = absurd (other refl)
record_is (Setting name value) other = refl
record_is (TypeDef id info) other = refl
record_is (CommandItem command) other = refl

pub has_line : (item : Item) → (item ≡ Blank → ⊥) → IsSaid item → HasLine item
has_line Blank other said = absurd (other refl)
has_line (Setting name value) other said = said
has_line (TypeDef id info) other said = said
has_line (CommandItem command) other said = said
