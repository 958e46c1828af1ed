-- An item's line is read as that item, and as no other.
use Rattle.std.proofs.Common.{◌≡◌, ℕ, ◌^◌, ◌<◌, ◌≤◌, Bool, true, false, List, [], ◌∷◌, ◌++◌, Option, Some, None, Result, Ok, refl, ap, ◌∙◌, arith}
use Rattle.std.specs.Prelude.{decimal, codes, ◌==◌, slice_index_or, ◌↔◌}
use Rattle.std.proofs.lemmas.Bool.{or_parts, eqb-true, agree_below_at}
use Rattle.type_table.specs.declared.info.Shape.{Shape}
use Rattle.type_table.specs.declared.info.Shape.TheVariants.{Fixed, IntArray, RefArray, Weak}
use Rattle.type_table.specs.declared.info.TypeInfo.{TypeInfo}
use Rattle.text_model.specs.declared.item.Item.{Item}
use Rattle.text_model.specs.declared.item.Item.TheVariants.{Blank, Setting, TypeDef, Command as CommandItem}
use Rattle.text_model.specs.declared.item.BadLine.{BadLine}
use Rattle.text_model.specs.Range.{is_above_ids}
use Rattle.text_model.specs.Grammar.{setting_names, setting_of, setting_form, shape_words, end_of_type, is_above_shape, type_form, form_of, item_of}
use Rattle.text_model.specs.ItemText.{decimals, shape_text, destructor_text, item_text}
use Rattle.text_model.specs.ItemLine.{IsTypeInRange, HasLine, is_blank, IsLineOf}
use Rattle.script_text.proofs.Separated.{is_word}
use Rattle.script_text.proofs.Decimals.{is_word-decimal}
use Rattle.script_text.proofs.ReadWords.{number_word-decimal, one_number-decimals}
use Rattle.script_text.proofs.Joined.{are_words, item_of-joined}
use Rattle.script_text.proofs.CommandReading.{command_words-read, id_small}
use Rattle.script_text.proofs.ItemSpelling.{item_of-is}

-- whether this place was found
found_at : ℕ → Option ℕ → Bool
found_at place None = false
found_at place (Some k) = k == place

found_at-is : (place : ℕ) (o : Option ℕ) → found_at place o ≡ true → o ≡ Some place
unfolding found_at
found_at-is place None h = cc
found_at-is place (Some k) h = ap Some (eqb-true k place h)

-- each setting's name is found at its place
setting_of-name : (name : ℕ) → name ≤ 12 → setting_of (slice_index_or setting_names name []) ≡ Some name
unfolding setting_of found_at
setting_of-name name within =
    found_at-is name (setting_of (slice_index_or setting_names name []))
    (agree_below_at (λ k. found_at k (setting_of (slice_index_or setting_names k []))) (λ k. true) 13 name refl (omega arith))

is_word-name : (name : ℕ) → name ≤ 12 → is_word (slice_index_or setting_names name []) ≡ true
is_word-name name within = agree_below_at (λ k. is_word (slice_index_or setting_names k [])) (λ k. true) 13 name refl (omega arith)

setting-read : (name value : ℕ) → name ≤ 12 → value < 2 ^ 64 → item_of (item_text (Setting name value)) ≡ Ok (Setting name value)
unfolding form_of setting_form
setting-read name value within small =
    item_of-joined (codes "set") (slice_index_or setting_names name [] ∷ decimals (value ∷ [])) refl (rw (is_word-name name within, is_word-decimal value small) refl)
    ∙ rw (setting_of-name name within, one_number-decimals value small) refl

shape_words-text : (shape : Shape) (words : List (List ℕ)) → is_above_shape shape ≡ false
    → shape_words (shape_text shape ++ words) ≡ Ok (shape, words)
unfolding shape_words
shape_words-text (Fixed ints refs) words below =
    let p = or_parts (is_above_ids ints) (is_above_ids refs) below in
    rw (number_word-decimal ints (decimal refs ∷ words) (id_small ints p.0), number_word-decimal refs words (id_small refs p.1)) refl
shape_words-text IntArray words below = refl
shape_words-text RefArray words below = refl
shape_words-text Weak words below = refl

end_of_type-text : (shape : Shape) (destructor : Bool) → (shape ≡ Weak → destructor ≡ false)
    → end_of_type shape (destructor_text destructor) ≡ Ok destructor
end_of_type-text (Fixed ints refs) true weak = refl
end_of_type-text (Fixed ints refs) false weak = refl
end_of_type-text IntArray true weak = refl
end_of_type-text IntArray false weak = refl
end_of_type-text RefArray true weak = refl
end_of_type-text RefArray false weak = refl
end_of_type-text Weak true weak = cc (weak refl)
end_of_type-text Weak false weak = refl

are_words-destructor : (destructor : Bool) → are_words (destructor_text destructor) ≡ true
are_words-destructor true = refl
are_words-destructor false = refl

are_words-type : (shape : Shape) (destructor : Bool) → is_above_shape shape ≡ false
    → are_words (shape_text shape ++ destructor_text destructor) ≡ true
are_words-type (Fixed ints refs) destructor below =
    let p = or_parts (is_above_ids ints) (is_above_ids refs) below in
    rw (is_word-decimal ints (id_small ints p.0), is_word-decimal refs (id_small refs p.1)) (are_words-destructor destructor)
are_words-type IntArray destructor below = are_words-destructor destructor
are_words-type RefArray destructor below = are_words-destructor destructor
are_words-type Weak destructor below = are_words-destructor destructor

type-read : (number : ℕ) (info : TypeInfo) → IsTypeInRange number info
    → item_of (item_text (TypeDef number info)) ≡ Ok (TypeDef number info)
unfolding form_of type_form
type-read number info is =
    let small = id_small number is.id_below in
    let behind = shape_text info.shape ++ destructor_text info.destructor in
    item_of-joined (codes "type") (decimal number ∷ behind) refl (rw (is_word-decimal number small) (are_words-type info.shape info.destructor is.shape_below))
    ∙ rw (
      number_word-decimal number behind small,
      shape_words-text info.shape (destructor_text info.destructor) is.shape_below,
      end_of_type-text info.shape info.destructor is.weak,
      is.id_below,
      is.shape_below,
    ) refl

-- the line of an item says that item
pub item_text-read : (item : Item) → HasLine item → item_of (item_text item) ≡ Ok item
item_text-read Blank has = absurd has
item_text-read (Setting name value) has = setting-read name value has.0 has.1
item_text-read (TypeDef number info) has = type-read number info has
item_text-read (CommandItem command) has = command_words-read command has

blank-read : (line : List ℕ) → is_blank line ≡ true → item_of line ≡ Ok Blank
unfolding item_of
blank-read [] is = refl
blank-read (b ∷ bytes) is = rw is refl

line-read : (item : Item) (line : List ℕ) → IsLineOf item line → item_of line ≡ Ok item
line-read Blank line is = blank-read line is
line-read (Setting name value) line is = ap item_of is.1 ∙ item_text-read (Setting name value) is.0
line-read (TypeDef number info) line is = ap item_of is.1 ∙ item_text-read (TypeDef number info) is.0
line-read (CommandItem command) line is = ap item_of is.1 ∙ item_text-read (CommandItem command) is.0

-- a line says an item just where it is that item's line
pub says_its_item : (line : List ℕ) (item : Item) → (item_of line ≡ Ok item) ↔ IsLineOf item line
says_its_item line item = (item_of-is line item, line-read item line)

-- the same of an answer
pub answers_its_item : (line : List ℕ) (result : Result Item BadLine) → result ≡ item_of line → (item : Item)
    → (result ≡ Ok item) ↔ IsLineOf item line
answers_its_item line result is item = rw is (says_its_item line item)
