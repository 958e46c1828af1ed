-- A line that was read is the one line of its item.
use Rattle.std.proofs.Common.{◌≡◌, ℕ, ◌+◌, ◌<◌, suc, Bool, true, false, List, [], ◌∷◌, ◌++◌, length, Option, Some, None, Ok, refl, sym, ap, ◌∙◌, subst, inl, inr, arith, add-one}
use Rattle.std.specs.Prelude.{decimal, bytes_eq, codes, ◌||◌, ◌==◌, option_map, slice_index_or}
use Rattle.std.proofs.lemmas.Bool.{cases_Bool, or_parts}
use Rattle.std.proofs.lemmas.Slice.Eq.{bytes_eq-Decides}
use Rattle.type_table.specs.declared.info.Shape.{Shape}
use Rattle.type_table.specs.declared.info.Shape.TheVariants.{Fixed, IntArray, RefArray, Weak}
use Rattle.type_table.specs.declared.info.TypeInfo.{TypeInfo}
use Rattle.text_model.specs.declared.item.Item.{Item}
use Rattle.text_model.specs.declared.item.Item.TheVariants.{Blank, Setting, TypeDef, Command as CommandItem}
use Rattle.text_model.specs.declared.item.BadLine.TheVariants.{Range}
use Rattle.text_model.specs.Range.{is_above_ids}
use Rattle.text_model.specs.Numbers.{words_of, number_word, no_word, one_number}
use Rattle.text_model.specs.CommandGrammar.{command_form}
use Rattle.text_model.specs.Grammar.{setting_names, place_of, setting_of, setting_with, setting_form, fixed_shape, shape_words, destructor_word, end_of_type, is_above_shape, type_form, as_item, form_of, item_of}
use Rattle.text_model.specs.ItemText.{joined, shape_text, destructor_text, item_words, item_text}
use Rattle.text_model.specs.ItemLine.{HasLine, IsLineOf}
use Rattle.script_text.proofs.ReadWords.{both_gave, by_keyword, ok_unless, number_word-is, no_word-is, one_number-is}
use Rattle.script_text.proofs.CommandSpelling.{command_form-is}
use Rattle.script_text.proofs.Joined.{joined-words_of}

-- the words are those of the item's line
pub record IsItemSpelled (words : List (List ℕ)) (item : Item) : Type 0 where
  pub spelled : words ≡ item_words item
  pub has_line : HasLine item

-- the place is that of the word in the list
pub record IsPlaceOf (word : List ℕ) (names : List (List ℕ)) (place : ℕ) : Type 0 where
  pub within : place < length names
  pub there : slice_index_or names place [] ≡ word

next_place : (word name : List ℕ) (names : List (List ℕ)) (o : Option ℕ) (place : ℕ) → ((k : ℕ) → o ≡ Some k → IsPlaceOf word names k)
    → option_map (λ k. k + 1) o ≡ Some place → IsPlaceOf word (name ∷ names) place
next_place word name names None place found h = cc
next_place word name names (Some k) place found h =
    let is = found k refl in
    let same : k + 1 ≡ place = cc in
    let next : suc k ≡ place = sym (add-one k) ∙ same in
    subst (IsPlaceOf word (name ∷ names)) next (record { within = omega (arith, is.within); there = is.there })

place_of-is : (word : List ℕ) (names : List (List ℕ)) (place : ℕ) → place_of word names ≡ Some place → IsPlaceOf word names place
place_of-is word [] place h = cc
place_of-is word (name ∷ names) place h =
    elim (cases_Bool (bytes_eq word name)) [
      | inl e ↦
          let first : 0 ≡ place = cc (rw e at h) in
          subst (IsPlaceOf word (name ∷ names)) first (record { within = omega arith; there = sym ((bytes_eq-Decides word name).0 e) })
      | inr e ↦ next_place word name names (place_of word names) place (place_of-is word names) (rw e at h)
    ]

setting_with-is : (o : Option ℕ) (word : List ℕ) (words : List (List ℕ)) (item : Item)
    → ((k : ℕ) → o ≡ Some k → IsPlaceOf word setting_names k)
    → setting_with o words ≡ Ok item → IsItemSpelled (codes "set" ∷ word ∷ words) item
setting_with-is None word words item found h = cc
setting_with-is (Some name) word words item found h =
    both_gave _ (one_number words) (λ value. Ok (Setting name value)) item h (λ value number same.
    let is = found name refl in
    let read = one_number-is words value number in
    let made : Setting name value ≡ item = cc in
    subst (IsItemSpelled (codes "set" ∷ word ∷ words)) made (record {
      spelled = ap (λ w. codes "set" ∷ w ∷ words) (sym is.there) ∙ ap (λ ws. codes "set" ∷ slice_index_or setting_names name [] ∷ ws) read.0;
      has_line = (omega (arith, is.within), read.1);
    }))

setting_form-is : (words : List (List ℕ)) (item : Item) → setting_form words ≡ Ok item → IsItemSpelled (codes "set" ∷ words) item
unfolding setting_form setting_of
setting_form-is [] item h = cc
setting_form-is (word ∷ words) item h = setting_with-is (setting_of word) word words item (place_of-is word setting_names) h

destructor_word-is : (words : List (List ℕ)) (d : Bool) → destructor_word words ≡ Ok d → words ≡ destructor_text d
destructor_word-is [] d h = let given : false ≡ d = cc in ap destructor_text given
destructor_word-is (word ∷ words) d h =
    by_keyword (λ w. w ∷ words ≡ destructor_text d) word (codes "destructor") _ _ d h (λ h.
    both_gave _ (no_word words) _ d h (λ end none same.
    let given : true ≡ d = cc in
    ap (λ ws. codes "destructor" ∷ ws) (no_word-is words end none) ∙ ap destructor_text given)) (λ h. cc)

end_of_type-is : (shape : Shape) (words : List (List ℕ)) (d : Bool) → end_of_type shape words ≡ Ok d
    → (words ≡ destructor_text d) × (shape ≡ Weak → d ≡ false)
end_of_type-is (Fixed ints refs) words d h = (destructor_word-is words d h, λ e. cc)
end_of_type-is IntArray words d h = (destructor_word-is words d h, λ e. cc)
end_of_type-is RefArray words d h = (destructor_word-is words d h, λ e. cc)
end_of_type-is Weak words d h =
    both_gave _ (no_word words) _ d h (λ end none same.
    let given : false ≡ d = cc in
    (no_word-is words end none ∙ ap destructor_text given, λ e. sym given))

fixed_shape-is : (words : List (List ℕ)) (read : Shape × List (List ℕ)) → fixed_shape words ≡ Ok read
    → codes "fixed" ∷ words ≡ shape_text read.0 ++ read.1
fixed_shape-is words read h =
    both_gave _ (number_word words) _ read h (λ ints first more.
    both_gave _ (number_word ints.1) _ read more (λ refs second same.
    let one = number_word-is words ints first in
    let two = number_word-is ints.1 refs second in
    let made : (Fixed ints.0 refs.0, refs.1) ≡ read = cc in
    ap (λ ws. codes "fixed" ∷ ws) (one.0 ∙ ap (λ ws. decimal ints.0 ∷ ws) two.0) ∙ ap (λ x. shape_text x.0 ++ x.1) made))

shape_words-is : (words : List (List ℕ)) (read : Shape × List (List ℕ)) → shape_words words ≡ Ok read → words ≡ shape_text read.0 ++ read.1
unfolding shape_words
shape_words-is [] read h = cc
shape_words-is (word ∷ words) read h =
    let P : List ℕ → Type 0 = λ w. w ∷ words ≡ shape_text read.0 ++ read.1 in
    by_keyword P word (codes "fixed") _ _ read h (fixed_shape-is words read) (λ h.
    by_keyword P word (codes "ints") _ _ read h (λ h. let made : (IntArray, words) ≡ read = cc in ap (λ x. shape_text x.0 ++ x.1) made) (λ h.
    by_keyword P word (codes "refs") _ _ read h (λ h. let made : (RefArray, words) ≡ read = cc in ap (λ x. shape_text x.0 ++ x.1) made) (λ h.
    by_keyword P word (codes "weak") _ _ read h (λ h. let made : (Weak, words) ≡ read = cc in ap (λ x. shape_text x.0 ++ x.1) made) (λ h. cc))))

type_form-is : (words : List (List ℕ)) (item : Item) → type_form words ≡ Ok item → IsItemSpelled (codes "type" ∷ words) item
unfolding type_form
type_form-is words item h =
    both_gave _ (number_word words) _ item h (λ id first more.
    both_gave _ (shape_words id.1) _ item more (λ shape second more.
    both_gave _ (end_of_type shape.0 shape.1) _ item more (λ destructor last more.
    let info : TypeInfo = record { shape = shape.0; destructor = destructor } in
    let one = number_word-is words id first in
    let two = shape_words-is id.1 shape second in
    let three = end_of_type-is shape.0 shape.1 destructor last in
    let made = ok_unless (is_above_ids id.0 || is_above_shape shape.0) (TypeDef id.0 info) item Range more in
    let below = or_parts (is_above_ids id.0) (is_above_shape shape.0) made.0 in
    subst (IsItemSpelled (codes "type" ∷ words)) made.1 (record {
      spelled =
          ap (λ ws. codes "type" ∷ ws) one.0
          ∙ ap (λ ws. codes "type" ∷ decimal id.0 ∷ ws) two
          ∙ ap (λ ws. codes "type" ∷ decimal id.0 ∷ (shape_text shape.0 ++ ws)) three.0;
      has_line = record { id_below = below.0; shape_below = below.1; weak = three.1 };
    }))))

form_of-is : (words : List (List ℕ)) (item : Item) → form_of words ≡ Ok item → IsItemSpelled words item
unfolding form_of
form_of-is [] item h = cc
form_of-is (word ∷ words) item h =
    let P : List ℕ → Type 0 = λ w. IsItemSpelled (w ∷ words) item in
    by_keyword P word (codes "set") _ _ item h (setting_form-is words item) (λ h.
    by_keyword P word (codes "type") _ _ item h (type_form-is words item) (λ h.
    both_gave _ (command_form word words) as_item item h (λ command read same.
    let is = command_form-is word words command read in
    let made : CommandItem command ≡ item = cc in
    subst (IsItemSpelled (word ∷ words)) made (record { spelled = is.spelled; has_line = is.in_range }))))

-- a line that is not blank, by its words
line_of : (item : Item) (line : List ℕ) → HasLine item → line ≡ item_text item → IsLineOf item line
line_of Blank line h e = absurd h
line_of (Setting name value) line h e = (h, e)
line_of (TypeDef id info) line h e = (h, e)
line_of (CommandItem command) line h e = (h, e)

-- what a line says has this line
pub item_of-is : (line : List ℕ) (item : Item) → item_of line ≡ Ok item → IsLineOf item line
unfolding item_of
item_of-is [] item h = let made : Blank ≡ item = cc in subst (λ i. IsLineOf i []) made refl
item_of-is (b ∷ bytes) item h =
    elim (cases_Bool (b == 35)) [
      | inl e ↦ let made : Blank ≡ item = cc (rw e at h) in subst (λ i. IsLineOf i (b ∷ bytes)) made e
      | inr e ↦
          let is = form_of-is (words_of (b ∷ bytes)) item (rw e at h) in
          line_of item (b ∷ bytes) is.has_line (sym (joined-words_of (b ∷ bytes)) ∙ ap joined is.spelled)
    ]
