-- The numbers of a record have at most 64 bits.
use Rattle.std.proofs.Common.{◌≡◌, ℕ, zero, suc, ◌<◌, ◌^◌, Bool, true, false, List, [], ◌∷◌, arith}
use Rattle.std.specs.Prelude.{All}
use Rattle.std.proofs.lemmas.Bool.{or_parts, ltb-false}
use Rattle.type_table.specs.declared.info.Shape.{Shape}
use Rattle.type_table.specs.declared.info.Shape.TheVariants.{Fixed, IntArray, RefArray, Weak}
use Rattle.text_model.specs.declared.command.Command.{Command}
use Rattle.text_model.specs.declared.command.Command.TheVariants.{NewFixed, NewArray, NewWeak, Put, Get, Link, Load, CopyRefs, MoveRoot, DropRoot, Same, Ident, Hash, Place, Pin, Unpin, Deref, Register, NextFinal, MakeLink, Inc, Dec, Count, FromObj, ToObj, NextDead, Minor, Step, Collect, Used}
use Rattle.text_model.specs.declared.item.Item.{Item}
use Rattle.text_model.specs.declared.item.Item.TheVariants.{Blank, Setting, TypeDef, Command as CommandItem}
use Rattle.text_model.specs.Range.{is_above, is_above_ids, is_above_items, is_above_counts}
use Rattle.text_model.specs.Grammar.{is_above_shape}
use Rattle.text_model.specs.ItemLine.{HasLine, StoresWord}
use Rattle.text_model.specs.Binary.{bit, command_fields, type_fields, item_fields}
use Rattle.script_binary.specs.Fields.{AreWords}

abbrev Word : ℕ → Type 0
Word n = n < 2 ^ 64

none : All Word []
none k d within = absurd (omega (arith, within))

more : (a : ℕ) (ns : List ℕ) → Word a → All Word ns → All Word (a ∷ ns)
more a ns word words zero d within = word
more a ns word words (suc k) d within = words k d (omega (arith, within))

one : (a : ℕ) → Word a → All Word (a ∷ [])
one a wa = more a [] wa none

two : (a b : ℕ) → Word a → Word b → All Word (a ∷ b ∷ [])
two a b wa wb = more a (b ∷ []) wa (one b wb)

three : (a b c : ℕ) → Word a → Word b → Word c → All Word (a ∷ b ∷ c ∷ [])
three a b c wa wb wc = more a (b ∷ c ∷ []) wa (two b c wb wc)

five : (a b c d e : ℕ) → Word a → Word b → Word c → Word d → Word e → All Word (a ∷ b ∷ c ∷ d ∷ e ∷ [])
five a b c d e wa wb wc wd we = more a (b ∷ c ∷ d ∷ e ∷ []) wa (more b (c ∷ d ∷ e ∷ []) wb (three c d e wc wd we))

id_word : (n : ℕ) → is_above_ids n ≡ false → Word n
id_word n e = omega (arith, ltb-false 65535 n e)

item_word : (n : ℕ) → is_above_items n ≡ false → Word n
item_word n e = omega (arith, ltb-false 16777216 n e)

count_word : (n : ℕ) → is_above_counts n ≡ false → Word n
count_word n e = omega (arith, ltb-false 4294967295 n e)

bit_word : (b : Bool) → Word (bit b)
bit_word true = omega arith
bit_word false = omega arith

words_of_command : (c : Command) → is_above c ≡ false → StoresWord c → All Word (command_fields c).numbers
unfolding is_above command_fields
words_of_command (NewFixed root type_id) e stored =
    let p0 = or_parts (is_above_ids root) (is_above_ids type_id) e in
    two root type_id (id_word root p0.0) (id_word type_id p0.1)
words_of_command (NewArray root type_id len) e stored =
    let p0 = or_parts (is_above_ids root) _ e in
    let p1 = or_parts (is_above_ids type_id) (is_above_items len) p0.1 in
    three root type_id len (id_word root p0.0) (id_word type_id p1.0) (item_word len p1.1)
words_of_command (NewWeak root type_id target) e stored =
    let p0 = or_parts (is_above_ids root) _ e in
    let p1 = or_parts (is_above_ids type_id) (is_above_ids target) p0.1 in
    three root type_id target (id_word root p0.0) (id_word type_id p1.0) (id_word target p1.1)
words_of_command (Put root item value) e stored =
    let p0 = or_parts (is_above_ids root) (is_above_items item) e in
    three root item value (id_word root p0.0) (item_word item p0.1) stored
words_of_command (Get root item) e stored =
    let p0 = or_parts (is_above_ids root) (is_above_items item) e in
    two root item (id_word root p0.0) (item_word item p0.1)
words_of_command (Link root item from) e stored =
    let p0 = or_parts (is_above_ids root) _ e in
    let p1 = or_parts (is_above_items item) (is_above_ids from) p0.1 in
    three root item from (id_word root p0.0) (item_word item p1.0) (id_word from p1.1)
words_of_command (Load to root item) e stored =
    let p0 = or_parts (is_above_ids to) _ e in
    let p1 = or_parts (is_above_ids root) (is_above_items item) p0.1 in
    three to root item (id_word to p0.0) (id_word root p1.0) (item_word item p1.1)
words_of_command (CopyRefs root item from from_item count) e stored =
    let p0 = or_parts (is_above_ids root) _ e in
    let p1 = or_parts (is_above_items item) _ p0.1 in
    let p2 = or_parts (is_above_ids from) _ p1.1 in
    let p3 = or_parts (is_above_items from_item) (is_above_items count) p2.1 in
    five root item from from_item count (id_word root p0.0) (item_word item p1.0) (id_word from p2.0) (item_word from_item p3.0) (item_word count p3.1)
words_of_command (MoveRoot to from) e stored =
    let p0 = or_parts (is_above_ids to) (is_above_ids from) e in
    two to from (id_word to p0.0) (id_word from p0.1)
words_of_command (DropRoot root) e stored = one root (id_word root e)
words_of_command (Same a b) e stored =
    let p0 = or_parts (is_above_ids a) (is_above_ids b) e in
    two a b (id_word a p0.0) (id_word b p0.1)
words_of_command (Ident root) e stored = one root (id_word root e)
words_of_command (Hash root) e stored = one root (id_word root e)
words_of_command (Place root) e stored = one root (id_word root e)
words_of_command (Pin root) e stored = one root (id_word root e)
words_of_command (Unpin root) e stored = one root (id_word root e)
words_of_command (Deref to root) e stored =
    let p0 = or_parts (is_above_ids to) (is_above_ids root) e in
    two to root (id_word to p0.0) (id_word root p0.1)
words_of_command (Register root queue) e stored =
    let p0 = or_parts (is_above_ids root) (is_above_ids queue) e in
    two root queue (id_word root p0.0) (id_word queue p0.1)
words_of_command (NextFinal to queue) e stored =
    let p0 = or_parts (is_above_ids to) (is_above_ids queue) e in
    two to queue (id_word to p0.0) (id_word queue p0.1)
words_of_command (Inc number) e stored = one number (id_word number e)
words_of_command (Dec number) e stored = one number (id_word number e)
words_of_command (Count number) e stored = one number (id_word number e)
words_of_command (FromObj root) e stored = one root (id_word root e)
words_of_command (ToObj to number) e stored =
    let p0 = or_parts (is_above_ids to) (is_above_ids number) e in
    two to number (id_word to p0.0) (id_word number p0.1)
words_of_command (MakeLink p number root light own) e stored =
    let p0 = or_parts (is_above_ids number) _ e in
    let p1 = or_parts (is_above_ids root) (is_above_counts own) p0.1 in
    five (bit p) number root (bit light) own (bit_word p) (id_word number p0.0) (id_word root p1.0) (bit_word light) (count_word own p1.1)
words_of_command NextDead e stored = none
words_of_command Minor e stored = none
words_of_command Step e stored = none
words_of_command Collect e stored = none
words_of_command Used e stored = none

words_of_type : (id : ℕ) (shape : Shape) (destructor : Bool) → is_above_ids id ≡ false → is_above_shape shape ≡ false
    → All Word (type_fields id shape destructor).numbers
words_of_type id (Fixed ints refs) destructor e s =
    let p = or_parts (is_above_ids ints) (is_above_ids refs) s in
    more id (ints ∷ refs ∷ bit destructor ∷ []) (id_word id e) (three ints refs (bit destructor) (id_word ints p.0) (id_word refs p.1) (bit_word destructor))
words_of_type id IntArray destructor e s = two id (bit destructor) (id_word id e) (bit_word destructor)
words_of_type id RefArray destructor e s = two id (bit destructor) (id_word id e) (bit_word destructor)
words_of_type id Weak destructor e s = one id (id_word id e)

pub words_fit : (item : Item) → HasLine item → AreWords (item_fields item)
words_fit Blank has = absurd has
words_fit (Setting name value) has = two name value (omega (arith, has.0)) has.1
words_fit (TypeDef id info) has = words_of_type id info.shape info.destructor has.id_below has.shape_below
words_fit (CommandItem c) has = words_of_command c has.below has.stored
