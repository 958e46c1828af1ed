-- The line of a command in range is read as that command.
use Rattle.std.proofs.Common.{◌≡◌, ℕ, ◌^◌, ◌<◌, Bool, true, false, List, [], ◌∷◌, Result, Ok, refl, sym, ap, ◌∙◌, arith}
use Rattle.std.specs.Prelude.{decimal, ◌||◌, codes}
use Rattle.std.proofs.lemmas.Bool.{or_parts, ltb-false}
use Rattle.text_model.specs.declared.command.Command.{Command}
use Rattle.text_model.specs.declared.command.Command.TheVariants.{NewFixed, NewArray, NewWeak, Put, Get, Link, Load, CopyRefs, MoveRoot, DropRoot, Same, Ident, Hash, Place, Pin, Unpin, Deref, Register, NextFinal, MakeLink, Inc, Dec, Count, FromObj, ToObj, NextDead, Minor, Step, Collect, Used}
use Rattle.text_model.specs.declared.item.Item.TheVariants.{Command as CommandItem}
use Rattle.text_model.specs.declared.item.BadLine.{BadLine}
use Rattle.text_model.specs.Range.{is_above_ids, is_above_items, is_above_counts, is_above}
use Rattle.text_model.specs.Numbers.{◌>>=◌}
use Rattle.text_model.specs.CommandGrammar.{in_range, no_numbers, with_one, with_two, with_three, new_form, copy_form, link_form, kind_word, structure_form, slot_form, command_form}
use Rattle.text_model.specs.Grammar.{as_item, form_of, item_of}
use Rattle.text_model.specs.ItemText.{joined, decimals, command_words, link_word, light_word}
use Rattle.text_model.specs.ItemLine.{StoresWord, IsCommandInRange}
use Rattle.script_text.proofs.Separated.{is_word}
use Rattle.script_text.proofs.Decimals.{is_word-decimal}
use Rattle.script_text.proofs.ReadWords.{number_word-decimal, one_number-decimals, two_numbers-decimals, three_numbers-decimals, five_numbers-decimals}
use Rattle.script_text.proofs.Joined.{are_words, is_keyword, item_of-joined}

-- a number that is not above the greatest of its place has at most 64 bits
pub id_small : (n : ℕ) → is_above_ids n ≡ false → n < 2 ^ 64
id_small n h = omega (arith, ltb-false 65535 n h)

item_small : (n : ℕ) → is_above_items n ≡ false → n < 2 ^ 64
item_small n h = omega (arith, ltb-false 16777216 n h)

count_small : (n : ℕ) → is_above_counts n ≡ false → n < 2 ^ 64
count_small n h = omega (arith, ltb-false 4294967295 n h)

in_range-below : (c : Command) → is_above c ≡ false → in_range c ≡ Ok c
in_range-below c h = rw h refl

-- the command is read from the line of these words
record ReadsCommand (words : List (List ℕ)) (c : Command) : Type 0 where
  reads : item_of (joined words) ≡ Ok (CommandItem c)

read_by : (word : List ℕ) (words : List (List ℕ)) (read : Result Command BadLine) (c : Command) → is_keyword word ≡ true
    → are_words words ≡ true
    → form_of (word ∷ words) ≡ (read >>= as_item) → read ≡ Ok c → ReadsCommand (word ∷ words) c
read_by word words read c key are form is = record { reads = item_of-joined word words key are ∙ form ∙ ap (λ r. r >>= as_item) is }

reads_bare : (word : List ℕ) (c : Command) → is_keyword word ≡ true → form_of (word ∷ []) ≡ (no_numbers c [] >>= as_item)
    → is_above c ≡ false → ReadsCommand (word ∷ []) c
reads_bare word c key form below = read_by word [] (no_numbers c []) c key refl form (in_range-below c below)

reads_one : (word : List ℕ) (f : ℕ → Command) (a : ℕ) → is_keyword word ≡ true
    → ((words : List (List ℕ)) → form_of (word ∷ words) ≡ (with_one f words >>= as_item))
    → is_above (f a) ≡ false → a < 2 ^ 64 → ReadsCommand (word ∷ decimals (a ∷ [])) (f a)
reads_one word f a key form below small =
    read_by word (decimals (a ∷ [])) (with_one f (decimals (a ∷ []))) (f a) key (rw (is_word-decimal a small) refl) (form (decimals (a ∷ [])))
    (rw (one_number-decimals a small) (in_range-below (f a) below))

reads_two : (word : List ℕ) (f : ℕ → ℕ → Command) (a b : ℕ) → is_keyword word ≡ true
    → ((words : List (List ℕ)) → form_of (word ∷ words) ≡ (with_two f words >>= as_item))
    → is_above (f a b) ≡ false → a < 2 ^ 64 → b < 2 ^ 64 → ReadsCommand (word ∷ decimals (a ∷ b ∷ [])) (f a b)
reads_two word f a b key form below first next =
    read_by word (decimals (a ∷ b ∷ [])) (with_two f (decimals (a ∷ b ∷ []))) (f a b) key (rw (is_word-decimal a first, is_word-decimal b next) refl)
    (form (decimals (a ∷ b ∷ []))) (rw (two_numbers-decimals a b first next) (in_range-below (f a b) below))

reads_three : (word : List ℕ) (f : ℕ → ℕ → ℕ → Command) (a b c : ℕ) → is_keyword word ≡ true
    → ((words : List (List ℕ)) → form_of (word ∷ words) ≡ (with_three f words >>= as_item))
    → is_above (f a b c) ≡ false → a < 2 ^ 64 → b < 2 ^ 64 → c < 2 ^ 64 → ReadsCommand (word ∷ decimals (a ∷ b ∷ c ∷ [])) (f a b c)
reads_three word f a b c key form below first next last =
    read_by word (decimals (a ∷ b ∷ c ∷ [])) (with_three f (decimals (a ∷ b ∷ c ∷ []))) (f a b c) key
    (rw (is_word-decimal a first, is_word-decimal b next, is_word-decimal c last) refl)
    (form (decimals (a ∷ b ∷ c ∷ []))) (rw (three_numbers-decimals a b c first next last) (in_range-below (f a b c) below))

-- a command with the numbers of two slots, queues or structures
reads_two_ids : (word : List ℕ) (f : ℕ → ℕ → Command) (a b : ℕ) → is_keyword word ≡ true
    → ((words : List (List ℕ)) → form_of (word ∷ words) ≡ (with_two f words >>= as_item)) → is_above (f a b) ≡ (is_above_ids a || is_above_ids b)
    → is_above (f a b) ≡ false → ReadsCommand (word ∷ decimals (a ∷ b ∷ [])) (f a b)
reads_two_ids word f a b key form above below =
    let p = or_parts (is_above_ids a) (is_above_ids b) (sym above ∙ below) in
    reads_two word f a b key form below (id_small a p.0) (id_small b p.1)

-- `new R T` and `new R T L`
reads_new_fixed : (root type_id : ℕ) → is_above (NewFixed root type_id) ≡ false → root < 2 ^ 64 → type_id < 2 ^ 64
    → ReadsCommand (codes "new" ∷ decimals (root ∷ type_id ∷ [])) (NewFixed root type_id)
unfolding form_of command_form new_form
reads_new_fixed root type_id below first next =
    let words = decimals (root ∷ type_id ∷ []) in
    read_by (codes "new") words (new_form words) (NewFixed root type_id) refl (rw (is_word-decimal root first, is_word-decimal type_id next) refl) refl
    (rw (number_word-decimal root (decimals (type_id ∷ [])) first, number_word-decimal type_id [] next) (in_range-below (NewFixed root type_id) below))

reads_new_array : (root type_id len : ℕ) → is_above (NewArray root type_id len) ≡ false → root < 2 ^ 64 → type_id < 2 ^ 64 → len < 2 ^ 64
    → ReadsCommand (codes "new" ∷ decimals (root ∷ type_id ∷ len ∷ [])) (NewArray root type_id len)
unfolding form_of command_form new_form
reads_new_array root type_id len below first next last =
    let words = decimals (root ∷ type_id ∷ len ∷ []) in
    read_by (codes "new") words (new_form words) (NewArray root type_id len) refl
    (rw (is_word-decimal root first, is_word-decimal type_id next, is_word-decimal len last) refl) refl
    (rw (
      number_word-decimal root (decimals (type_id ∷ len ∷ [])) first,
      number_word-decimal type_id (decimals (len ∷ [])) next,
      one_number-decimals len last,
    ) (in_range-below (NewArray root type_id len) below))

-- `copyrefs R I S J M`
reads_copy : (a b c d e : ℕ) → is_above (CopyRefs a b c d e) ≡ false → a < 2 ^ 64 → b < 2 ^ 64 → c < 2 ^ 64 → d < 2 ^ 64 → e < 2 ^ 64
    → ReadsCommand (codes "copyrefs" ∷ decimals (a ∷ b ∷ c ∷ d ∷ e ∷ [])) (CopyRefs a b c d e)
unfolding form_of command_form copy_form
reads_copy a b c d e below first second third fourth fifth =
    let words = decimals (a ∷ b ∷ c ∷ d ∷ e ∷ []) in
    read_by (codes "copyrefs") words (copy_form words) (CopyRefs a b c d e) refl
    (rw (is_word-decimal a first, is_word-decimal b second, is_word-decimal c third, is_word-decimal d fourth, is_word-decimal e fifth) refl) refl
    (rw (five_numbers-decimals a b c d e first second third fourth fifth) (in_range-below (CopyRefs a b c d e) below))

kind_word-light : (light : Bool) (words : List (List ℕ)) → kind_word (light_word light ∷ words) ≡ Ok (light, words)
kind_word-light true words = refl
kind_word-light false words = refl

is_word-light : (light : Bool) → is_word (light_word light) ≡ true
is_word-light true = refl
is_word-light false = refl

is_keyword-link : (p : Bool) → is_keyword (link_word p) ≡ true
is_keyword-link true = refl
is_keyword-link false = refl

form_of-link : (p : Bool) (words : List (List ℕ)) → form_of (link_word p ∷ words) ≡ (link_form p words >>= as_item)
unfolding form_of command_form slot_form structure_form
form_of-link true words = refl
form_of-link false words = refl

-- `plink C R K N` and `olink C R K N`
reads_link : (p : Bool) (number root : ℕ) (light : Bool) (own : ℕ) → is_above (MakeLink p number root light own) ≡ false
    → number < 2 ^ 64 → root < 2 ^ 64 → own < 2 ^ 64
    → ReadsCommand (link_word p ∷ decimal number ∷ decimal root ∷ light_word light ∷ decimal own ∷ []) (MakeLink p number root light own)
unfolding link_form
reads_link p number root light own below first next last =
    let words = decimal number ∷ decimal root ∷ light_word light ∷ decimal own ∷ [] in
    read_by (link_word p) words (link_form p words) (MakeLink p number root light own) (is_keyword-link p)
    (rw (is_word-decimal number first, is_word-decimal root next, is_word-light light, is_word-decimal own last) refl) (form_of-link p words)
    (rw (
      number_word-decimal number (decimal root ∷ light_word light ∷ decimal own ∷ []) first,
      number_word-decimal root (light_word light ∷ decimal own ∷ []) next,
      kind_word-light light (decimal own ∷ []),
      one_number-decimals own last,
    ) (in_range-below (MakeLink p number root light own) below))

-- each command is read from its line
reads : (c : Command) → is_above c ≡ false → StoresWord c → ReadsCommand (command_words c) c
unfolding is_above command_words form_of command_form slot_form structure_form
reads (NewFixed root type_id) below stored =
    let p = or_parts (is_above_ids root) (is_above_ids type_id) below in
    reads_new_fixed root type_id below (id_small root p.0) (id_small type_id p.1)
reads (NewArray root type_id len) below stored =
    let p = or_parts (is_above_ids root) (is_above_ids type_id || is_above_items len) below in
    let q = or_parts (is_above_ids type_id) (is_above_items len) p.1 in
    reads_new_array root type_id len below (id_small root p.0) (id_small type_id q.0) (item_small len q.1)
reads (NewWeak root type_id target) below stored =
    let p = or_parts (is_above_ids root) (is_above_ids type_id || is_above_ids target) below in
    let q = or_parts (is_above_ids type_id) (is_above_ids target) p.1 in
    reads_three (codes "weak") NewWeak root type_id target refl (λ words. refl) below (id_small root p.0) (id_small type_id q.0) (id_small target q.1)
reads (Put root item value) below stored =
    let p = or_parts (is_above_ids root) (is_above_items item) below in
    reads_three (codes "put") Put root item value refl (λ words. refl) below (id_small root p.0) (item_small item p.1) stored
reads (Get root item) below stored =
    let p = or_parts (is_above_ids root) (is_above_items item) below in
    reads_two (codes "get") Get root item refl (λ words. refl) below (id_small root p.0) (item_small item p.1)
reads (Link root item from) below stored =
    let p = or_parts (is_above_ids root) (is_above_items item || is_above_ids from) below in
    let q = or_parts (is_above_items item) (is_above_ids from) p.1 in
    reads_three (codes "link") Link root item from refl (λ words. refl) below (id_small root p.0) (item_small item q.0) (id_small from q.1)
reads (Load to root item) below stored =
    let p = or_parts (is_above_ids to) (is_above_ids root || is_above_items item) below in
    let q = or_parts (is_above_ids root) (is_above_items item) p.1 in
    reads_three (codes "load") Load to root item refl (λ words. refl) below (id_small to p.0) (id_small root q.0) (item_small item q.1)
reads (CopyRefs root item from from_item length) below stored =
    let p = or_parts (is_above_ids root) (is_above_items item || (is_above_ids from || (is_above_items from_item || is_above_items length))) below in
    let q = or_parts (is_above_items item) (is_above_ids from || (is_above_items from_item || is_above_items length)) p.1 in
    let r = or_parts (is_above_ids from) (is_above_items from_item || is_above_items length) q.1 in
    let s = or_parts (is_above_items from_item) (is_above_items length) r.1 in
    reads_copy root item from from_item length below (id_small root p.0) (item_small item q.0) (id_small from r.0) (item_small from_item s.0) (item_small length s.1)
reads (MoveRoot to from) below stored = reads_two_ids (codes "move") MoveRoot to from refl (λ words. refl) refl below
reads (DropRoot root) below stored = reads_one (codes "drop") DropRoot root refl (λ words. refl) below (id_small root below)
reads (Same a b) below stored = reads_two_ids (codes "same") Same a b refl (λ words. refl) refl below
reads (Ident root) below stored = reads_one (codes "id") Ident root refl (λ words. refl) below (id_small root below)
reads (Hash root) below stored = reads_one (codes "hash") Hash root refl (λ words. refl) below (id_small root below)
reads (Place root) below stored = reads_one (codes "where") Place root refl (λ words. refl) below (id_small root below)
reads (Pin root) below stored = reads_one (codes "pin") Pin root refl (λ words. refl) below (id_small root below)
reads (Unpin root) below stored = reads_one (codes "unpin") Unpin root refl (λ words. refl) below (id_small root below)
reads (Deref to root) below stored = reads_two_ids (codes "deref") Deref to root refl (λ words. refl) refl below
reads (Register root queue) below stored = reads_two_ids (codes "register") Register root queue refl (λ words. refl) refl below
reads (NextFinal to queue) below stored = reads_two_ids (codes "next") NextFinal to queue refl (λ words. refl) refl below
reads (MakeLink p number root light own) below stored =
    let q = or_parts (is_above_ids number) (is_above_ids root || is_above_counts own) below in
    let r = or_parts (is_above_ids root) (is_above_counts own) q.1 in
    reads_link p number root light own below (id_small number q.0) (id_small root r.0) (count_small own r.1)
reads (Inc number) below stored = reads_one (codes "inc") Inc number refl (λ words. refl) below (id_small number below)
reads (Dec number) below stored = reads_one (codes "dec") Dec number refl (λ words. refl) below (id_small number below)
reads (Count number) below stored = reads_one (codes "count") Count number refl (λ words. refl) below (id_small number below)
reads (FromObj root) below stored = reads_one (codes "fromobj") FromObj root refl (λ words. refl) below (id_small root below)
reads (ToObj to number) below stored = reads_two_ids (codes "toobj") ToObj to number refl (λ words. refl) refl below
reads NextDead below stored = reads_bare (codes "nextdead") NextDead refl refl below
reads Minor below stored = reads_bare (codes "minor") Minor refl refl below
reads Step below stored = reads_bare (codes "step") Step refl refl below
reads Collect below stored = reads_bare (codes "collect") Collect refl refl below
reads Used below stored = reads_bare (codes "used") Used refl refl below

-- the line of a command in range says that command
pub command_words-read : (c : Command) → IsCommandInRange c → item_of (joined (command_words c)) ≡ Ok (CommandItem c)
command_words-read c is = (reads c is.below is.stored).reads
