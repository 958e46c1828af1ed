-- A command line that was read is the one line of its command.
use Rattle.std.proofs.Common.{◌≡◌, ℕ, ◌^◌, ◌<◌, Bool, true, false, List, [], ◌∷◌, Result, Ok, refl, sym, ap, ◌∙◌, subst}
use Rattle.std.specs.Prelude.{decimal, bytes_eq, if◌then◌else◌, codes}
use Rattle.text_model.specs.declared.command.Command.{Command}
use Rattle.text_model.specs.declared.command.Command.TheVariants.{NewFixed, NewArray, NewWeak, Put, Get, Link, Load, CopyRefs, MoveRoot, DropRoot, Same, Ident, Hash, Place, Pin, Unpin, Deref, Register, NextFinal, MakeLink, Inc, Dec, Count, FromObj, ToObj, NextDead, Minor, Step, Collect, Used}
use Rattle.text_model.specs.declared.item.BadLine.{BadLine}
use Rattle.text_model.specs.declared.item.BadLine.TheVariants.{Range}
use Rattle.text_model.specs.Range.{is_above}
use Rattle.text_model.specs.Numbers.{◌>>=◌, number_word, no_word, one_number, two_numbers, three_numbers, five_numbers}
use Rattle.text_model.specs.CommandGrammar.{in_range, no_numbers, with_one, with_two, with_three, new_tail, new_form, copy_form, link_form, kind_word, structure_form, slot_form, command_form}
use Rattle.text_model.specs.ItemText.{decimals, command_words, link_word, light_word}
use Rattle.text_model.specs.ItemLine.{StoresWord, IsCommandInRange}
use Rattle.script_text.proofs.ReadWords.{both_gave, by_keyword, ok_unless, number_word-is, no_word-is, one_number-is, two_numbers-is, three_numbers-is, five_numbers-is}

-- the words are those of the command's line
pub record IsSpelled (words : List (List ℕ)) (command : Command) : Type 0 where
  pub spelled : words ≡ command_words command
  pub in_range : IsCommandInRange command

-- the command whose words these are was found to be in range
in_range-is : (words : List (List ℕ)) (d c : Command) → words ≡ command_words d → StoresWord d → in_range d ≡ Ok c → IsSpelled words c
in_range-is words d c spelled stored h =
    let parts = ok_unless (is_above d) d c Range h in
    record {
      spelled = spelled ∙ ap command_words parts.1;
      in_range = record { below = sym (ap is_above parts.1) ∙ parts.0; stored = subst StoresWord parts.1 stored };
    }

no_numbers-is : (word : List ℕ) (words : List (List ℕ)) (d c : Command) → word ∷ [] ≡ command_words d → StoresWord d
    → no_numbers d words ≡ Ok c → IsSpelled (word ∷ words) c
no_numbers-is word words d c spelled stored h =
    both_gave _ (no_word words) (λ end. in_range d) c h (λ end none rest.
    in_range-is (word ∷ words) d c (ap (λ ws. word ∷ ws) (no_word-is words end none) ∙ spelled) stored rest)

with_one-is : (word : List ℕ) (words : List (List ℕ)) (f : ℕ → Command) (c : Command)
    → ((a : ℕ) → word ∷ decimals (a ∷ []) ≡ command_words (f a)) → ((a : ℕ) → StoresWord (f a))
    → with_one f words ≡ Ok c → IsSpelled (word ∷ words) c
with_one-is word words f c spelled stored h =
    both_gave _ (one_number words) (λ a. in_range (f a)) c h (λ a number rest.
    in_range-is (word ∷ words) (f a) c (ap (λ ws. word ∷ ws) (one_number-is words a number).0 ∙ spelled a) (stored a) rest)

with_two-is : (word : List ℕ) (words : List (List ℕ)) (f : ℕ → ℕ → Command) (c : Command)
    → ((a b : ℕ) → word ∷ decimals (a ∷ b ∷ []) ≡ command_words (f a b)) → ((a b : ℕ) → StoresWord (f a b))
    → with_two f words ≡ Ok c → IsSpelled (word ∷ words) c
with_two-is word words f c spelled stored h =
    both_gave _ (two_numbers words) (λ n. in_range (f n.0 n.1)) c h (λ n numbers rest.
    in_range-is (word ∷ words) (f n.0 n.1) c (ap (λ ws. word ∷ ws) (two_numbers-is words n numbers).0 ∙ spelled n.0 n.1) (stored n.0 n.1) rest)

with_three-is : (word : List ℕ) (words : List (List ℕ)) (f : ℕ → ℕ → ℕ → Command) (c : Command)
    → ((a b d : ℕ) → word ∷ decimals (a ∷ b ∷ d ∷ []) ≡ command_words (f a b d)) → ((a b d : ℕ) → d < 2 ^ 64 → StoresWord (f a b d))
    → with_three f words ≡ Ok c → IsSpelled (word ∷ words) c
with_three-is word words f c spelled stored h =
    both_gave _ (three_numbers words) (λ n. in_range (f n.0 n.1 n.2)) c h (λ n numbers rest.
    let read = three_numbers-is words n numbers in
    in_range-is (word ∷ words) (f n.0 n.1 n.2) c (ap (λ ws. word ∷ ws) read.0 ∙ spelled n.0 n.1 n.2) (stored n.0 n.1 n.2 read.3) rest)

-- the word is this keyword, or the rest of the grammar read the line
keyword_or_rest : (word keyword : List ℕ) (taken passed : Result Command BadLine) (words : List (List ℕ)) (c : Command)
    → (if bytes_eq word keyword then taken else passed) ≡ Ok c
    → (taken ≡ Ok c → IsSpelled (keyword ∷ words) c) → (passed ≡ Ok c → IsSpelled (word ∷ words) c) → IsSpelled (word ∷ words) c
keyword_or_rest word keyword taken passed words c h here rest = by_keyword (λ w. IsSpelled (w ∷ words) c) word keyword taken passed c h here rest

new_tail-is : (root type_id : ℕ) (words behind : List (List ℕ)) (c : Command)
    → words ≡ decimal root ∷ decimal type_id ∷ behind → new_tail root type_id behind ≡ Ok c → IsSpelled (codes "new" ∷ words) c
unfolding command_words
new_tail-is root type_id words [] c spelled h = in_range-is (codes "new" ∷ words) (NewFixed root type_id) c (ap (λ ws. codes "new" ∷ ws) spelled) tt h
new_tail-is root type_id words (word ∷ behind) c spelled h =
    both_gave _ (one_number (word ∷ behind)) (λ len. in_range (NewArray root type_id len)) c h (λ len number rest.
    let read = one_number-is (word ∷ behind) len number in
    in_range-is (codes "new" ∷ words) (NewArray root type_id len) c
    (ap (λ ws. codes "new" ∷ ws) spelled ∙ ap (λ ws. codes "new" ∷ decimal root ∷ decimal type_id ∷ ws) read.0) tt rest)

new_form-is : (words : List (List ℕ)) (c : Command) → new_form words ≡ Ok c → IsSpelled (codes "new" ∷ words) c
unfolding new_form
new_form-is words c h =
    both_gave _ (number_word words) (λ root. number_word root.1 >>= (λ type_id. new_tail root.0 type_id.0 type_id.1)) c h (λ root first more.
    both_gave _ (number_word root.1) (λ type_id. new_tail root.0 type_id.0 type_id.1) c more (λ type_id second rest.
    let one = number_word-is words root first in
    let two = number_word-is root.1 type_id second in
    new_tail-is root.0 type_id.0 words type_id.1 c (one.0 ∙ ap (λ ws. decimal root.0 ∷ ws) two.0) rest))

copy_form-is : (words : List (List ℕ)) (c : Command) → copy_form words ≡ Ok c → IsSpelled (codes "copyrefs" ∷ words) c
unfolding copy_form command_words
copy_form-is words c h =
    both_gave _ (five_numbers words) (λ n. in_range (CopyRefs n.0 n.1 n.2 n.3 n.4)) c h (λ n numbers rest.
    in_range-is (codes "copyrefs" ∷ words) (CopyRefs n.0 n.1 n.2 n.3 n.4) c (ap (λ ws. codes "copyrefs" ∷ ws) (five_numbers-is words n numbers)) tt rest)

kind_word-is : (words : List (List ℕ)) (read : Bool × List (List ℕ)) → kind_word words ≡ Ok read → words ≡ light_word read.0 ∷ read.1
kind_word-is [] read h = cc
kind_word-is (word ∷ words) read h =
    let P : List ℕ → Type 0 = λ w. w ∷ words ≡ light_word read.0 ∷ read.1 in
    by_keyword P word (codes "light") _ _ read h (λ h. let given : (true, words) ≡ read = cc in ap (λ x. light_word x.0 ∷ x.1) given) (λ h.
    by_keyword P word (codes "plain") _ _ read h (λ h. let given : (false, words) ≡ read = cc in ap (λ x. light_word x.0 ∷ x.1) given) (λ h. cc))

link_form-is : (p : Bool) (words : List (List ℕ)) (c : Command) → link_form p words ≡ Ok c → IsSpelled (link_word p ∷ words) c
unfolding link_form command_words
link_form-is p words c h =
    both_gave _ (number_word words) _ c h (λ number first more.
    both_gave _ (number_word number.1) _ c more (λ root second more.
    both_gave _ (kind_word root.1) _ c more (λ light third more.
    both_gave _ (one_number light.1) _ c more (λ own last rest.
    let one = number_word-is words number first in
    let two = number_word-is number.1 root second in
    let three = kind_word-is root.1 light third in
    let four = one_number-is light.1 own last in
    in_range-is (link_word p ∷ words) (MakeLink p number.0 root.0 light.0 own) c (cc) tt rest))))

structure_form-is : (word : List ℕ) (words : List (List ℕ)) (c : Command) → structure_form word words ≡ Ok c → IsSpelled (word ∷ words) c
unfolding structure_form command_words
structure_form-is word words c h =
    keyword_or_rest word (codes "plink") _ _ words c h (link_form-is true words c) (λ h.
    keyword_or_rest word (codes "olink") _ _ words c h (link_form-is false words c) (λ h.
    keyword_or_rest word (codes "inc") _ _ words c h (with_one-is (codes "inc") words Inc c (λ a. refl) (λ a. tt)) (λ h.
    keyword_or_rest word (codes "dec") _ _ words c h (with_one-is (codes "dec") words Dec c (λ a. refl) (λ a. tt)) (λ h.
    keyword_or_rest word (codes "count") _ _ words c h (with_one-is (codes "count") words Count c (λ a. refl) (λ a. tt)) (λ h.
    keyword_or_rest word (codes "fromobj") _ _ words c h (with_one-is (codes "fromobj") words FromObj c (λ a. refl) (λ a. tt)) (λ h.
    keyword_or_rest word (codes "toobj") _ _ words c h (with_two-is (codes "toobj") words ToObj c (λ a b. refl) (λ a b. tt)) (λ h.
    keyword_or_rest word (codes "nextdead") _ _ words c h (no_numbers-is (codes "nextdead") words NextDead c refl tt) (λ h.
    keyword_or_rest word (codes "minor") _ _ words c h (no_numbers-is (codes "minor") words Minor c refl tt) (λ h.
    keyword_or_rest word (codes "step") _ _ words c h (no_numbers-is (codes "step") words Step c refl tt) (λ h.
    keyword_or_rest word (codes "collect") _ _ words c h (no_numbers-is (codes "collect") words Collect c refl tt) (λ h.
    keyword_or_rest word (codes "used") _ _ words c h (no_numbers-is (codes "used") words Used c refl tt) (λ h. cc))))))))))))

slot_form-is : (word : List ℕ) (words : List (List ℕ)) (c : Command) → slot_form word words ≡ Ok c → IsSpelled (word ∷ words) c
unfolding slot_form command_words
slot_form-is word words c h =
    keyword_or_rest word (codes "move") _ _ words c h (with_two-is (codes "move") words MoveRoot c (λ a b. refl) (λ a b. tt)) (λ h.
    keyword_or_rest word (codes "drop") _ _ words c h (with_one-is (codes "drop") words DropRoot c (λ a. refl) (λ a. tt)) (λ h.
    keyword_or_rest word (codes "same") _ _ words c h (with_two-is (codes "same") words Same c (λ a b. refl) (λ a b. tt)) (λ h.
    keyword_or_rest word (codes "id") _ _ words c h (with_one-is (codes "id") words Ident c (λ a. refl) (λ a. tt)) (λ h.
    keyword_or_rest word (codes "hash") _ _ words c h (with_one-is (codes "hash") words Hash c (λ a. refl) (λ a. tt)) (λ h.
    keyword_or_rest word (codes "where") _ _ words c h (with_one-is (codes "where") words Place c (λ a. refl) (λ a. tt)) (λ h.
    keyword_or_rest word (codes "pin") _ _ words c h (with_one-is (codes "pin") words Pin c (λ a. refl) (λ a. tt)) (λ h.
    keyword_or_rest word (codes "unpin") _ _ words c h (with_one-is (codes "unpin") words Unpin c (λ a. refl) (λ a. tt)) (λ h.
    keyword_or_rest word (codes "deref") _ _ words c h (with_two-is (codes "deref") words Deref c (λ a b. refl) (λ a b. tt)) (λ h.
    keyword_or_rest word (codes "register") _ _ words c h (with_two-is (codes "register") words Register c (λ a b. refl) (λ a b. tt)) (λ h.
    keyword_or_rest word (codes "next") _ _ words c h (with_two-is (codes "next") words NextFinal c (λ a b. refl) (λ a b. tt))
    (structure_form-is word words c)))))))))))

-- the words of a command line that was read are the command's
pub command_form-is : (word : List ℕ) (words : List (List ℕ)) (c : Command) → command_form word words ≡ Ok c → IsSpelled (word ∷ words) c
unfolding command_form command_words
command_form-is word words c h =
    keyword_or_rest word (codes "new") _ _ words c h (new_form-is words c) (λ h.
    keyword_or_rest word (codes "weak") _ _ words c h (with_three-is (codes "weak") words NewWeak c (λ a b d. refl) (λ a b d small. tt)) (λ h.
    keyword_or_rest word (codes "put") _ _ words c h (with_three-is (codes "put") words Put c (λ a b d. refl) (λ a b d small. small)) (λ h.
    keyword_or_rest word (codes "get") _ _ words c h (with_two-is (codes "get") words Get c (λ a b. refl) (λ a b. tt)) (λ h.
    keyword_or_rest word (codes "link") _ _ words c h (with_three-is (codes "link") words Link c (λ a b d. refl) (λ a b d small. tt)) (λ h.
    keyword_or_rest word (codes "load") _ _ words c h (with_three-is (codes "load") words Load c (λ a b d. refl) (λ a b d small. tt)) (λ h.
    keyword_or_rest word (codes "copyrefs") _ _ words c h (copy_form-is words c)
    (slot_form-is word words c)))))))
