-- Each line is read back from its text, so no two lines, and no two lists of lines, have one text.
use Rattle.std.proofs.Common.{◌≡◌, ℕ, ◌^◌, ◌<◌, ◌≤◌, Bool, true, false, cond, List, [], ◌∷◌, ◌++◌, Option, Some, None, refl, sym, ap, ◌∙◌, arith}
use Rattle.std.specs.Prelude.{not, ◌&&◌, ◌==◌, nat_le, option_map, option_and_then, codes, decimal, IfSome, IfNone}
use Rattle.line_text.proofs.ReadingLaws.{line_of-spells}
use Rattle.std.proofs.lemmas.Bool.{and_parts, and_from, not_from_false, le-leb, cond-true}
use Rattle.std.proofs.lemmas.Bool.Decides.{nat_tests}
use Rattle.text_model.specs.declared.line.Line.{Line}
use Rattle.text_model.specs.declared.line.Line.TheVariants.{Born, Got, Loaded, SameAs, IdentIs, HashIs, PlaceIs, PinIs, Derefed, NextIs, CountIs, FromObjIs, ToObjIs, NextDeadIs, Dealloc, UsedIs, MinorDone, Cleared, Destroyed, LinkCut, Stepped, Visited, Kept, Freed, Queued, ThresholdIs}
use Rattle.text_model.specs.declared.line.Fate.{Fate}
use Rattle.text_model.specs.declared.line.Fate.TheVariants.{Unlinked, Pending, Released}
use Rattle.text_model.specs.declared.line.Phase.{Phase}
use Rattle.text_model.specs.declared.line.Phase.TheVariants.{Scanning, Marking, Sweeping, Finalizing}
use Rattle.text_model.specs.Numbers.{is_digit, all_digits, number_of}
use Rattle.text_model.specs.Text.{words_text, phase_text, end_text, IsProper}
use Rattle.line_text.proofs.DecimalLaws.{IsNumeral-decimal, number_of-decimal}
use Rattle.line_text.specs.Spelling.{IsInRange, IsLine, Spells}
use Rattle.line_text.specs.Reading.{first_word, age_of, structure_line, number_line, fixed_line, born_line, place_line, phase_of, step_line, unlinked_line, numbers_line, two_numbers_line, two_words_line, one_word_line, line_by_words, line_of}
use Rattle.line_text.proofs.WordLaws.{lacks, first_word-space, first_word-alone}

-- digits lack what is no digit
digits_lack : (x : ℕ) (word : List ℕ) → is_digit x ≡ false → all_digits word ≡ true → lacks x word ≡ true
digits_lack x [] other digits = refl
digits_lack x (b ∷ bytes) other digits =
    let tests = and_parts (is_digit b) (all_digits bytes) digits in
    and_from (not (b == x)) (lacks x bytes) (not_from_false (b == x) (grind (arith, nat_tests, tests.0)))
    (digits_lack x bytes other tests.1)

pub decimal_lacks : (x n : ℕ) → is_digit x ≡ false → n < 2 ^ 64 → lacks x (decimal n) ≡ true
decimal_lacks x n other small = digits_lack x (decimal n) other (IsNumeral-decimal n small).digits

phase_lacks_space : (phase : Phase) → lacks 32 (phase_text phase) ≡ true
phase_lacks_space Scanning = refl
phase_lacks_space Marking = refl
phase_lacks_space Sweeping = refl
phase_lacks_space Finalizing = refl

-- a keyword and one word
read_one : (keyword word : List ℕ) → lacks 32 keyword ≡ true → lacks 32 word ≡ true
    → line_of (keyword ++ 32 ∷ word) ≡ one_word_line (keyword ++ 32 ∷ word) keyword (number_of word)
unfolding line_of
read_one keyword word keyword_free word_free =
    ap (option_and_then (λ parts. line_by_words (keyword ++ 32 ∷ word) parts.0 parts.1 (first_word parts.1)))
    (first_word-space keyword word keyword_free)
    ∙ ap (line_by_words (keyword ++ 32 ∷ word) keyword word) (first_word-alone word word_free)

-- a keyword and a number
read_number : (keyword : List ℕ) (n : ℕ) → lacks 32 keyword ≡ true → n < 2 ^ 64
    → line_of (keyword ++ 32 ∷ decimal n) ≡ number_line keyword n
read_number keyword n free small =
    read_one keyword (decimal n) free (decimal_lacks 32 n refl small)
    ∙ ap (one_word_line (keyword ++ 32 ∷ decimal n) keyword) (number_of-decimal n small)

-- a keyword and a structure's number
read_structure : (keyword : List ℕ) (n : ℕ) (line : Option Line) → lacks 32 keyword ≡ true → n ≤ 65535
    → number_line keyword n ≡ cond (nat_le n 65535) line None → line_of (keyword ++ 32 ∷ decimal n) ≡ line
read_structure keyword n line free small is =
    read_number keyword n free (omega arith) ∙ is ∙ cond-true (nat_le n 65535) line None (le-leb n 65535 small)

-- a keyword and two words
read_two : (keyword first second : List ℕ) → lacks 32 keyword ≡ true → lacks 32 first ≡ true
    → line_of (keyword ++ 32 ∷ (first ++ 32 ∷ second)) ≡ two_words_line keyword first second
unfolding line_of
read_two keyword first second keyword_free first_free =
    let text = keyword ++ 32 ∷ (first ++ 32 ∷ second) in
    ap (option_and_then (λ parts. line_by_words text parts.0 parts.1 (first_word parts.1)))
    (first_word-space keyword (first ++ 32 ∷ second) keyword_free)
    ∙ ap (line_by_words text keyword (first ++ 32 ∷ second)) (first_word-space first second first_free)

two_numbers_line-decimals : (keyword : List ℕ) (a b : ℕ) → a < 2 ^ 64 → b < 2 ^ 64
    → two_numbers_line keyword (decimal a) (decimal b) ≡ numbers_line keyword a b
unfolding two_numbers_line
two_numbers_line-decimals keyword a b small_a small_b = rw
    (number_of-decimal a small_a, number_of-decimal b small_b) refl

-- a keyword and two numbers
read_two_numbers : (keyword : List ℕ) (a b : ℕ) → lacks 32 keyword ≡ true → a < 2 ^ 64 → b < 2 ^ 64
    → two_words_line keyword (decimal a) (decimal b) ≡ two_numbers_line keyword (decimal a) (decimal b)
    → line_of (keyword ++ 32 ∷ (decimal a ++ 32 ∷ decimal b)) ≡ numbers_line keyword a b
read_two_numbers keyword a b free small_a small_b is =
    read_two keyword (decimal a) (decimal b) free (decimal_lacks 32 a refl small_a) ∙ is
    ∙ two_numbers_line-decimals keyword a b small_a small_b

born_line-decimal : (birth : ℕ) (word : List ℕ) → birth < 2 ^ 64
    → born_line (decimal birth) word ≡ option_and_then (λ old. Some (Born birth old)) (age_of word)
unfolding born_line
born_line-decimal birth word small = rw (number_of-decimal birth small) refl

read_born : (birth : ℕ) (old : Bool) → birth < 2 ^ 64 → line_of (words_text (Born birth old)) ≡ Some (Born birth old)
unfolding words_text two_words_line
read_born birth true small = read_two (codes "new") (decimal birth) (codes "old") refl
    (decimal_lacks 32 birth refl small) ∙ born_line-decimal birth (codes "old") small
read_born birth false small = read_two (codes "new") (decimal birth) (codes "young") refl
    (decimal_lacks 32 birth refl small) ∙ born_line-decimal birth (codes "young") small

read_place : (place : ℕ) → place < 2 ^ 64 → line_of (words_text (PlaceIs (Some place))) ≡ Some (PlaceIs (Some place))
unfolding words_text two_words_line place_line
read_place place small = read_two (codes "where") (codes "old") (decimal place) refl refl
    ∙ ap (option_map (λ n. PlaceIs (Some n))) (number_of-decimal place small)

phase_of-phase_text : (phase : Phase) → phase_of (phase_text phase) ≡ Some phase
phase_of-phase_text Scanning = refl
phase_of-phase_text Marking = refl
phase_of-phase_text Sweeping = refl
phase_of-phase_text Finalizing = refl

step_line-phases : (from to : Phase) → step_line (phase_text from) (phase_text to) ≡ Some (Stepped from to)
unfolding step_line
step_line-phases from to = rw (phase_of-phase_text from, phase_of-phase_text to) refl

read_step : (from to : Phase) → line_of (words_text (Stepped from to)) ≡ Some (Stepped from to)
unfolding words_text two_words_line
read_step from to = read_two (codes "step") (phase_text from) (phase_text to) refl (phase_lacks_space from)
    ∙ step_line-phases from to

unlinked_line-small : (number own : ℕ) → number ≤ 65535 → own ≤ 4294967295
    → unlinked_line number own ≡ Some (LinkCut (record { number = number; own = own; fate = Unlinked }))
unfolding unlinked_line
unlinked_line-small number own small_number small_own =
    cond-true (nat_le number 65535 && nat_le own 4294967295)
    (Some (LinkCut (record { number = number; own = own; fate = Unlinked }))) None
    (and_from (nat_le number 65535) (nat_le own 4294967295) (le-leb number 65535 small_number)
    (le-leb own 4294967295 small_own))

-- the end of a link, whose own count is 0 unless it is unlinked
read_end : (fate : Fate) (number own : ℕ) → number ≤ 65535 → own ≤ 4294967295 → ((fate ≡ Unlinked → ⊥) → own ≡ 0)
    → line_of (end_text fate number own) ≡ Some (LinkCut (record { number = number; own = own; fate = fate }))
unfolding two_words_line numbers_line number_line structure_line
read_end Unlinked number own small_number small_own no_own =
    read_two_numbers (codes "unlinked") number own refl (omega arith) (omega arith) refl
    ∙ unlinked_line-small number own small_number small_own
read_end Pending number own small_number small_own no_own =
    read_structure (codes "pending") number
    (Some (LinkCut (record { number = number; own = 0; fate = Pending }))) refl small_number refl
    ∙ ap (λ (count : ℕ). Some (LinkCut (record { number = number; own = count; fate = Pending })))
    (sym (no_own (λ same. cc)))
read_end Released number own small_number small_own no_own =
    read_structure (codes "released") number
    (Some (LinkCut (record { number = number; own = 0; fate = Released }))) refl small_number refl
    ∙ ap (λ (count : ℕ). Some (LinkCut (record { number = number; own = count; fate = Released })))
    (sym (no_own (λ same. cc)))

-- each line is read back from its text
pub line_of-words_text : (line : Line) → IsLine line → line_of (words_text line) ≡ Some line
unfolding words_text IsProper IsInRange line_of fixed_line number_of number_line structure_line two_words_line numbers_line
line_of-words_text (Born birth old) is = read_born birth old is.in_range
line_of-words_text (Got value) is = read_number (codes "got") value refl is.in_range
line_of-words_text (Loaded None) is = refl
line_of-words_text (Loaded (Some birth)) is = read_number (codes "loaded") birth refl is.in_range
line_of-words_text (SameAs true) is = refl
line_of-words_text (SameAs false) is = refl
line_of-words_text (IdentIs place) is = read_number (codes "id") place refl is.in_range
line_of-words_text (HashIs value) is = read_number (codes "hash") value refl is.in_range
line_of-words_text (PlaceIs None) is = refl
line_of-words_text (PlaceIs (Some place)) is = read_place place is.in_range
line_of-words_text (PinIs true) is = refl
line_of-words_text (PinIs false) is = refl
line_of-words_text (Derefed None) is = refl
line_of-words_text (Derefed (Some birth)) is = read_number (codes "deref") birth refl is.in_range
line_of-words_text (NextIs None) is = refl
line_of-words_text (NextIs (Some birth)) is = read_number (codes "next") birth refl is.in_range
line_of-words_text (CountIs value) is = read_number (codes "count") value refl is.in_range
line_of-words_text (FromObjIs None) is = refl
line_of-words_text (FromObjIs (Some number)) is = read_structure (codes "fromobj") number
    (Some (FromObjIs (Some number))) refl is.proper refl
line_of-words_text (ToObjIs None) is = refl
line_of-words_text (ToObjIs (Some birth)) is = read_number (codes "toobj") birth refl is.in_range
line_of-words_text (NextDeadIs None) is = refl
line_of-words_text (NextDeadIs (Some number)) is = read_structure (codes "nextdead") number
    (Some (NextDeadIs (Some number))) refl is.proper refl
line_of-words_text (Dealloc number) is = read_structure (codes "dealloc") number
    (Some (Dealloc number)) refl is.proper refl
line_of-words_text (UsedIs kept husks) is = read_two_numbers
    (codes "used") kept husks refl is.in_range.0 is.in_range.1 refl
line_of-words_text (MinorDone settled vanished) is = read_two_numbers
    (codes "minor") settled vanished refl is.in_range.0 is.in_range.1 refl
line_of-words_text (Cleared birth) is = read_number (codes "cleared") birth refl is.in_range
line_of-words_text (Destroyed birth) is = read_number (codes "destroyed") birth refl is.in_range
line_of-words_text (LinkCut end) is = read_end end.fate end.number end.own is.proper.number is.proper.own is.proper.no_own
line_of-words_text (Stepped from to) is = read_step from to
line_of-words_text (Visited birth) is = read_number (codes "visited") birth refl is.in_range
line_of-words_text (Kept birth) is = read_number (codes "kept") birth refl is.in_range
line_of-words_text (Freed birth) is = read_number (codes "freed") birth refl is.in_range
line_of-words_text (Queued birth queue) is = read_two_numbers
    (codes "queued") birth queue refl is.in_range.0 is.in_range.1 refl
line_of-words_text (ThresholdIs words) is = read_number (codes "threshold") words refl is.in_range

-- no two lines have one text
pub words_text-injective : (a b : Line) → IsLine a → IsLine b → words_text a ≡ words_text b → a ≡ b
words_text-injective a b is_a is_b same =
    let read : Some a ≡ Some b = sym (line_of-words_text a is_a) ∙ ap line_of same ∙ line_of-words_text b is_b in cc

-- a line whose text this is is read from it
line_of-spelled : (text : List ℕ) (line : Line) → Spells text line → line_of text ≡ Some line
line_of-spelled text line spells = ap line_of spells.is_text ∙ line_of-words_text line spells.is_line

-- what is read spells the text
pub line_spelled : (text : List ℕ) (r : Option Line) → r ≡ line_of text → IfSome r (λ line. Spells text line)
line_spelled text None is = tt
line_spelled text (Some line) is = line_of-spells text line (sym is)

-- no other line does
pub only_line : (text : List ℕ) (r : Option Line) → r ≡ line_of text
    → IfSome r (λ line. (other : Line) → Spells text other → other ≡ line)
only_line text None is = tt
only_line text (Some line) is = λ other spells. let same : Some line ≡ Some other = is
    ∙ line_of-spelled text other spells in cc

-- where nothing is read, no line does
pub no_line : (text : List ℕ) (r : Option Line) → r ≡ line_of text → IfNone r ((line : Line) → Spells text line → ⊥)
no_line text None is = λ line spells. let some : ◌≡◌ {A = Option Line} None (Some line) = is
    ∙ line_of-spelled text line spells in cc
no_line text (Some line) is = tt
