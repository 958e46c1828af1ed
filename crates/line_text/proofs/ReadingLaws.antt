-- The line that is read from a text spells it.
use Rattle.std.proofs.Common.{◌≡◌, ℕ, ◌^◌, ◌<◌, ◌≤◌, Bool, true, false, List, [], ◌∷◌, ◌++◌, Option, Some, None, refl, ap, ◌∙◌, subst, arith}
use Rattle.std.specs.Prelude.{◌&&◌, nat_le, option_map, option_and_then, bytes_eq, codes, decimal}
use Rattle.std.proofs.lemmas.Bool.{and_parts, leb-true, cond_both}
use Rattle.std.proofs.lemmas.Slice.Eq.{bytes_eq-Decides}
use Rattle.text_model.specs.declared.line.Line.{Line}
use Rattle.text_model.specs.declared.line.Line.TheVariants.{Born, PlaceIs, UsedIs, MinorDone, LinkCut, Stepped, Queued}
use Rattle.text_model.specs.declared.line.Fate.TheVariants.{Unlinked, Pending, Released}
use Rattle.text_model.specs.declared.line.Fate.{Fate}
use Rattle.text_model.specs.declared.line.Phase.{Phase}
use Rattle.text_model.specs.declared.line.Phase.TheVariants.{Scanning, Marking, Sweeping, Finalizing}
use Rattle.text_model.specs.Numbers.{number_of}
use Rattle.text_model.specs.Text.{words_text, age_text, phase_text, IsProper, IsProperEnd}
use Rattle.line_text.proofs.DecimalLaws.{decimal_from_number}
use Rattle.line_text.specs.Spelling.{IsInRange, Spells}
use Rattle.line_text.specs.Reading.{first_word, Forms, line_in, number_forms, birth_forms, structure_forms, structure_line, number_line, fixed_texts, line_among, fixed_line, age_of, born_line, place_line, phase_of, step_line, unlinked_line, numbers_line, two_numbers_line, two_words_line, one_word_line, line_by_words, line_of}
use Rattle.line_text.proofs.WordLaws.{mapped, parts_of_text}

infixr 5 ◌&◌
abbrev ◌&◌ : {A B : Type 0} → A → B → A × B
a & b = (a, b)

spelled : (text : List ℕ) (line : Line) → text ≡ words_text line → IsProper line → IsInRange line → Spells text line
spelled text line is_text proper in_range = record { is_text = is_text; is_line = record { proper = proper; in_range = in_range } }

-- the same line of another spelling of the text
same_text : (text other : List ℕ) (line : Line) → text ≡ other → Spells other line → Spells text line
same_text text other line same spells = record { is_text = same ∙ spells.is_text; is_line = spells.is_line }

same_line : (text : List ℕ) (line other : Line) → Some line ≡ Some other → Spells text line → Spells text other
same_line text line other same spells = let is : line ≡ other = cc in subst (λ l. Spells text l) is spells

-- each form of the list spells its keyword and the number
abbrev AllSpelled : Forms → ℕ → Type 0
AllSpelled [] n = Unit {0}
AllSpelled (form ∷ forms) n = Spells (form.0 ++ 32 ∷ decimal n) (form.1 n) × AllSpelled forms n

line_in-spells : (forms : Forms) (keyword : List ℕ) (n : ℕ) (other : Option Line) (line : Line) → AllSpelled forms n
    → (other ≡ Some line → Spells (keyword ++ 32 ∷ decimal n) line) → line_in forms keyword n other ≡ Some line
    → Spells (keyword ++ 32 ∷ decimal n) line
line_in-spells [] keyword n other line all rest = rest
line_in-spells (form ∷ forms) keyword n other line all rest =
    cond_both (bytes_eq keyword form.0) (Some (form.1 n)) (line_in forms keyword n other)
    (λ read. read ≡ Some line → Spells (keyword ++ 32 ∷ decimal n) line)
    (λ same found.
    let is_keyword = (bytes_eq-Decides keyword form.0).0 same in
    same_line (keyword ++ 32 ∷ decimal n) (form.1 n) line found
    (same_text (keyword ++ 32 ∷ decimal n) (form.0 ++ 32 ∷ decimal n) (form.1 n)
    (ap (λ (word : List ℕ). word ++ 32 ∷ decimal n) is_keyword) all.0))
    (λ differ found. line_in-spells forms keyword n other line all.1 rest found)

number_forms_spelled : (n : ℕ) → n < 2 ^ 64 → AllSpelled number_forms n
unfolding words_text IsProper IsInRange
number_forms_spelled n small =
    spelled _ _ refl tt small & spelled _ _ refl tt small & spelled _ _ refl tt small & spelled _ _ refl tt small
    & spelled _ _ refl tt small & spelled _ _ refl tt small & spelled _ _ refl tt small & spelled _ _ refl tt small
    & spelled _ _ refl tt small & spelled _ _ refl tt small & tt

birth_forms_spelled : (n : ℕ) → n < 2 ^ 64 → AllSpelled birth_forms n
unfolding words_text IsProper IsInRange
birth_forms_spelled n small =
    spelled _ _ refl tt small & spelled _ _ refl tt small & spelled _ _ refl tt small & spelled _ _ refl tt small & tt

structure_forms_spelled : (n : ℕ) → n ≤ 65535 → AllSpelled structure_forms n
unfolding words_text IsProper IsInRange
structure_forms_spelled n small =
    let end : (fate : Fate) → (fate ≡ Unlinked → ⊥) → IsProperEnd (record { number = n; own = 0; fate = fate }) = λ fate other.
    record { number = small; own = omega arith; no_own = λ _. refl } in
    spelled _ _ refl small tt & spelled _ _ refl small tt & spelled _ _ refl small tt
    & spelled _ _ refl (end Pending (λ same. cc)) tt & spelled _ _ refl (end Released (λ same. cc)) tt & tt

structure_line-spells : (keyword : List ℕ) (n : ℕ) (line : Line) → structure_line keyword n ≡ Some line
    → Spells (keyword ++ 32 ∷ decimal n) line
unfolding structure_line
structure_line-spells keyword n line =
    cond_both (nat_le n 65535) (line_in structure_forms keyword n None) None
    (λ read. read ≡ Some line → Spells (keyword ++ 32 ∷ decimal n) line)
    (λ small. line_in-spells structure_forms keyword n None line (structure_forms_spelled n (leb-true n 65535 small))
    (λ none. cc))
    (λ _ none. cc)

number_line-spells : (keyword : List ℕ) (n : ℕ) (line : Line) → n < 2 ^ 64 → number_line keyword n ≡ Some line
    → Spells (keyword ++ 32 ∷ decimal n) line
unfolding number_line
number_line-spells keyword n line small =
    line_in-spells number_forms keyword n
    (line_in birth_forms keyword n (structure_line keyword n)) line (number_forms_spelled n small)
    (line_in-spells birth_forms keyword n (structure_line keyword n) line (birth_forms_spelled n small)
    (structure_line-spells keyword n line))

abbrev AllTexts : List (List ℕ × Line) → Type 0
AllTexts [] = Unit {0}
AllTexts (fixed ∷ others) = Spells fixed.0 fixed.1 × AllTexts others

line_among-spells : (texts : List (List ℕ × Line)) (text : List ℕ) (line : Line) → AllTexts texts
    → line_among texts text ≡ Some line → Spells text line
line_among-spells [] text line all = λ none. cc
line_among-spells (fixed ∷ others) text line all =
    cond_both (bytes_eq text fixed.0) (Some fixed.1) (line_among others text)
    (λ read. read ≡ Some line → Spells text line)
    (λ same found. same_line text fixed.1 line found
    (same_text text fixed.0 fixed.1 ((bytes_eq-Decides text fixed.0).0 same) all.0))
    (λ differ found. line_among-spells others text line all.1 found)

fixed_texts_spelled : AllTexts fixed_texts
unfolding words_text IsProper IsInRange
fixed_texts_spelled =
    spelled _ _ refl tt tt & spelled _ _ refl tt tt & spelled _ _ refl tt tt & spelled _ _ refl tt tt
    & spelled _ _ refl tt tt & spelled _ _ refl tt tt & spelled _ _ refl tt tt & spelled _ _ refl tt tt
    & spelled _ _ refl tt tt & spelled _ _ refl tt tt & spelled _ _ refl tt tt & tt

fixed_line-spells : (text : List ℕ) (line : Line) → fixed_line text ≡ Some line → Spells text line
unfolding fixed_line
fixed_line-spells text line = line_among-spells fixed_texts text line fixed_texts_spelled

-- what a step that may fail went on from
then_inside : {A B : Type 0} (o : Option A) (f : A → Option B) (y : B) → option_and_then f o ≡ Some y
    → (x : A) × (o ≡ Some x) × (f x ≡ Some y)
then_inside None f y is = cc
then_inside (Some x) f y is = (x, refl, is)

age_of-text : (word : List ℕ) (old : Bool) → age_of word ≡ Some old → 32 ∷ word ≡ age_text old
age_of-text word old =
    let P : Option Bool → Type 0 = λ read. read ≡ Some old → 32 ∷ word ≡ age_text old in
    let spaced : (name : List ℕ) → bytes_eq word name ≡ true → 32 ∷ word ≡ 32 ∷ name = λ name same. ap (λ w. 32 ∷ w) ((bytes_eq-Decides word name).0 same) in
    cond_both (bytes_eq word (codes "old")) (Some true) _ P
    (λ same found. let is : true ≡ old = cc in spaced (codes "old") same ∙ ap age_text is)
    (λ _. cond_both (bytes_eq word (codes "young")) (Some false) None P
    (λ same found. let is : false ≡ old = cc in spaced (codes "young") same ∙ ap age_text is)
    (λ _ none. cc))

born_line-spells : (first second : List ℕ) (line : Line) → born_line first second ≡ Some line
    → Spells (codes "new" ++ 32 ∷ (first ++ 32 ∷ second)) line
unfolding born_line words_text IsProper IsInRange
born_line-spells first second line read =
    let birth = then_inside (number_of first)
    (λ b. option_and_then (λ old. Some (Born b old)) (age_of second)) line read in
    let old = then_inside (age_of second) (λ is. Some (Born birth.0 is)) line birth.2 in
    let digits = decimal_from_number first birth.0 birth.1 in
    let text : (first ++ 32 ∷ second) ≡ (decimal birth.0 ++ age_text old.0) = ap
    (λ (word : List ℕ). word ++ 32 ∷ second) digits.0
    ∙ ap (λ end. decimal birth.0 ++ end) (age_of-text second old.0 old.1) in
    same_line _ (Born birth.0 old.0) line old.2
    (spelled _ (Born birth.0 old.0) (ap (λ rest. codes "new " ++ rest) text) tt digits.1)

place_line-spells : (first second : List ℕ) (line : Line) → place_line first second ≡ Some line
    → Spells (codes "where" ++ 32 ∷ (first ++ 32 ∷ second)) line
unfolding place_line words_text IsProper IsInRange
place_line-spells first second line =
    cond_both (bytes_eq first (codes "old")) (option_map (λ place. PlaceIs (Some place)) (number_of second)) None
    (λ read. read ≡ Some line → Spells (codes "where" ++ 32 ∷ (first ++ 32 ∷ second)) line)
    (λ same read.
    let place = mapped (λ place. PlaceIs (Some place)) (number_of second) line read in
    let digits = decimal_from_number second place.0 place.1 in
    let text : (first ++ 32 ∷ second) ≡ (codes "old " ++ decimal place.0) = ap
    (λ (word : List ℕ). word ++ 32 ∷ second) ((bytes_eq-Decides first (codes "old")).0 same)
    ∙ ap (λ word. codes "old " ++ word) digits.0 in
    same_line _ (PlaceIs (Some place.0)) line (ap Some place.2)
    (spelled _ (PlaceIs (Some place.0)) (ap (λ rest. codes "where " ++ rest) text) tt digits.1))
    (λ _ none. cc)

phase_named : (word name : List ℕ) (named phase : Phase) → name ≡ phase_text named → bytes_eq word name ≡ true
    → Some named ≡ Some phase → word ≡ phase_text phase
phase_named word name named phase is same found =
    let it : named ≡ phase = cc in (bytes_eq-Decides word name).0 same ∙ is ∙ ap phase_text it

phase_of-text : (word : List ℕ) (phase : Phase) → phase_of word ≡ Some phase → word ≡ phase_text phase
phase_of-text word phase =
    let P : Option Phase → Type 0 = λ read. read ≡ Some phase → word ≡ phase_text phase in
    cond_both (bytes_eq word (codes "scanning")) (Some Scanning) _ P
    (phase_named word (codes "scanning") Scanning phase refl)
    (λ _. cond_both (bytes_eq word (codes "marking")) (Some Marking) _ P
    (phase_named word (codes "marking") Marking phase refl)
    (λ _. cond_both (bytes_eq word (codes "sweeping")) (Some Sweeping) _ P
    (phase_named word (codes "sweeping") Sweeping phase refl)
    (λ _. cond_both (bytes_eq word (codes "finalizing")) (Some Finalizing) None P
    (phase_named word (codes "finalizing") Finalizing phase refl)
    (λ _ none. cc))))

step_line-spells : (first second : List ℕ) (line : Line) → step_line first second ≡ Some line
    → Spells (codes "step" ++ 32 ∷ (first ++ 32 ∷ second)) line
unfolding step_line words_text IsProper IsInRange
step_line-spells first second line read =
    let from = then_inside (phase_of first)
    (λ from. option_and_then (λ to. Some (Stepped from to)) (phase_of second)) line read in
    let to = then_inside (phase_of second) (λ to. Some (Stepped from.0 to)) line from.2 in
    let text : (first ++ 32 ∷ second) ≡ (phase_text from.0 ++ 32 ∷ phase_text to.0) = ap
    (λ (word : List ℕ). word ++ 32 ∷ second) (phase_of-text first from.0 from.1)
    ∙ ap (λ (word : List ℕ). phase_text from.0 ++ 32 ∷ word) (phase_of-text second to.0 to.1) in
    same_line _ (Stepped from.0 to.0) line to.2
    (spelled _ (Stepped from.0 to.0) (ap (λ rest. codes "step " ++ rest) text) tt tt)

unlinked_line-spells : (number own : ℕ) (line : Line) → unlinked_line number own ≡ Some line
    → Spells (codes "unlinked" ++ 32 ∷ (decimal number ++ 32 ∷ decimal own)) line
unfolding unlinked_line words_text IsProper IsInRange
unlinked_line-spells number own line =
    cond_both (nat_le number 65535 && nat_le own 4294967295)
    (Some (LinkCut (record { number = number; own = own; fate = Unlinked }))) None
    (λ read. read ≡ Some line → Spells (codes "unlinked" ++ 32 ∷ (decimal number ++ 32 ∷ decimal own)) line)
    (λ small found.
    let tests = and_parts (nat_le number 65535) (nat_le own 4294967295) small in
    same_line _ (LinkCut (record { number = number; own = own; fate = Unlinked })) line found
    (spelled _ (LinkCut (record { number = number; own = own; fate = Unlinked })) refl
    (record { number = leb-true number 65535 tests.0; own = leb-true own 4294967295 tests.1; no_own = λ other. absurd (other refl) }) tt))
    (λ _ none. cc)

-- where the keyword is this one, its line spells the text
keyword_spells : (keyword name rest : List ℕ) (line : Line) → bytes_eq keyword name ≡ true
    → Spells (name ++ 32 ∷ rest) line → Spells (keyword ++ 32 ∷ rest) line
keyword_spells keyword name rest line same spells = same_text
    (keyword ++ 32 ∷ rest) (name ++ 32 ∷ rest) line
    (ap (λ (word : List ℕ). word ++ 32 ∷ rest) ((bytes_eq-Decides keyword name).0 same)) spells

numbers_line-spells : (keyword : List ℕ) (a b : ℕ) (line : Line) → a < 2 ^ 64 → b < 2 ^ 64
    → numbers_line keyword a b ≡ Some line → Spells (keyword ++ 32 ∷ (decimal a ++ 32 ∷ decimal b)) line
unfolding numbers_line words_text IsProper IsInRange
numbers_line-spells keyword a b line small_a small_b =
    let rest = decimal a ++ 32 ∷ decimal b in
    let P : Option Line → Type 0 = λ read. read ≡ Some line → Spells (keyword ++ 32 ∷ rest) line in
    cond_both (bytes_eq keyword (codes "used")) (Some (UsedIs a b)) _ P
    (λ same found. same_line _ (UsedIs a b) line found
    (keyword_spells keyword (codes "used") rest (UsedIs a b) same
    (spelled _ (UsedIs a b) refl tt (small_a, small_b))))
    (λ _. cond_both (bytes_eq keyword (codes "minor")) (Some (MinorDone a b)) _ P
    (λ same found. same_line _ (MinorDone a b) line found
    (keyword_spells keyword (codes "minor") rest (MinorDone a b) same
    (spelled _ (MinorDone a b) refl tt (small_a, small_b))))
    (λ _. cond_both (bytes_eq keyword (codes "queued")) (Some (Queued a b)) _ P
    (λ same found. same_line _ (Queued a b) line found
    (keyword_spells keyword (codes "queued") rest (Queued a b) same
    (spelled _ (Queued a b) refl tt (small_a, small_b))))
    (λ _. cond_both (bytes_eq keyword (codes "unlinked")) (unlinked_line a b) None P
    (λ same found. keyword_spells keyword (codes "unlinked") rest line same (unlinked_line-spells a b line found))
    (λ _ none. cc))))

two_numbers_line-spells : (keyword first second : List ℕ) (line : Line)
    → two_numbers_line keyword first second ≡ Some line → Spells (keyword ++ 32 ∷ (first ++ 32 ∷ second)) line
unfolding two_numbers_line
two_numbers_line-spells keyword first second line read =
    let a = then_inside (number_of first)
    (λ a. option_and_then (λ b. numbers_line keyword a b) (number_of second)) line read in
    let b = then_inside (number_of second) (λ b. numbers_line keyword a.0 b) line a.2 in
    let front = decimal_from_number first a.0 a.1 in
    let back = decimal_from_number second b.0 b.1 in
    let text : (first ++ 32 ∷ second) ≡ (decimal a.0 ++ 32 ∷ decimal b.0) = ap
    (λ (word : List ℕ). word ++ 32 ∷ second) front.0 ∙ ap (λ (word : List ℕ). decimal a.0 ++ 32 ∷ word) back.0 in
    same_text _ (keyword ++ 32 ∷ (decimal a.0 ++ 32 ∷ decimal b.0)) line
    (ap (λ rest. keyword ++ 32 ∷ rest) text) (numbers_line-spells keyword a.0 b.0 line front.1 back.1 b.2)

two_words_line-spells : (keyword first second : List ℕ) (line : Line) → two_words_line keyword first second ≡ Some line
    → Spells (keyword ++ 32 ∷ (first ++ 32 ∷ second)) line
unfolding two_words_line
two_words_line-spells keyword first second line =
    let rest = first ++ 32 ∷ second in
    let P : Option Line → Type 0 = λ read. read ≡ Some line → Spells (keyword ++ 32 ∷ rest) line in
    cond_both (bytes_eq keyword (codes "new")) (born_line first second) _ P
    (λ same found. keyword_spells keyword (codes "new") rest line same (born_line-spells first second line found))
    (λ _. cond_both (bytes_eq keyword (codes "where")) (place_line first second) _ P
    (λ same found. keyword_spells keyword (codes "where") rest line same (place_line-spells first second line found))
    (λ _. cond_both (bytes_eq keyword (codes "step")) (step_line first second) (two_numbers_line keyword first second) P
    (λ same found. keyword_spells keyword (codes "step") rest line same (step_line-spells first second line found))
    (λ _. two_numbers_line-spells keyword first second line)))

one_word_line-spells : (text keyword word : List ℕ) (number : Option ℕ) (line : Line) → number_of word ≡ number
    → text ≡ keyword ++ 32 ∷ word → one_word_line text keyword number ≡ Some line → Spells text line
one_word_line-spells text keyword word None line is parts read = fixed_line-spells text line read
one_word_line-spells text keyword word (Some n) line is parts read =
    let digits = decimal_from_number word n is in
    same_text text (keyword ++ 32 ∷ decimal n) line (parts ∙ ap (λ rest. keyword ++ 32 ∷ rest) digits.0)
    (number_line-spells keyword n line digits.1 read)

line_by_words-spells : (text keyword behind : List ℕ) (words : Option (List ℕ × List ℕ)) (line : Line)
    → first_word behind ≡ words → text ≡ keyword ++ 32 ∷ behind → line_by_words text keyword behind words ≡ Some line
    → Spells text line
line_by_words-spells text keyword behind None line is parts read = one_word_line-spells text keyword behind
    (number_of behind) line refl parts read
line_by_words-spells text keyword behind (Some words) line is parts read =
    same_text text (keyword ++ 32 ∷ (words.0 ++ 32 ∷ words.1)) line
    (parts ∙ ap (λ rest. keyword ++ 32 ∷ rest) (parts_of_text behind words is))
    (two_words_line-spells keyword words.0 words.1 line read)

-- a line that is read spells the text
pub line_of-spells : (text : List ℕ) (line : Line) → line_of text ≡ Some line → Spells text line
unfolding line_of
line_of-spells text line read =
    let parts = then_inside (first_word text)
    (λ parts. line_by_words text parts.0 parts.1 (first_word parts.1)) line read in
    line_by_words-spells text parts.0.0 parts.0.1 (first_word parts.0.1) line refl
    (parts_of_text text parts.0 parts.1) parts.2
