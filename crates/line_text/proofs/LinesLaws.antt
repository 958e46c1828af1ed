-- No line has an LF inside, so no two lists of lines have one text.
use Rattle.std.proofs.Common.{◌≡◌, ℕ, ◌^◌, ◌<◌, ◌≤◌, true, false, List, [], ◌∷◌, ◌++◌, Some, None, refl, sym, ap, ◌∙◌, arith, append_assoc}
use Rattle.std.specs.Prelude.{not, ◌==◌, codes, decimal}
use Rattle.std.specs.List.{All}
use Rattle.std.proofs.lemmas.Bool.{and_parts, and_from, not-true}
use Rattle.std.proofs.lemmas.Bool.Decides.{nat_tests}
use Rattle.std.proofs.lemmas.List.Elements.{All-head, All-tail}
use Rattle.text_model.specs.declared.line.Line.{Line}
use Rattle.text_model.specs.declared.line.Line.TheVariants.{Born, Got, Loaded, SameAs, IdentIs, HashIs, PlaceIs, PinIs, Derefed, NextIs, CountIs, FromObjIs, ToObjIs, NextDeadIs, Dealloc, UsedIs, MinorDone, Cleared, Destroyed, LinkCut, Stepped, Visited, Kept, Freed, Queued, ThresholdIs}
use Rattle.text_model.specs.declared.line.Fate.{Fate}
use Rattle.text_model.specs.declared.line.Fate.TheVariants.{Unlinked, Pending, Released}
use Rattle.text_model.specs.declared.line.Phase.{Phase}
use Rattle.text_model.specs.declared.line.Phase.TheVariants.{Scanning, Marking, Sweeping, Finalizing}
use Rattle.text_model.specs.Text.{words_text, lines_text, phase_text, end_text, IsProper}
use Rattle.line_text.specs.Spelling.{IsInRange, IsLine}
use Rattle.line_text.proofs.WordLaws.{lacks}
use Rattle.line_text.proofs.SpellingLaws.{decimal_lacks, words_text-injective}

lacks-append : (x : ℕ) (front back : List ℕ) → lacks x front ≡ true → lacks x back ≡ true
    → lacks x (front ++ back) ≡ true
lacks-append x [] back front_free back_free = back_free
lacks-append x (b ∷ front) back front_free back_free =
    let tests = and_parts (not (b == x)) (lacks x front) front_free in
    and_from (not (b == x)) (lacks x (front ++ back)) tests.0 (lacks-append x front back tests.1 back_free)

number_lacks : (n : ℕ) → n < 2 ^ 64 → lacks 10 (decimal n) ≡ true
number_lacks n small = decimal_lacks 10 n refl small

two_numbers_lack : (a b : ℕ) → a < 2 ^ 64 → b < 2 ^ 64 → lacks 10 (decimal a ++ 32 ∷ decimal b) ≡ true
two_numbers_lack a b small_a small_b = lacks-append 10 (decimal a) (32 ∷ decimal b) (number_lacks a small_a)
    (number_lacks b small_b)

phase_lacks : (phase : Phase) → lacks 10 (phase_text phase) ≡ true
phase_lacks Scanning = refl
phase_lacks Marking = refl
phase_lacks Sweeping = refl
phase_lacks Finalizing = refl

end_lacks : (fate : Fate) (number own : ℕ) → number ≤ 65535 → own ≤ 4294967295
    → lacks 10 (end_text fate number own) ≡ true
end_lacks Unlinked number own small_number small_own = two_numbers_lack number own (omega arith) (omega arith)
end_lacks Pending number own small_number small_own = number_lacks number (omega arith)
end_lacks Released number own small_number small_own = number_lacks number (omega arith)

line_lacks : (line : Line) → IsLine line → lacks 10 (words_text line) ≡ true
unfolding words_text IsProper IsInRange
line_lacks (Born birth true) is = lacks-append 10 (decimal birth) (codes " old") (number_lacks birth is.in_range) refl
line_lacks (Born birth false) is = lacks-append 10 (decimal birth) (codes " young")
    (number_lacks birth is.in_range) refl
line_lacks (Got value) is = number_lacks value is.in_range
line_lacks (Loaded None) is = refl
line_lacks (Loaded (Some birth)) is = number_lacks birth is.in_range
line_lacks (SameAs true) is = refl
line_lacks (SameAs false) is = refl
line_lacks (IdentIs place) is = number_lacks place is.in_range
line_lacks (HashIs value) is = number_lacks value is.in_range
line_lacks (PlaceIs None) is = refl
line_lacks (PlaceIs (Some place)) is = number_lacks place is.in_range
line_lacks (PinIs true) is = refl
line_lacks (PinIs false) is = refl
line_lacks (Derefed None) is = refl
line_lacks (Derefed (Some birth)) is = number_lacks birth is.in_range
line_lacks (NextIs None) is = refl
line_lacks (NextIs (Some birth)) is = number_lacks birth is.in_range
line_lacks (CountIs value) is = number_lacks value is.in_range
line_lacks (FromObjIs None) is = refl
line_lacks (FromObjIs (Some number)) is = let small : number ≤ 65535 = is.proper in number_lacks number (omega arith)
line_lacks (ToObjIs None) is = refl
line_lacks (ToObjIs (Some birth)) is = number_lacks birth is.in_range
line_lacks (NextDeadIs None) is = refl
line_lacks (NextDeadIs (Some number)) is = let small : number ≤ 65535 = is.proper in number_lacks number (omega arith)
line_lacks (Dealloc number) is = let small : number ≤ 65535 = is.proper in number_lacks number (omega arith)
line_lacks (UsedIs kept husks) is = two_numbers_lack kept husks is.in_range.0 is.in_range.1
line_lacks (MinorDone settled vanished) is = two_numbers_lack settled vanished is.in_range.0 is.in_range.1
line_lacks (Cleared birth) is = number_lacks birth is.in_range
line_lacks (Destroyed birth) is = number_lacks birth is.in_range
line_lacks (LinkCut end) is = end_lacks end.fate end.number end.own is.proper.number is.proper.own
line_lacks (Stepped from to) is = lacks-append 10 (phase_text from) (codes " " ++ phase_text to) (phase_lacks from)
    (phase_lacks to)
line_lacks (Visited birth) is = number_lacks birth is.in_range
line_lacks (Kept birth) is = number_lacks birth is.in_range
line_lacks (Freed birth) is = number_lacks birth is.in_range
line_lacks (Queued birth queue) is = two_numbers_lack birth queue is.in_range.0 is.in_range.1
line_lacks (ThresholdIs words) is = number_lacks words is.in_range

-- the first LF cuts a text in one way
cut_at_lf : (a b rest others : List ℕ) → lacks 10 a ≡ true → lacks 10 b ≡ true → a ++ 10 ∷ rest ≡ b ++ 10 ∷ others
    → (a ≡ b) × (rest ≡ others)
cut_at_lf [] [] rest others a_free b_free same = (refl, cc)
cut_at_lf [] (y ∷ b) rest others a_free b_free same =
    let head : 10 ≡ y = cc in
    absurd (grind (arith, nat_tests, not-true (y == 10) (and_parts (not (y == 10)) (lacks 10 b) b_free).0))
cut_at_lf (x ∷ a) [] rest others a_free b_free same =
    let head : x ≡ 10 = cc in
    absurd (grind (arith, nat_tests, not-true (x == 10) (and_parts (not (x == 10)) (lacks 10 a) a_free).0))
cut_at_lf (x ∷ a) (y ∷ b) rest others a_free b_free same =
    let head : x ≡ y = cc in
    let tail : a ++ 10 ∷ rest ≡ b ++ 10 ∷ others = cc in
    let cut = cut_at_lf a b rest others (and_parts (not (x == 10)) (lacks 10 a) a_free).1
    (and_parts (not (y == 10)) (lacks 10 b) b_free).1 tail in
    (ap (λ z. z ∷ a) head ∙ ap (λ z. y ∷ z) cut.0, cut.1)

not_empty : (text rest : List ℕ) → text ++ 10 ∷ rest ≡ [] → ⊥
not_empty [] rest same = cc
not_empty (x ∷ text) rest same = cc

first_line : (line : Line) (lines : List Line) → lines_text (line ∷ lines) ≡ words_text line ++ 10 ∷ lines_text lines
first_line line lines = append_assoc (words_text line) (10 ∷ []) (lines_text lines)

-- no two lists of lines have one text
pub lines_text-injective : (a b : List Line) → All IsLine a → All IsLine b → lines_text a ≡ lines_text b → a ≡ b
lines_text-injective [] [] all_a all_b same = refl
lines_text-injective [] (y ∷ b) all_a all_b same = absurd
    (not_empty (words_text y) (lines_text b) (sym (first_line y b) ∙ sym same))
lines_text-injective (x ∷ a) [] all_a all_b same = absurd
    (not_empty (words_text x) (lines_text a) (sym (first_line x a) ∙ same))
lines_text-injective (x ∷ a) (y ∷ b) all_a all_b same =
    let is_x = All-head IsLine x a all_a in
    let is_y = All-head IsLine y b all_b in
    let cut = cut_at_lf (words_text x) (words_text y) (lines_text a) (lines_text b) (line_lacks x is_x)
    (line_lacks y is_y) (sym (first_line x a) ∙ same ∙ first_line y b) in
    let first : x ≡ y = words_text-injective x y is_x is_y cut.0 in
    let others : a ≡ b = lines_text-injective a b (All-tail IsLine x a all_a) (All-tail IsLine y b all_b) cut.1 in
    ap (λ z. z ∷ a) first ∙ ap (λ z. y ∷ z) others
