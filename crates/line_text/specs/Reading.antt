-- The line that a text spells, read by its first words.
use Rattle.std.specs.Prelude.{ℕ, Bool, true, false, ◌&&◌, ◌==◌, nat_le, if◌then◌else◌, List, [], ◌∷◌, Option, Some, None, option_map, option_and_then, bytes_eq, codes}
use Rattle.text_model.specs.declared.line.Line.{Line}
use Rattle.text_model.specs.declared.line.Line.TheVariants.{Born, Got, Loaded, SameAs, IdentIs, HashIs, PlaceIs, PinIs, Derefed, NextIs, CountIs, FromObjIs, ToObjIs, NextDeadIs, Dealloc, UsedIs, MinorDone, Cleared, Destroyed, LinkCut, Stepped, Visited, Kept, Freed, Queued, ThresholdIs}
use Rattle.text_model.specs.declared.line.Fate.{Fate}
use Rattle.text_model.specs.declared.line.Fate.TheVariants.{Unlinked, Pending, Released}
use Rattle.text_model.specs.declared.line.Phase.{Phase}
use Rattle.text_model.specs.declared.line.Phase.TheVariants.{Scanning, Marking, Sweeping, Finalizing}
use Rattle.text_model.specs.Numbers.{number_of}

infixl 10 ◌>>=◌
abbrev pub ◌>>=◌ : {A B : Type 0} → Option A → (A → Option B) → Option B
o >>= f = option_and_then f o

-- what stands before the first space, and what behind it
abbrev pub first_word : List ℕ → Option (List ℕ × List ℕ)
first_word [] = None
first_word (b ∷ bytes) = if b == 32 then Some ([], bytes) else option_map (λ parts. (b ∷ parts.0, parts.1)) (first_word bytes)

-- forms that differ in their keyword alone, each with the line of a number behind it
abbrev pub Forms : Type 0
Forms = List (List ℕ × (ℕ → Line))

-- the line of the keyword's form, or the other one where no form has the keyword
abbrev pub line_in : Forms → List ℕ → ℕ → Option Line → Option Line
line_in [] keyword n other = other
line_in (form ∷ forms) keyword n other = if bytes_eq keyword form.0 then Some (form.1 n) else line_in forms keyword n other

abbrev pub number_forms : Forms
number_forms =
    (codes "got", λ n. Got n) ∷ (codes "id", λ n. IdentIs n) ∷ (codes "hash", λ n. HashIs n) ∷ (codes "count", λ n. CountIs n)
    ∷ (codes "cleared", λ n. Cleared n) ∷ (codes "destroyed", λ n. Destroyed n) ∷ (codes "visited", λ n. Visited n)
    ∷ (codes "kept", λ n. Kept n) ∷ (codes "freed", λ n. Freed n) ∷ (codes "threshold", λ n. ThresholdIs n) ∷ []

abbrev pub birth_forms : Forms
birth_forms =
    (codes "loaded", λ n. Loaded (Some n)) ∷ (codes "deref", λ n. Derefed (Some n)) ∷ (codes "next", λ n. NextIs (Some n))
    ∷ (codes "toobj", λ n. ToObjIs (Some n)) ∷ []

-- a link that leaves no structure with an own count
abbrev pub cut : Fate → ℕ → Line
cut fate number = LinkCut (record { number = number; own = 0; fate = fate })

abbrev pub structure_forms : Forms
structure_forms =
    (codes "fromobj", λ n. FromObjIs (Some n)) ∷ (codes "nextdead", λ n. NextDeadIs (Some n)) ∷ (codes "dealloc", λ n. Dealloc n)
    ∷ (codes "pending", λ n. cut Pending n) ∷ (codes "released", λ n. cut Released n) ∷ []

-- a keyword and a structure's number
unfoldable pub structure_line : List ℕ → ℕ → Option Line
structure_line keyword n = if nat_le n 65535 then line_in structure_forms keyword n None else None

-- a keyword and a number
unfoldable pub number_line : List ℕ → ℕ → Option Line
number_line keyword n = line_in number_forms keyword n (line_in birth_forms keyword n (structure_line keyword n))

-- the texts without a number, but for those of a step
abbrev pub fixed_texts : List (List ℕ × Line)
fixed_texts =
    (codes "loaded nil", Loaded None) ∷ (codes "same yes", SameAs true) ∷ (codes "same no", SameAs false)
    ∷ (codes "where young", PlaceIs None) ∷ (codes "pin yes", PinIs true) ∷ (codes "pin no", PinIs false)
    ∷ (codes "deref nil", Derefed None) ∷ (codes "next nil", NextIs None) ∷ (codes "fromobj none", FromObjIs None)
    ∷ (codes "toobj nil", ToObjIs None) ∷ (codes "nextdead none", NextDeadIs None) ∷ []

abbrev pub line_among : List (List ℕ × Line) → List ℕ → Option Line
line_among [] text = None
line_among (fixed ∷ others) text = if bytes_eq text fixed.0 then Some fixed.1 else line_among others text

unfoldable pub fixed_line : List ℕ → Option Line
fixed_line text = line_among fixed_texts text

-- `new B young` and `new B old`
abbrev pub age_of : List ℕ → Option Bool
age_of word = if bytes_eq word (codes "old") then Some true else if bytes_eq word (codes "young") then Some false else None

unfoldable pub born_line : List ℕ → List ℕ → Option Line
born_line first second = do
  birth ← number_of first
  old ← age_of second
  Some (Born birth old)

-- `where old N`
unfoldable pub place_line : List ℕ → List ℕ → Option Line
place_line first second = if bytes_eq first (codes "old") then option_map (λ place. PlaceIs (Some place)) (number_of second) else None

-- `step P Q`
abbrev pub phase_of : List ℕ → Option Phase
phase_of word =
    if bytes_eq word (codes "scanning") then Some Scanning else
    if bytes_eq word (codes "marking") then Some Marking else
    if bytes_eq word (codes "sweeping") then Some Sweeping else
    if bytes_eq word (codes "finalizing") then Some Finalizing else
    None

unfoldable pub step_line : List ℕ → List ℕ → Option Line
step_line first second = do
  from ← phase_of first
  to ← phase_of second
  Some (Stepped from to)

-- `unlinked C N`
unfoldable pub unlinked_line : ℕ → ℕ → Option Line
unlinked_line number own =
    if nat_le number 65535 && nat_le own 4294967295 then Some (LinkCut (record { number = number; own = own; fate = Unlinked })) else None

-- a keyword and two numbers
unfoldable pub numbers_line : List ℕ → ℕ → ℕ → Option Line
numbers_line keyword a b =
    if bytes_eq keyword (codes "used") then Some (UsedIs a b) else
    if bytes_eq keyword (codes "minor") then Some (MinorDone a b) else
    if bytes_eq keyword (codes "queued") then Some (Queued a b) else
    if bytes_eq keyword (codes "unlinked") then unlinked_line a b else
    None

unfoldable pub two_numbers_line : List ℕ → List ℕ → List ℕ → Option Line
two_numbers_line keyword first second = do
  a ← number_of first
  b ← number_of second
  numbers_line keyword a b

-- a keyword and two words
unfoldable pub two_words_line : List ℕ → List ℕ → List ℕ → Option Line
two_words_line keyword first second =
    if bytes_eq keyword (codes "new") then born_line first second else
    if bytes_eq keyword (codes "where") then place_line first second else
    if bytes_eq keyword (codes "step") then step_line first second else
    two_numbers_line keyword first second

-- a keyword and a word
abbrev pub one_word_line : List ℕ → List ℕ → Option ℕ → Option Line
one_word_line text keyword None = fixed_line text
one_word_line text keyword (Some n) = number_line keyword n

abbrev pub line_by_words : List ℕ → List ℕ → List ℕ → Option (List ℕ × List ℕ) → Option Line
line_by_words text keyword behind None = one_word_line text keyword (number_of behind)
line_by_words text keyword behind (Some words) = two_words_line keyword words.0 words.1

-- the line that the text spells, if it spells one
unfoldable pub line_of : List ℕ → Option Line
line_of text = do
  parts ← first_word text
  line_by_words text parts.0 parts.1 (first_word parts.1)
