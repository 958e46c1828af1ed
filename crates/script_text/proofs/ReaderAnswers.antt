-- What a reader answers, by what it took from the bytes ahead.
use Rattle.std.proofs.Common.{◌≡◌, ℕ, ◌+◌, ◌<◌, ◌≤◌, Bool, true, false, List, [], ◌∷◌, ◌++◌, length, take, Option, Result, Err, refl, ap, ◌∙◌, subst, arith, length-take}
use Rattle.std.specs.Io.KnownBytes.{Consumes, IsAtEnd, prepend_known}
use Rattle.std.proofs.KnownBytes.{prepend_known-nil}
use Rattle.script_text.specs.declared.reader.ReadEnd.{ReadEnd}
use Rattle.script_text.specs.declared.reader.ReadEnd.TheVariants.{TooMany, TooLong, ReadFault}
use Rattle.script_text.specs.Reader.{ReaderState, ahead, HandsOut, Longer, BreaksOff, is_one_line, line_limit}
use Rattle.script_text.specs.Reading.{Reads}
use Rattle.script_text.specs.Taking.{TakesLine, IsLineOf}
use Rattle.script_text.proofs.KnownLines.{some_line, longer, begins_line, begins_last}

-- A reader by its parts.
abbrev pub state : List ℕ → ℕ → Bool → ReaderState
state held count ended = record { held = held; count = count; ended = ended }

-- n bytes of the buffer were handed out.
abbrev pub Hands : ReaderState → ReaderState → Option (List ℕ) → Option (List ℕ) → ℕ → List ℕ → Type 0
Hands old new before after n buf =
    (n ≤ 200) × HandsOut old new (ahead old before) (ahead new after) (take n buf)

-- A line was taken with its LF.
pub hands_whole : (old : ReaderState) (held left : List ℕ) (count n : ℕ) (ended : Bool)
    → (before after : Option (List ℕ)) (buf : List ℕ)
    → state held count ended ≡ old → ended ≡ false → count < line_limit → IsLineOf buf n
    → Consumes (prepend_known held before) (prepend_known left after) (take n buf ++ 10 ∷ [])
    → Hands old (state left (count + 1) ended) before after n buf
hands_whole old held left count n ended before after buf is_old unended few line taken =
    let line_bytes = take n buf in
    let from = prepend_known held before in
    let to = prepend_known left after in
    rw (← is_old, unended) (
      line.within,
      record {
        one_line = line.one_line;
        begins = begins_line from to line_bytes line.one_line taken;
        taken = taken;
        count = refl;
        number = omega arith;
      },
    )

-- A last line was taken, which has no LF.
pub hands_last : (old : ReaderState) (held left : List ℕ) (count n : ℕ) (ended : Bool)
    → (before after : Option (List ℕ)) (buf : List ℕ)
    → state held count ended ≡ old → count < line_limit → IsLineOf buf n → 0 < n → length buf ≡ 200
    → Consumes (prepend_known held before) (prepend_known left after) (take n buf)
    → IsAtEnd (prepend_known left after)
    → Hands old (state left (count + 1) true) before after n buf
hands_last old held left count n ended before after buf is_old few line some long taken end =
    let within = line.within in
    let line_bytes = take n buf in
    let from = prepend_known held before in
    let to = prepend_known left after in
    let some_bytes : 0 < length (take n buf) = omega (arith, length-take n buf) in
    rw (← is_old) (
      line.within,
      record {
        one_line = line.one_line;
        begins = begins_last from to line_bytes line.one_line some_bytes taken end;
        taken = taken;
        count = refl;
        number = omega arith;
      },
    )

-- A byte comes behind the greatest number of lines.
pub reads_too_many : (old : ReaderState) (held left : List ℕ) (count byte : ℕ) (ended : Bool)
    → (before after : Option (List ℕ))
    → state held count ended ≡ old → count ≡ line_limit
    → Consumes (prepend_known held before) (prepend_known left after) (byte ∷ [])
    → (old.count ≡ line_limit) × Longer 0 (ahead old before)
reads_too_many old held left count byte ended before after is_old many taken =
    let line = some_line byte (prepend_known held before) (prepend_known left after) taken in
    rw (← is_old) (many, line)

-- 201 bytes with no LF stand in one line.
long_line : (part : List ℕ) (before after : Option (List ℕ))
    → is_one_line part ≡ true → length part ≡ 201 → Consumes before after part → Longer 201 before
long_line [] before after one_line long taken = absurd (omega arith)
long_line (b ∷ part) before after one_line long taken =
    longer 201 b part before after one_line (omega arith) taken

-- After a fault nothing is held, so that what is ahead is the rest of the file.
breaks_off : (left : List ℕ) (before after : Option (List ℕ))
    → left ≡ [] → BreaksOff before (prepend_known left after) → BreaksOff before after
breaks_off left before after none broken = (
  broken.0,
  broken.1,
  let P : Option (List ℕ) → Type 0 = λ rest. Consumes before rest broken.0 in
      subst P (ap (λ held. prepend_known held after) none ∙ prepend_known-nil after) broken.2,
)

-- No line was taken, for this reason.
reads_end : (old new : ReaderState) (held left : List ℕ) (count : ℕ) (ended : Bool)
    → (before after : Option (List ℕ)) (buf : List ℕ) (end : ReadEnd)
    → state held count ended ≡ old → ended ≡ false → count < line_limit → (end ≡ ReadFault → left ≡ [])
    → TakesLine (prepend_known held before) (prepend_known left after) buf (Err end)
    → Reads old new before after buf (Err end)
reads_end old new held left count ended before after buf TooMany is_old unended few none taken =
    absurd taken
reads_end old new held left count ended before after buf TooLong is_old unended few none taken =
    let line = long_line taken.0 (prepend_known held before) (prepend_known left after) taken.1 taken.2 taken.3 in
    rw (← is_old) (few, line)
reads_end old new held left count ended before after buf ReadFault is_old unended few none taken =
    rw (← is_old) (unended, breaks_off left (prepend_known held before) after (none refl) taken)

-- The answer is the reason why no line was taken.
pub reads_err : (old new : ReaderState) (held left : List ℕ) (count : ℕ) (ended : Bool)
    → (before after : Option (List ℕ)) (buf : List ℕ) (end : ReadEnd) (answer : Result (Option ℕ) ReadEnd)
    → state held count ended ≡ old → ended ≡ false → count < line_limit
    → answer ≡ Err end → (end ≡ ReadFault → left ≡ [])
    → TakesLine (prepend_known held before) (prepend_known left after) buf (Err end)
    → Reads old new before after buf answer
reads_err old new held left count ended before after buf end answer is_old unended few is none taken =
    rw (is) (reads_end old new held left count ended before after buf end is_old unended few none taken)
