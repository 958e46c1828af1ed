-- The lines of bytes of which a front is known.
use Rattle.std.proofs.Common.{◌≡◌, ℕ, ◌<◌, ◌≤◌, true, false, List, [], ◌∷◌, ◌++◌, length, Option, Some, None, refl, sym, ap, ◌∙◌, arith, append_assoc, append-nil, inl, inr}
use Rattle.std.specs.Prelude.{◌==◌}
use Rattle.std.specs.Io.KnownBytes.{Consumes, IsAtEnd}
use Rattle.std.proofs.KnownBytes.{Consumes-trans}
use Rattle.std.proofs.lemmas.Bool.{and_parts, not-true, and_from, cases_Bool}
use Rattle.text_model.specs.Lines.{lines_of, in_front}
use Rattle.script_text.specs.Reader.{is_one_line, Begins, Longer}

-- A front was taken, and then nothing.
pub consumes_then_nothing : (before mid after : Option (List ℕ)) (part : List ℕ)
    → Consumes before mid part → Consumes mid after [] → Consumes before after part
consumes_then_nothing before mid after part taken nothing =
    rw (← append-nil part) (Consumes-trans before mid after part [] taken nothing)

-- A line goes on by a byte that is not LF.
pub is_one_line-push : (line : List ℕ) (b : ℕ)
    → is_one_line line ≡ true → (b == 10) ≡ false → is_one_line (line ++ b ∷ []) ≡ true
is_one_line-push [] b one_line other = rw other refl
is_one_line-push (x ∷ line) b one_line other =
    let parts = and_parts _ (is_one_line line) one_line in
    and_from _ _ parts.0 (is_one_line-push line b parts.1 other)

-- A byte that is not LF goes in front of the first line.
pub lines_of-other : (b : ℕ) (bytes : List ℕ)
    → (b == 10) ≡ false → lines_of (b ∷ bytes) ≡ in_front b (lines_of bytes)
lines_of-other b bytes other = rw other refl

-- A line, its LF, and the lines behind.
pub lines_of-line : (line rest : List ℕ)
    → is_one_line line ≡ true → lines_of (line ++ 10 ∷ rest) ≡ line ∷ lines_of rest
lines_of-line [] rest one_line = refl
lines_of-line (b ∷ line) rest one_line =
    let parts = and_parts _ (is_one_line line) one_line in
    lines_of-other b (line ++ 10 ∷ rest) (not-true (b == 10) parts.0)
    ∙ ap (in_front b) (lines_of-line line rest parts.1)

-- A last line with no LF.
pub lines_of-last : (line : List ℕ)
    → is_one_line line ≡ true → 0 < length line → lines_of line ≡ line ∷ []
lines_of-last [] one_line some = absurd (omega arith)
lines_of-last (b ∷ []) one_line some =
    let parts = and_parts _ true one_line in
    lines_of-other b [] (not-true (b == 10) parts.0)
lines_of-last (b ∷ c ∷ line) one_line some =
    let parts = and_parts _ (is_one_line (c ∷ line)) one_line in
    lines_of-other b (c ∷ line) (not-true (b == 10) parts.0)
    ∙ ap (in_front b) (lines_of-last (c ∷ line) parts.1 (omega arith))

-- The bytes begin with a line that is as long as the part, or longer.
pub record StartsFirst (bytes part : List ℕ) : Type 0 where
  pub line : List ℕ
  pub behind : List (List ℕ)
  pub lines : lines_of bytes ≡ line ∷ behind
  pub longer : length part ≤ length line

-- A byte in front of lines is the first byte of a line.
in_front-shape : (b : ℕ) (parts : List (List ℕ))
    → (line : List ℕ) × (behind : List (List ℕ)) × (in_front b parts ≡ (b ∷ line) ∷ behind)
in_front-shape b [] = ([], [], refl)
in_front-shape b (part ∷ parts) = (part, parts, refl)

-- Bytes with no LF stand in the first line.
pub starts_first : (b : ℕ) (part rest : List ℕ)
    → is_one_line (b ∷ part) ≡ true → StartsFirst (b ∷ part ++ rest) (b ∷ part)
starts_first b [] rest one_line =
    let parts = and_parts _ true one_line in
    let shape = in_front-shape b (lines_of rest) in
    record {
      line = b ∷ shape.0;
      behind = shape.1;
      lines = lines_of-other b rest (not-true (b == 10) parts.0) ∙ shape.2;
      longer = omega arith;
    }
starts_first b (c ∷ part) rest one_line =
    let parts = and_parts _ (is_one_line (c ∷ part)) one_line in
    let more = starts_first c part rest parts.1 in
    record {
      line = b ∷ more.line;
      behind = more.behind;
      lines = lines_of-other b (c ∷ part ++ rest) (not-true (b == 10) parts.0)
          ∙ ap (in_front b) more.lines;
      longer = omega (arith, more.longer);
    }

-- What begins with a part of a line has a line of that length or more.
pub longer : (n b : ℕ) (part : List ℕ) (before after : Option (List ℕ))
    → is_one_line (b ∷ part) ≡ true → n ≤ length (b ∷ part) → Consumes before after (b ∷ part)
    → Longer n before
longer n b part None after one_line fits taken = tt
longer n b part (Some xs) None one_line fits taken = absurd taken
longer n b part (Some xs) (Some ys) one_line fits taken =
    let more = starts_first b part ys one_line in
    (more.line, more.behind, ap lines_of taken ∙ more.lines, omega (arith, more.longer))

-- What is taken with an LF is the first line.
pub begins_line : (before after : Option (List ℕ)) (line : List ℕ)
    → is_one_line line ≡ true → Consumes before after (line ++ 10 ∷ []) → Begins before after line
begins_line None after line one_line taken = tt
begins_line (Some xs) None line one_line taken = absurd taken
begins_line (Some xs) (Some ys) line one_line taken =
    ap lines_of (taken ∙ append_assoc line (10 ∷ []) ys) ∙ lines_of-line line ys one_line

-- What is taken up to the end is the last line.
pub begins_last : (before after : Option (List ℕ)) (line : List ℕ)
    → is_one_line line ≡ true → 0 < length line → Consumes before after line → IsAtEnd after
    → Begins before after line
begins_last None after line one_line some taken end = tt
begins_last (Some xs) None line one_line some taken end = absurd taken
begins_last (Some xs) (Some ys) line one_line some taken end =
    ap lines_of (taken ∙ ap (λ rest. line ++ rest) end ∙ append-nil line)
    ∙ lines_of-last line one_line some
    ∙ ap (λ rest. line ∷ lines_of rest) (sym end)

-- Where a byte comes, a line does.
pub some_line : (b : ℕ) (before after : Option (List ℕ))
    → Consumes before after (b ∷ []) → Longer 0 before
some_line b None after taken = tt
some_line b (Some xs) None taken = absurd taken
some_line b (Some xs) (Some ys) taken =
    elim (cases_Bool (b == 10)) [
      | inl lf ↦ ([], lines_of ys, ap lines_of taken ∙ rw lf refl, omega arith)
      | inr other ↦
          let shape = in_front-shape b (lines_of ys) in
          let lines = ap lines_of taken ∙ lines_of-other b ys other ∙ shape.2 in
          (b ∷ shape.0, shape.1, lines, omega arith)
    ]
