-- What a reader of lines has handed out, and what is still ahead of it.
use Rattle.std.specs.Prelude.{◌≡◌, ℕ, ◌+◌, ◌≤◌, Bool, true, ◌&&◌, not, ◌==◌, if◌then◌else◌, List, [], ◌∷◌, ◌++◌, length, Option, Some, None, ⊤, IsTrue}
use Rattle.std.specs.Io.KnownBytes.{prepend_known, Consumes, IsAtEnd}
use Rattle.text_model.specs.Lines.{lines_of}

-- The greatest number of lines of a script.
abbrev pub line_limit : ℕ
line_limit = 16000000

-- The greatest number of bytes of a line, without its LF.
abbrev pub length_limit : ℕ
length_limit = 200

pub record ReaderState : Type 0 where
  -- the bytes that were read and not handed out
  pub held : List ℕ
  -- how many lines were handed out
  pub count : ℕ
  -- whether the end of the input was met
  pub ended : Bool

-- The bytes that are not handed out yet, where the rest of the file is told.
abbrev pub ahead : ReaderState → Option (List ℕ) → Option (List ℕ)
ahead reader rest = prepend_known reader.held rest

-- After the end of the input nothing is ahead.
abbrev pub IsInStep : ReaderState → Option (List ℕ) → Type 0
IsInStep reader rest = reader.ended ≡ true → IsAtEnd (ahead reader rest)

-- No byte is LF.
abbrev pub is_one_line : List ℕ → Bool
is_one_line [] = true
is_one_line (b ∷ bytes) = not (b == 10) && is_one_line bytes

-- The known bytes begin with this line, behind which come the lines of the new ones.
abbrev pub Begins : Option (List ℕ) → Option (List ℕ) → List ℕ → Type 0
Begins None new line = ⊤
Begins (Some bytes) None line = ⊥
Begins (Some bytes) (Some rest) line = lines_of bytes ≡ line ∷ lines_of rest

-- The next line was handed out. Its LF is taken with it, unless the input has ended behind it.
pub record HandsOut (old new : ReaderState) (before after : Option (List ℕ)) (line : List ℕ)
    : Type 0 where
  pub one_line : IsTrue (is_one_line line)
  pub begins : Begins before after line
  pub taken : Consumes before after (if new.ended then line else line ++ 10 ∷ [])
  pub count : new.count ≡ old.count + 1
  pub number : new.count ≤ line_limit

-- Another line comes, which has this length or more.
abbrev pub Longer : ℕ → Option (List ℕ) → Type 0
Longer n None = ⊤
Longer n (Some bytes) =
    (line : List ℕ) × (behind : List (List ℕ)) × (lines_of bytes ≡ line ∷ behind) × (n ≤ length line)

-- The bytes that were taken have no LF. What stays is the rest of the file.
abbrev pub BreaksOff : Option (List ℕ) → Option (List ℕ) → Type 0
BreaksOff before rest = (part : List ℕ) × IsTrue (is_one_line part) × Consumes before rest part
