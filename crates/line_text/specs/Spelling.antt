-- Which text spells which line.
use Rattle.std.specs.Prelude.{◌≡◌, ℕ, ◌^◌, ◌<◌, List, Option, Some, None}
use Rattle.text_model.specs.declared.line.Line.{Line}
use Rattle.text_model.specs.declared.line.Line.TheVariants.{Born, Got, Loaded, SameAs, IdentIs, HashIs, PlaceIs, PinIs, Derefed, NextIs, CountIs, FromObjIs, ToObjIs, NextDeadIs, Dealloc, UsedIs, MinorDone, Cleared, Destroyed, LinkCut, Stepped, Visited, Kept, Freed, Queued, ThresholdIs}
use Rattle.text_model.specs.Text.{words_text, IsProper}

-- the number, if there is one, has at most 64 bits
abbrev pub IsSmall : Option ℕ → Type 0
IsSmall None = Unit {0}
IsSmall (Some n) = n < 2 ^ 64

-- Each number of the line has at most 64 bits. What is proper has smaller numbers of structures already.
unfoldable pub IsInRange : Line → Type 0
IsInRange (Born birth old) = birth < 2 ^ 64
IsInRange (Got value) = value < 2 ^ 64
IsInRange (Loaded birth) = IsSmall birth
IsInRange (SameAs is) = Unit {0}
IsInRange (IdentIs place) = place < 2 ^ 64
IsInRange (HashIs value) = value < 2 ^ 64
IsInRange (PlaceIs place) = IsSmall place
IsInRange (PinIs is) = Unit {0}
IsInRange (Derefed birth) = IsSmall birth
IsInRange (NextIs birth) = IsSmall birth
IsInRange (CountIs value) = value < 2 ^ 64
IsInRange (FromObjIs number) = Unit {0}
IsInRange (ToObjIs birth) = IsSmall birth
IsInRange (NextDeadIs number) = Unit {0}
IsInRange (Dealloc number) = Unit {0}
IsInRange (UsedIs kept husks) = (kept < 2 ^ 64) × (husks < 2 ^ 64)
IsInRange (MinorDone settled vanished) = (settled < 2 ^ 64) × (vanished < 2 ^ 64)
IsInRange (Cleared birth) = birth < 2 ^ 64
IsInRange (Destroyed birth) = birth < 2 ^ 64
IsInRange (LinkCut end) = Unit {0}
IsInRange (Stepped from to) = Unit {0}
IsInRange (Visited birth) = birth < 2 ^ 64
IsInRange (Kept birth) = birth < 2 ^ 64
IsInRange (Freed birth) = birth < 2 ^ 64
IsInRange (Queued birth queue) = (birth < 2 ^ 64) × (queue < 2 ^ 64)
IsInRange (ThresholdIs words) = words < 2 ^ 64

-- a line that can stand in a transcript, with numbers of at most 64 bits
pub record IsLine (line : Line) : Type 0 where
  pub proper : IsProper line
  pub in_range : IsInRange line

-- the text, which has no LF at its end, is that of the line
pub record Spells (text : List ℕ) (line : Line) : Type 0 where
  pub is_text : text ≡ words_text line
  pub is_line : IsLine line
