-- What a contract sees of a nursery.
use Rattle.std.specs.Prelude.{◌≡◌, ℕ, ◌+◌, ◌-◌, ◌*◌, ◌<◌, ◌≤◌, ◌==◌, true, if◌then◌else◌, List, [], ◌++◌, length}
use Rattle.nursery_gaps.specs.Ranges.{Range, is_free, free_words, AreRising, words_between}

pub record Layout : Type 0 where
  pub words : ℕ  -- the words of the nursery are 1 up to this one
  pub pins : ℕ  -- how many ranges may be pinned
  pub used : List Range  -- the used ranges, by rising place
  pub gap : ℕ  -- where the current gap begins, whose words below the cursor were handed out
  pub cursor : ℕ  -- the place from which on words are looked for

-- a nursery of which nothing is used
abbrev pub unused : ℕ → ℕ → Layout
unused words pins = record { words = words; pins = pins; used = []; gap = 1; cursor = 1 }

-- n words at a place are free, in the nursery, and not below the cursor
pub record Fits (old : Layout) (n place : ℕ) : Type 0 where
  pub reached : old.cursor ≤ place
  pub inside : place + n ≤ old.words + 1
  pub free : (word : ℕ) → place ≤ word → word < place + n → is_free old.used word ≡ true

-- n words fit at a place, and at none below it
pub record FitsLowest (old : Layout) (n place : ℕ) : Type 0 where
  pub fits : Fits old n place
  pub lowest : (other : ℕ) → Fits old n other → place ≤ other

-- where the gap begins from which the words at a place are handed out
abbrev pub gap_at : Layout → ℕ → ℕ
gap_at old place = if place == old.cursor then old.gap else place

-- n words at a place are handed out: what its gap handed out is one used range, which grows by them
pub record HandsOut (old : Layout) (n place : ℕ) (new : Layout) : Type 0 where
  pub below : List Range
  pub above : List Range
  pub was : old.used ≡ below ++ words_between (gap_at old place) place ++ above
  pub is : new ≡ record old {
    used = below ++ words_between (gap_at old place) (place + n) ++ above;
    gap = gap_at old place;
    cursor = place + n;
  }

-- the used ranges are some below the current gap, what this gap handed out, and some above
pub record IsLaidOut (layout : Layout) : Type 0 where
  pub below : List Range
  pub above : List Range
  pub used : layout.used ≡ below ++ words_between layout.gap layout.cursor ++ above
  pub lower : AreRising 1 layout.gap below
  pub passed : layout.gap ≤ layout.cursor
  pub upper : AreRising layout.cursor (layout.words + 1) above
  pub few : length layout.used ≤ 2 * layout.pins + 1

-- how many words are left to hand out
abbrev pub spare_words : Layout → ℕ
spare_words layout = free_words layout.used layout.cursor (layout.words + 1 - layout.cursor)
