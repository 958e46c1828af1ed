-- Visits of objects, first in, first out, over words and places.
use Rattle.std.specs.Prelude.{◌≡◌, ℕ, ◌||◌, true, false, Bool, not, nat_lt, IsTrue, List, [], ◌∷◌, ◌++◌, filter}
use Rattle.type_table.specs.declared.info.TypeInfo.{TypeInfo}
use Rattle.type_table.specs.Table.{Table}
use Rattle.heap_space.specs.Places.{word_at, with_word}
use Rattle.heap_space.specs.Memory.{Memory}
use Rattle.object_header.specs.Words.{has_flag, with_flag}
use Rattle.object_header.specs.declared.flags.Flag.TheVariants.{Visited}
use Rattle.object_model.specs.Sets.{is_in}
use Rattle.object_model.specs.ObjectWords.{Covers, words_from, layout_at}
use Rattle.object_view.specs.Views.{HasObject}

-- whether a place lies behind a nursery of so many words: it is not nil, and the nursery does not hold it
abbrev pub is_outside : ℕ → ℕ → Bool
is_outside nursery place = nat_lt nursery place

-- the places outside the nursery that the object at a place refers to, in item order
abbrev pub outside_refs : Table TypeInfo → ℕ → (ℕ → ℕ) → ℕ → List ℕ
outside_refs types nursery word place =
    filter (is_outside nursery) (words_from word (layout_at types word place).ref_start (layout_at types word place).ref_count)

-- whether the object at a place carries the mark
abbrev pub is_visited : Memory → ℕ → Bool
is_visited memory place = has_flag (word_at memory.blocks place) Visited

-- the memory where the object at a place carries the mark too
abbrev pub with_visited : Memory → ℕ → Memory
with_visited memory place = record memory {
  blocks = with_word memory.blocks place (with_flag (word_at memory.blocks place) Visited);
}

-- Visits of these places lead from one memory and gray list to another. What the nursery holds and what carries the mark
-- are passed over. What a visited object refers to outside the nursery waits behind all that waits already.
pub data PlaceVisits (types : Table TypeInfo) (nursery : ℕ) : Memory → List ℕ → List ℕ → Memory → List ℕ → Type 0 where
  NoPlace : (m : Memory) (gray : List ℕ) → PlaceVisits types nursery m gray [] m gray
  PassesPlace : (m : Memory) (p : ℕ) (rest ps : List ℕ) (new : Memory) (left : List ℕ)
      → (not (is_outside nursery p) || is_visited m p) ≡ true
      → PlaceVisits types nursery m rest ps new left → PlaceVisits types nursery m (p ∷ rest) ps new left
  VisitsPlace : (m : Memory) (p : ℕ) (rest ps : List ℕ) (new : Memory) (left : List ℕ)
      → (not (is_outside nursery p) || is_visited m p) ≡ false
      → PlaceVisits types nursery (with_visited m p) (rest ++ outside_refs types nursery (word_at m.blocks) p) ps new left
      → PlaceVisits types nursery m (p ∷ rest) (p ∷ ps) new left

-- At these places stand whole objects that share no word. What they refer to outside the nursery is among them, and so is
-- what is gray outside it.
pub record CanVisit (types : Table TypeInfo) (nursery : ℕ) (memory : Memory) (gray places : List ℕ) : Type 0 where
  pub whole : (p : ℕ) → IsTrue (is_in p places) → HasObject memory types p
  pub apart : (p q at : ℕ) → IsTrue (is_in p places) → IsTrue (is_in q places)
      → Covers types (word_at memory.blocks) p at → Covers types (word_at memory.blocks) q at → p ≡ q
  pub closed : (p q : ℕ) → IsTrue (is_in p places) → IsTrue (is_in q (outside_refs types nursery (word_at memory.blocks) p))
      → IsTrue (is_in q places)
  pub listed : (p : ℕ) → IsTrue (is_in p gray) → IsTrue (is_outside nursery p) → IsTrue (is_in p places)
