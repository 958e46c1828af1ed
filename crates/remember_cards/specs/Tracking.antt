-- The flags of a settled object that tell what is remembered of it.
use Rattle.std.specs.Prelude.{◌≡◌, ℕ, zero, suc, Bool, not, if◌then◌else◌}
use Rattle.heap_space.specs.Places.{with_word}
use Rattle.heap_space.specs.Memory.{Memory}
use Rattle.object_header.specs.Words.{has_flag, with_flag, without_flag}
use Rattle.object_header.specs.declared.flags.Flag.{Flag}
use Rattle.object_header.specs.declared.flags.Flag.TheVariants.{Track, HasCards, CardsSet}
use Rattle.remember_cards.specs.Remembered.{Remembered, is_held_whole, has_held_cards}

-- Track is clear exactly on what is remembered whole, and CardsSet is set exactly on what has cards that are remembered
pub record IsTracked (remembered : Remembered) (place word : ℕ) : Type 0 where
  pub track : has_flag word Track ≡ not (is_held_whole remembered place)
  pub cards_set : has_flag word CardsSet ≡ has_held_cards remembered place

-- the word with a flag set or not set
abbrev pub flag_is : ℕ → Flag → Bool → ℕ
flag_is word flag is_set = if is_set then with_flag word flag else without_flag word flag

-- the memory with this word at the first place of an object
abbrev pub with_head : Memory → ℕ → ℕ → Memory
with_head memory place word = record memory { blocks = with_word memory.blocks place word }

-- the first word of an object that is remembered whole from now on
abbrev pub whole_head : ℕ → ℕ
whole_head word = without_flag word Track

-- The first word of an object of which n items are remembered from now on. Where it has a card table they are so by their
-- cards, unless it is remembered whole.
abbrev pub items_head : ℕ → ℕ → ℕ
items_head word zero = word
items_head word (suc n) =
    if has_flag word HasCards then (if has_flag word Track then with_flag word CardsSet else word) else whole_head word

-- the first word of an object of which a span was handed out: Track is set unless it is kept, and CardsSet where cards are left
abbrev pub drained_head : Bool → Bool → ℕ → ℕ
drained_head is_kept has_cards word = flag_is (flag_is word Track (not is_kept)) CardsSet has_cards
