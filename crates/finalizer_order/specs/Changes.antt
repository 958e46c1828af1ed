-- First words of objects change.
use Rattle.std.specs.Prelude.{ℕ, List, [], ◌∷◌}
use Rattle.heap_space.specs.Places.{Placed, word_at, with_word}
use Rattle.object_header.specs.Words.{with_flag}
use Rattle.object_header.specs.declared.flags.Flag.TheVariants.{Visited}

-- the blocks, where the words at these places were changed by the function, one after another
abbrev pub changed_at : (ℕ → ℕ) → List ℕ → List Placed → List Placed
changed_at change [] blocks = blocks
changed_at change (p ∷ ps) blocks = changed_at change ps (with_word blocks p (change (word_at blocks p)))

-- the blocks, where the objects at these places got the flag Visited
abbrev pub visited_at : List ℕ → List Placed → List Placed
visited_at places blocks = changed_at (λ word. with_flag word Visited) places blocks
