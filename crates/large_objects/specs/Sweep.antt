-- What sweeping one large block does.
use Rattle.std.specs.Prelude.{ℕ, ◌+◌, if◌then◌else◌, List, [], ◌∷◌}
use Rattle.heap_space.specs.Memory.{Memory, without_large}
use Rattle.heap_space.specs.Places.{word_at, with_word}
use Rattle.heap_space.specs.Extents.{Extent}
use Rattle.object_header.specs.Words.{survives_sweep, without_flag}
use Rattle.object_header.specs.declared.flags.Flag.TheVariants.{Visited}
use Rattle.large_objects.specs.Blocks.{begin_elsewhere}

-- the memory with the object at a not visited
abbrev pub unvisited : Memory → ℕ → Memory
unvisited m a = record m { blocks = with_word m.blocks a (without_flag (word_at m.blocks a) Visited) }

-- the memory after the block at a was swept
abbrev pub swept : Memory → ℕ → Memory
swept m a = if survives_sweep (word_at m.blocks a) then unvisited m a else without_large m a

-- the live blocks then
abbrev pub left_over : Memory → ℕ → List Extent → List Extent
left_over m a live = if survives_sweep (word_at m.blocks a) then live else begin_elsewhere a live

-- the births freed by it
abbrev pub freed_births : Memory → ℕ → List ℕ
freed_births m a = if survives_sweep (word_at m.blocks a) then [] else word_at m.blocks (a + 1) ∷ []
