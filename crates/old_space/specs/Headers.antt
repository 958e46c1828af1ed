-- Live blocks whose first words are headers, and the list of them.
use Rattle.std.specs.Prelude.{ℕ, List}
use Rattle.heap_space.specs.Memory.{Memory}
use Rattle.heap_space.specs.Extents.{Extent, Each}
use Rattle.size_pages.specs.Headers.{IsHeaded}
use Rattle.old_space.specs.HasBlocks.{HasBlocks}
use Rattle.old_space.specs.declared.Old.{Old}

-- these are the live blocks and the waiting units, and word 0 of each block is a header without the flag Free
pub record HasHeaders (old : Old) (m : Memory) (live : List Extent) (waiting : List ℕ) : Type 0 where
  pub blocks : HasBlocks old m live waiting
  pub headed : Each (IsHeaded m) live

-- so it stands for some live blocks and waiting units
pub record StandsWithHeaders (old : Old) (m : Memory) : Type 0 where
  pub live : List Extent
  pub waiting : List ℕ
  pub has : HasHeaders old m live waiting
