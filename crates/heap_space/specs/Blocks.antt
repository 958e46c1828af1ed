-- What the fields of a `Block` keep.
use Rattle.std.specs.Prelude.{◌≡◌, length}
use Rattle.heap_space.specs.declared.block.Block.TheInside.{Inside}
use Rattle.heap_space.specs.Ownership.{Filled}

-- each word is filled, and the lease is the one of these words
pub record IsBlock (b : Inside) : Type 0 where
  pub counted : b.len ≡ length b.words.items
  pub len : b.len ≡ b.words.len
  pub filled : Filled b.words.filled 0 b.len
  pub alloc : b.lease.alloc ≡ b.alloc
  pub ptr : b.lease.ptr ≡ b.words.ptr
  pub lease_len : b.lease.len ≡ b.words.len
