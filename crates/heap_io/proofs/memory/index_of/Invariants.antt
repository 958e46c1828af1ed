use Rattle.std.proofs.Common.{◌≡◌, drop}
use Rattle.heap_io.specs.Memory.{bytes_of}
use Rattle.heap_io.proofs.memory.index_of.Given as goal

-- the files passed so far do not have the name
abbrev pub invariant-loop-index : goal.invariant-loop-index
invariant-loop-index l = bytes_of (drop l.index l.files) l.name ≡ bytes_of l.files l.name
