use Rattle.std.proofs.Common.{◌≡◌, ◌++◌, map, take}
use Rattle.heap_parts.specs.Parts.{word_in}
use Rattle.heap_parts.specs.Places.{block_at}
use Rattle.minor_collect.proofs.ending.list_ranges.Given as goal

abbrev pub invariant-loop-p : goal.invariant-loop-p
invariant-loop-p l = l.ranges.items ≡ l.fn.ranges.items ++ map (block_at l.parts.setup.types (word_in l.parts)) (take l.p-index l.places)
