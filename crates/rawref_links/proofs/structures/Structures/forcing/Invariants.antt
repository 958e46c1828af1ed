use Rattle.std.proofs.Common.{◌≡◌, ℕ, ◌||◌, ◌&&◌}
use Rattle.std.specs.Map.{keys_of}
use Rattle.type_table.specs.Table.{value_at}
use Rattle.object_model.specs.Sets.{is_in}
use Rattle.rawref_links.specs.Structures.{is_forcing}
use Rattle.rawref_links.proofs.structures.Structures.forcing.Given as goal

abbrev pub invariant-loop-number : goal.invariant-loop-number
invariant-loop-number l =
    (n : ℕ) → (is_in n l.numbers.items || (is_forcing (value_at l.self n) && is_in n (keys_of l.number-iterator))) ≡ is_forcing (value_at l.self n)
