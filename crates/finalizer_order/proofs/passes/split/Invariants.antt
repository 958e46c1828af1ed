use Rattle.std.proofs.Common.{◌≡◌, ◌++◌, take, not}
use Rattle.std.specs.Prelude.{filter}
use Rattle.heap_space.specs.Places.{word_at}
use Rattle.finalizer_order.specs.Passes.{is_ordered}
use Rattle.finalizer_order.proofs.passes.split.Given as goal

abbrev pub invariant-loop-entry : goal.invariant-loop-entry
invariant-loop-entry l = record {
  staying : l.stays.items ≡ l.fn.stays.items ++ filter (λ entry. not (is_ordered l.nursery.words (word_at l.space.blocks) entry.place)) (take l.entry-index l.registered);
  taking : l.taken.items ≡ l.fn.taken.items ++ filter (λ entry. is_ordered l.nursery.words (word_at l.space.blocks) entry.place) (take l.entry-index l.registered);
}
