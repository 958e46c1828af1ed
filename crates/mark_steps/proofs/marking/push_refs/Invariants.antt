use Rattle.std.proofs.Common.{◌≡◌, ◌++◌, filter}
use Rattle.heap_space.specs.Places.{word_at}
use Rattle.object_model.specs.ObjectWords.{words_from}
use Rattle.mark_steps.specs.Visits.{is_outside}
use Rattle.mark_steps.proofs.marking.push_refs.Given as goal

abbrev pub invariant-loop-i : goal.invariant-loop-i
invariant-loop-i l = l.places.items ≡ l.initial.places.items ++ filter (is_outside l.nursery.words) (words_from (word_at l.space.blocks) l.v.ref_start l.i)
