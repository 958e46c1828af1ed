use Rattle.std.proofs.Common.{◌+◌, ◌-◌, length}
use Rattle.finalizer_order.proofs.Marks.{words_without}
use Rattle.finalizer_order.proofs.MeetSteps.{MarksSome}
use Rattle.finalizer_order.proofs.marking.mark_from.Given as goal

abbrev pub invariant-loop-next : goal.invariant-loop-next
invariant-loop-next l = MarksSome l.flag l.types l.nursery.words l.fn.space l.space l.place l.next l.fn.marked.items l.marked.items

abbrev pub decreases-loop-next : goal.decreases-loop-next
decreases-loop-next l = words_without l.flag l.space.blocks + (length l.marked.items - l.next)
