use Rattle.finalizer_order.proofs.MeetSteps.{MeetsSome}
use Rattle.finalizer_order.proofs.marking.meet_refs.Given as goal

abbrev pub invariant-loop-i : goal.invariant-loop-i
invariant-loop-i l = MeetsSome l.flag l.types l.nursery.words l.fn.space l.space l.place l.i l.fn.marked.items l.marked.items
