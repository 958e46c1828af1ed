use Rattle.std.specs.Prelude.{◌<◌, ◌≤◌, ◌-◌, length}
use Rattle.minor_collect.proofs.spans.end_of_object.Given as goal

abbrev pub invariant-loop-to : goal.invariant-loop-to
invariant-loop-to l = (l.from < l.to) × (l.to ≤ length l.spans)

abbrev pub decreases-loop-to : goal.decreases-loop-to
decreases-loop-to l = length l.spans - l.to
