use Rattle.std.proofs.Common.{ℕ, get_or, ◌∷◌, [], ◌++◌, ap, ◌∙◌}
use Rattle.text_model.specs.declared.line.Line.TheVariants.{Queued}
use Rattle.heap_phases.specs.Ending.{queued_line}
use Rattle.heap_phases.proofs.PushLaws.{read_each}
use Rattle.heap_phases.proofs.finalizing.tell_queued.Goals as goal

pub loop-entry-preserved : goal.loop-entry-preserved
loop-entry-preserved c =
    read_each (queued_line c.args.space.now) c.args.queued.now c.loop-entry.entry-index (0, 0) c.args.events.now.items c.loop-entry.events.items c.push.new.self.items c.loop-entry-test.true c.loop-entry.invariant
    (c.in_ok-push.ensures.items ∙ ap (λ (b : ℕ). c.loop-entry.events.items ++ Queued b (get_or c.args.queued.now c.loop-entry.entry-index (0, 0)).1 ∷ []) c.birth_at-birth.ensures)
