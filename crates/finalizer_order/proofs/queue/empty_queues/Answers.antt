use Rattle.std.proofs.Common.{◌++◌, ◌∷◌, [], List, sym, ap₂, ◌∙◌}
use Rattle.finalizer_order.specs.declared.entry.Entry.{Entry}
use Rattle.finalizer_order.proofs.QueueLaws.{replicate-last}
use Rattle.finalizer_order.proofs.queue.empty_queues.Goals as goal

pub loop-made-preserved : goal.loop-made-preserved
loop-made-preserved c = c.in_ok-push.ensures.items
    ∙ ap₂ (λ (qs : List (List Entry)) (q : List Entry). qs ++ q ∷ []) c.loop-made.invariant c.new.ensures ∙ sym (replicate-last [] c.loop-made._made)
