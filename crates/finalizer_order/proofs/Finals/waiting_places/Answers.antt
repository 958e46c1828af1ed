use Rattle.std.proofs.Common.{List, ℕ, ◌++◌, ap, ◌∙◌}
use Rattle.finalizer_order.specs.declared.entry.Entry.{Entry}
use Rattle.finalizer_order.specs.Finalizers.{places_of}
use Rattle.finalizer_order.specs.Queues.{joined}
use Rattle.finalizer_order.proofs.QueueLaws.{waiting_are}
use Rattle.finalizer_order.proofs.Finals.waiting_places.Goals as goal

pub returns-clause-ok : goal.returns-clause-ok
returns-clause-ok c =
    waiting_are c.self.inside.queues.items c.self.inside.registered.items c.self.inside.chosen.items c.args.self.now c.args.places.now.items c.append_queued.new.places.items c.append_places.new.places.items c.self.view_is
    (c.in_ok-append_queued.ensures.ok ∙ ap (λ (qs : List (List Entry)). c.args.places.now.items ++ places_of (joined qs)) c.deref.ensures.value)
    (c.append_places.ensures.items ∙ ap (λ (xs : List ℕ). xs ++ places_of c.deref-2.result.now) c.in_ok-reserve.ensures.items
    ∙ ap (λ (es : List Entry). c.append_queued.new.places.items ++ places_of es) c.deref-2.ensures.value)
