use Rattle.std.proofs.Common.{◌≡◌, ◌+◌, ◌++◌, ◌∷◌, [], List, length, set, sym, ap, ap₂, ◌∙◌, subst, arith}
use Rattle.std.proofs.lemmas.List.{append-nil}
use Rattle.finalizer_order.specs.declared.entry.Entry.{Entry}
use Rattle.finalizer_order.specs.Queues.{AreInRange, joined}
use Rattle.finalizer_order.specs.Listed.{times_of}
use Rattle.finalizer_order.proofs.QueueLaws.{length-queues, same-queue}
use Rattle.finalizer_order.proofs.QueueSteps.{QueuesSome, many_queues, left_in, times_left, next_in, queues_pushed}
use Rattle.finalizer_order.proofs.queue.queue_all.Goals as goal

pub index_mut-queue-requires : goal.index_mut-queue-requires
index_mut-queue-requires c =
    let l = next_in c.requires c.loop-entry.invariant c.pop.new.self.items c.in-Some.entry c.in-Some.ensures.items in omega (arith, l, c.loop-entry.queues.ok)

pub returns-in-Err-clause-many : goal.returns-in-Err-clause-many
returns-in-Err-clause-many c = length-queues c.loop-entry.queues.items c.in-Some.entry.queue c.push.new.self ∙ many_queues c.requires c.loop-entry.invariant

pub returns-in-Err-clause-in_range : goal.returns-in-Err-clause-in_range
returns-in-Err-clause-in_range c = subst (AreInRange (length c.args.queues.now.items)) (sym (c.push_reserved.ensures.items ∙ sym c.in-Some.ensures.items)) (left_in c.requires c.loop-entry.invariant)

pub returns-in-Err-clause-listed : goal.returns-in-Err-clause-listed
returns-in-Err-clause-listed c = λ birth.
    let l = next_in c.requires c.loop-entry.invariant c.pop.new.self.items c.in-Some.entry c.in-Some.ensures.items in
    let same : set c.loop-entry.queues.items c.in-Some.entry.queue c.push.new.self ≡ c.loop-entry.queues.items =
    ap (set c.loop-entry.queues.items c.in-Some.entry.queue) c.in-Err.ensures.err ∙ same-queue c.loop-entry.queues.items c.in-Some.entry.queue c.index_mut-queue.result.now l c.index_mut-queue.ensures.value in
    ap₂ (λ (es : List Entry) (qs : List (List Entry)). times_of birth es + times_of birth (joined qs)) (c.push_reserved.ensures.items ∙ sym c.in-Some.ensures.items) same
    ∙ times_left c.requires c.loop-entry.invariant birth

-- the object waits in its queue
after : (c : goal.After-from_residual) → QueuesSome c.args.queues.now.items c.args.chosen.now.items c.args.queued.now.items (set c.loop-entry.queues.items c.in-Some.entry.queue c.push.new.self) c.pop.new.self.items
    (c.loop-entry.queued.items ++ (c.in-Some.entry.place, c.in-Some.entry.queue) ∷ [])
after c = queues_pushed c.requires c.loop-entry.invariant c.pop.new.self.items c.in-Some.entry c.in-Some.ensures.items c.index_mut-queue.result.now c.push.new.self c.index_mut-queue.ensures.value c.in_default-push.ensures.ok

pub loop-entry-preserved : goal.loop-entry-preserved
loop-entry-preserved c = rw c.in_ok-push.ensures.items
    (queues_pushed c.requires c.loop-entry.invariant c.pop.new.self.items c.in-Some.entry c.in-Some.ensures.items c.index_mut-queue.result.now c.push.new.self c.index_mut-queue.ensures.value c.in_default-push.ensures.ok)

pub returns-in_err-push-clause-many : goal.returns-in_err-push-clause-many
returns-in_err-push-clause-many c = many_queues c.requires (after c)

pub returns-in_err-push-clause-in_range : goal.returns-in_err-push-clause-in_range
returns-in_err-push-clause-in_range c = left_in c.requires (after c)

pub returns-in_err-push-clause-listed : goal.returns-in_err-push-clause-listed
returns-in_err-push-clause-listed c = λ birth. times_left c.requires (after c) birth

pub returns-clause-many : goal.returns-clause-many
returns-clause-many c = many_queues c.requires c.loop-entry.invariant

pub returns-clause-listed : goal.returns-clause-listed
returns-clause-listed c = λ birth.
    let e : c.pop.new.self.items ≡ c.loop-entry.chosen.items = sym (c.in_default.ensures.items ∙ append-nil c.pop.new.self.items) in
    ap (λ (es : List Entry). times_of birth es + times_of birth (joined c.loop-entry.queues.items)) e ∙ times_left c.requires c.loop-entry.invariant birth
