use Rattle.std.proofs.Common.{◌≡◌, ◌<◌, ◌+◌, ℕ, List, [], Some, length, set, get_or, drop, nat_eq, sym, ap, ◌∙◌, subst, arith}
use Rattle.std.specs.Prelude.{slice_get, option_map}
use Rattle.std.proofs.lemmas.List.{get_or_default}
use Rattle.indexmap.specs.IndexSet.{contains}
use Rattle.finalizer_order.specs.declared.entry.Entry.{Entry}
use Rattle.finalizer_order.specs.Queues.{joined}
use Rattle.finalizer_order.specs.Listed.{times_of, AreListed}
use Rattle.finalizer_order.proofs.Listing.{one_of, listed_less, times-popped}
use Rattle.finalizer_order.proofs.QueueLaws.{length-queues, get-there, next_view, next_first, none_first, none_taken, unset}
use Rattle.finalizer_order.proofs.Finals.next.Goals as goal

pub returns-then-queue-len-clause-first : goal.returns-then-queue-len-clause-first
returns-then-queue-len-clause-first c =
    sym (none_first c.self.inside.queues.items c.args.queue c.self.inside.registered.items c.self.inside.chosen.items c.args.self.now c.self.view_is
    (omega (arith, c.if-queue-len.true, c.len.ensures, c.self.inside.queues.ok)))

pub returns-then-queue-len-clause-taken : goal.returns-then-queue-len-clause-taken
returns-then-queue-len-clause-taken c =
    none_taken c.self.inside.queues.items c.args.queue c.self.inside.registered.items c.self.inside.chosen.items c.args.self.now c.self.view_is
    (omega (arith, c.if-queue-len.true, c.len.ensures, c.self.inside.queues.ok))

-- the queue that is there
in-queues : (c : goal.After-from_residual) → c.args.queue < length c.self.inside.queues.items
in-queues c = omega (arith, c.if-queue-len.false, c.len.ensures, c.self.inside.queues.ok)

queue-is : (c : goal.After-from_residual) → slice_get c.self.inside.queues.items c.args.queue ≡ Some c.index_mut-waiting.result.now
queue-is c =
    get-there c.self.inside.queues.items c.args.queue c.index_mut-waiting.result.now (in-queues c)
    ∙ ap (λ (l : List Entry). Some l) (sym c.index_mut-waiting.ensures.value)

in-queues-some : (c : goal.After-swap_remove) → c.args.queue < length c.self.inside.queues.items
in-queues-some c = omega (arith, c.if-queue-len.false, c.len.ensures, c.self.inside.queues.ok)

queue-some : (c : goal.After-swap_remove) → slice_get c.self.inside.queues.items c.args.queue ≡ Some c.index_mut-waiting.result.now
queue-some c =
    get-there c.self.inside.queues.items c.args.queue c.index_mut-waiting.result.now (in-queues-some c)
    ∙ ap (λ (l : List Entry). Some l) (sym c.index_mut-waiting.ensures.value)

pub invariant_of-self : goal.invariant_of-self
invariant_of-self c =
    let same : set c.self.inside.queues.items c.args.queue c.pop.new.self ≡ c.self.inside.queues.items =
    ap (set c.self.inside.queues.items c.args.queue) c.in_err-entry.ensures.rest ∙ unset c.self.inside.queues.items c.args.queue c.index_mut-waiting.result.now (queue-is c) (sym c.in_err-entry.ensures.first) in
    subst (λ (qs : List (List Entry)). AreListed (contains nat_eq c.self.inside.births) c.self.inside.registered.items c.self.inside.chosen.items qs) (sym same) c.self.invariant

pub returns-in_err-entry-clause-first : goal.returns-in_err-entry-clause-first
returns-in_err-entry-clause-first c =
    c.from_residual.ensures ∙ ap (option_map (λ (e : Entry). e.place)) c.in_err-entry.ensures.first
    ∙ next_first c.self.inside.queues.items c.args.queue c.index_mut-waiting.result.now c.self.inside.registered.items c.self.inside.chosen.items c.args.self.now c.self.view_is (queue-is c)

pub returns-in_err-entry-clause-taken : goal.returns-in_err-entry-clause-taken
returns-in_err-entry-clause-taken c =
    next_view c.self.inside.queues.items c.args.queue c.index_mut-waiting.result.now c.pop.new.self c.self.inside.registered.items c.self.inside.chosen.items c.args.self.now c.self.view_is (queue-is c) c.in_err-entry.ensures.rest

pub invariant_of-self-2 : goal.invariant_of-self-2
invariant_of-self-2 c =
    let qs : List (List Entry) = c.self.inside.queues.items in
    let k : ℕ = c.args.queue in
    let l : List Entry = c.index_mut-waiting.result.now in
    let is : l ≡ get_or qs k [] = c.index_mut-waiting.ensures.value ∙ get_or_default qs k l [] (in-queues-some c) in
    let x_is : c.pop.new.self ≡ drop 1 (get_or qs k []) = c.in_ok-entry.ensures.rest ∙ ap (drop 1) is in
    let first : slice_get (get_or qs k []) 0 ≡ Some c.in_ok-entry.entry = ap (λ (q : List Entry). slice_get q 0) (sym is) ∙ sym c.in_ok-entry.ensures.first in
    listed_less c.in_ok-entry.entry c.self.invariant
    (λ q. ap (λ (x : List Entry). times_of q (joined (set qs k x)) + one_of q c.in_ok-entry.entry) x_is ∙ times-popped q qs k c.in_ok-entry.entry (in-queues-some c) first)
    c.swap_remove.ensures.updates.0
    (length-queues qs k c.pop.new.self)

pub returns-clause-first : goal.returns-clause-first
returns-clause-first c =
    ap (option_map (λ (e : Entry). e.place)) c.in_ok-entry.ensures.first
    ∙ next_first c.self.inside.queues.items c.args.queue c.index_mut-waiting.result.now c.self.inside.registered.items c.self.inside.chosen.items c.args.self.now c.self.view_is (queue-some c)

pub returns-clause-taken : goal.returns-clause-taken
returns-clause-taken c =
    next_view c.self.inside.queues.items c.args.queue c.index_mut-waiting.result.now c.pop.new.self c.self.inside.registered.items c.self.inside.chosen.items c.args.self.now c.self.view_is (queue-some c) c.in_ok-entry.ensures.rest
