use Rattle.std.proofs.Common.{sym, subst, ◌∙◌, ◌≡◌, ◌+◌, ◌++◌, ◌∷◌, IsTrue, List, ℕ, get_or, take, []}
use Rattle.object_model.specs.Sets.{is_in}
use Rattle.finalizer_order.specs.declared.entry.Entry.{Entry}
use Rattle.finalizer_order.specs.Finalizers.{places_of}
use Rattle.finalizer_order.specs.Passes.{PassesFirst}
use Rattle.finalizer_order.proofs.Entries.{places-one, place-taken, place-listed}
use Rattle.finalizer_order.proofs.PassSteps.{first_begins, first-has, first-whole, first_skips, first_takes}
use Rattle.finalizer_order.proofs.passes.first_pass.Goals as goal
use Rattle.finalizer_order.proofs.passes.first_pass.Goals.{then-is_unmarked+in_ok-push+in_ok-mark_from, else-is_unmarked}

pub loop-entry-init : goal.loop-entry-init
loop-entry-init c = subst (λ (ms : List ℕ). PassesFirst c.args.types.now c.args.nursery.now.words c.args.space.now c.args.space.now [] ms c.args.candidates.now.items) (sym c.requires.none_marked)
    (subst (λ (cs : List ℕ). PassesFirst c.args.types.now c.args.nursery.now.words c.args.space.now c.args.space.now [] [] cs) (sym c.requires.no_candidates)
    (first_begins c.args.types.now c.args.nursery.now.words c.args.space.now (places_of c.args.registered.now) c.requires.can))

pub is_unmarked-requires : goal.is_unmarked-requires
is_unmarked-requires c = first-has c.requires.can c.loop-entry.invariant (place-taken c.args.registered.now c.loop-entry.entry-index) _ (place-listed c.args.registered.now c.loop-entry.entry-index _ c.loop-entry-test.true)

pub mark_from-requires-clause-whole : goal.mark_from-requires-clause-whole
mark_from-requires-clause-whole c = first-whole c.requires.can c.loop-entry.invariant (place-taken c.args.registered.now c.loop-entry.entry-index) _ (place-listed c.args.registered.now c.loop-entry.entry-index _ c.loop-entry-test.true)

pub loop-entry-preserved : goal.loop-entry-preserved
loop-entry-preserved c =
    let l = c.loop-entry-test.true in
    let xs : List Entry = c.args.registered.now in
    let i : ℕ = c.loop-entry.entry-index in
    let x : ℕ = (get_or xs i (record { place = 0; birth = 0; queue = 0 })).place in
    let more : places_of (take (i + 1) xs) ≡ places_of (take i xs) ++ x ∷ [] = places-one xs i (record { place = 0; birth = 0; queue = 0 }) l in
    let listed : IsTrue (is_in x (places_of xs)) = place-listed xs i (record { place = 0; birth = 0; queue = 0 }) l in
    elim c.if-is_unmarked.branch [
      | then-is_unmarked+in_ok-push+in_ok-mark_from w ↦ rw (w.space-is, w.marked-is, w.candidates-is, w.in_ok-push.ensures.items, more)
          (first_takes c.requires.can c.loop-entry.invariant (place-taken xs i) w.mark_from.new.space x w.mark_from.new.marked.items listed (sym c.is_unmarked.ensures ∙ w.if-is_unmarked.true) w.in_ok-mark_from.ensures)
      | else-is_unmarked w ↦ rw (w.space-is, w.marked-is, w.candidates-is, more)
          (first_skips c.requires.can c.loop-entry.invariant (place-taken xs i) x listed (sym c.is_unmarked.ensures ∙ w.if-is_unmarked.false))
    ]
