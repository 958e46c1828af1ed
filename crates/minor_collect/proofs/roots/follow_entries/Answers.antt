use Rattle.std.proofs.Common.{rules, ◌≡◌, ◌<◌, ℕ, List, IsTrue, length, sym, ap, ◌∙◌, subst}
use Rattle.std.specs.Prelude.{slice_index_or}
use Rattle.object_model.specs.Sets.{is_in}
use Rattle.minor_collect.specs.Calls.{Stage, Spot, Standing}
use Rattle.minor_collect.specs.Registered.{CanFollowEntry, FollowedEntry, registered_places}
use Rattle.minor_collect.proofs.EntrySteps.{entries_begin, entry_can, entries_next, entries_end, places-many}
use Rattle.minor_collect.proofs.roots.follow_entries.Goals as goal

pub loop-p-init : goal.loop-p-init
loop-p-init c = entries_begin c.args.parts.now c.args.moving.now

pub follow_entry-requires : goal.follow_entry-requires
follow_entry-requires c = subst (λ (places : List ℕ). CanFollowEntry c.loop-p.parts c.loop-p.moving (slice_index_or places c.loop-p.p-index 0)) (sym c.requires.places)
    (entry_can c.requires.follow c.loop-p.invariant (subst (λ (n : ℕ). c.loop-p.p-index < n) (ap length c.requires.places ∙ places-many c.args.parts.now) c.loop-p-test.true))

pub loop-p-preserved : goal.loop-p-preserved
loop-p-preserved c = entries_next c.loop-p.invariant (subst (λ (n : ℕ). c.loop-p.p-index < n) (ap length c.requires.places ∙ places-many c.args.parts.now) c.loop-p-test.true)
    (subst (λ (places : List ℕ). (stage : Stage) (spot : Spot) → Standing stage c.loop-p.parts c.loop-p.moving spot → IsTrue (is_in (slice_index_or places c.loop-p.p-index 0) (registered_places c.loop-p.parts))
    → FollowedEntry stage c.loop-p.parts c.follow_entry.new.parts c.loop-p.moving c.follow_entry.new.moving spot (slice_index_or places c.loop-p.p-index 0)) c.requires.places
    c.in_ok-follow_entry.ensures)

pub returns : goal.returns
returns c = λ stage spot standing.
    entries_end c.loop-p.invariant (let e : c.loop-p.p-index ≡ length c.args.places.now = search (rules, c.loop-p-test.false, c.loop-p.auto.p-index-end) in e ∙ (ap length c.requires.places ∙ places-many c.args.parts.now)) stage spot standing
