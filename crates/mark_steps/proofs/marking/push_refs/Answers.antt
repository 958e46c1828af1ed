use Rattle.std.proofs.Common.{ap, sym, ◌∙◌}
use Rattle.heap_space.specs.Places.{word_at}
use Rattle.mark_steps.specs.Visits.{is_outside}
use Rattle.mark_steps.proofs.Refs.{refs-queued, refs-passed}
use Rattle.mark_steps.proofs.marking.push_refs.Goals as goal
use Rattle.mark_steps.proofs.marking.push_refs.Goals.{then-leads_outside+in_ok-push_back, else-leads_outside}

pub loop-i-preserved : goal.loop-i-preserved
loop-i-preserved c = elim c.if-leads_outside.branch [
  | then-leads_outside+in_ok-push_back w ↦
      ap (λ q. q.items) w.places-is
      ∙ refs-queued (is_outside c.args.nursery.now.words) (word_at c.args.space.now.blocks) c.args.v.ref_start c.loop-i.i c.ref_at-to.result
      c.args.places.now.items c.loop-i.places.items w.push_back.new.self.items c.loop-i.invariant c.ref_at-to.ensures (sym w.if-leads_outside.ensures) (w.in_ok-push_back.ensures.items)
  | else-leads_outside w ↦
      ap (λ q. q.items) w.places-is
      ∙ refs-passed (is_outside c.args.nursery.now.words) (word_at c.args.space.now.blocks) c.args.v.ref_start c.loop-i.i c.ref_at-to.result
      c.args.places.now.items c.loop-i.places.items c.loop-i.invariant c.ref_at-to.ensures (sym w.if-leads_outside.ensures)
]
