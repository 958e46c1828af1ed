use Rattle.std.proofs.Common.{sym, ◌∙◌}
use Rattle.heap_space.specs.Places.{word_at}
use Rattle.weak_lists.specs.Targets.{kept_target, target_at}
use Rattle.weak_lists.proofs.TargetLaws.{target-item, target-read, target-set, kept-gone}
use Rattle.weak_lists.proofs.targets.clear_target.Goals as goal

pub ref_at-target-requires-clause-item : goal.ref_at-target-requires-clause-item
ref_at-target-requires-clause-item c = target-item c.args.types.now (word_at c.args.space.now.blocks) c.args.a c.view-v.result c.view-v.ensures.value c.requires.weak

pub set_ref-requires-clause-item : goal.set_ref-requires-clause-item
set_ref-requires-clause-item c = target-item c.args.types.now (word_at c.args.space.now.blocks) c.args.a c.view-v.result c.view-v.ensures.value c.requires.weak

pub returns-clause-target : goal.returns-clause-target
returns-clause-target c =
    let w = word_at c.args.space.now.blocks in
    target-set c.args.types.now c.args.space.now c.set_ref.new.space c.args.a c.view-v.result 0
    (kept_target c.args.nursery.now.words w (target_at c.args.types.now w c.args.a)) c.requires.object c.view-v.ensures.value c.requires.weak c.set_ref.ensures
    (kept-gone c.args.nursery.now.words w (target_at c.args.types.now w c.args.a) c.ref_at-target.result
    (target-read c.args.types.now w c.args.a c.view-v.result c.ref_at-target.result c.view-v.ensures.value c.ref_at-target.ensures) (sym c.is_unvisited.ensures ∙ c.if-not-is_unvisited.false))
