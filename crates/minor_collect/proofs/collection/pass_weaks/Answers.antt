use Rattle.std.proofs.Common.{OnOk, sym, ◌∙◌, subst}
use Rattle.weak_lists.specs.Conditions.{CanFollow}
use Rattle.heap_parts.specs.Parts.{HeapParts}
use Rattle.heap_parts.specs.contracts.parts.Parts.{the_view}
use Rattle.minor_collect.specs.WeakPass.{PassesWeaks}
use Rattle.minor_collect.proofs.OnOkLaws.{all_ok}
use Rattle.minor_collect.proofs.FollowWeaks.{can_follow_weaks, weaks_passed}
use Rattle.minor_collect.proofs.collection.pass_weaks.Goals as goal

pub after_minor-requires : goal.after_minor-requires
after_minor-requires c =
    let r = c.requires in (
      r.spot.placing.places,
      subst (λ (h : HeapParts). CanFollow h.setup.types h.nursery.words h.memory h.weaks r.spot.placing.places) (sym (c.parts.view_is ∙ r.only)) (can_follow_weaks r.middle r.weaks),
    )

pub returns : goal.returns
returns c =
    let before : HeapParts = the_view c.parts.inside in
    subst (λ (h : HeapParts). OnOk c.after_minor.result (PassesWeaks h (record before { memory = c.after_minor.new.space; weaks = c.after_minor.new.self }) c.args.cleared.now.items c.after_minor.new.cleared.items)) c.parts.view_is
    (all_ok c.after_minor.result (weaks_passed before c.after_minor.new.space c.after_minor.new.self c.args.cleared.now.items c.after_minor.new.cleared.items)
    c.after_minor.ensures.left c.after_minor.ensures.targets c.after_minor.ensures.told)
