use Rattle.std.proofs.Common.{◌+◌, ◌<◌, ◌^◌, ℕ, List, length, sym, ◌∙◌, subst}
use Rattle.object_model.specs.Sets.{is_in}
use Rattle.store_model.specs.Links.{link_ends}
use Rattle.minor_collect.specs.declared.work.Moving.{Moving}
use Rattle.minor_collect.specs.Drops.{Drops}
use Rattle.minor_collect.specs.Minor.{Closes}
use Rattle.minor_collect.proofs.MinorCollects.{minor_collects}
use Rattle.minor_collect.proofs.MinorSteps.{can_begin, can_give, can_pass_weaks, can_remake_last, lines_joined, room_for_moved}
use Rattle.minor_collect.proofs.SurvivorCounts.{counts_told}
use Rattle.minor_collect.proofs.collection.minor.Goals as goal

pub separate-requires-clause-begin : goal.separate-requires-clause-begin
separate-requires-clause-begin c = can_begin c.requires.can c.clear.ensures.todo c.clear.ensures.objects c.clear.ensures.words

pub drop_vanished-requires-clause-weaks : goal.drop_vanished-requires-clause-weaks
drop_vanished-requires-clause-weaks c = can_pass_weaks c.requires.can c.in_ok-separate.ensures.separates

pub drop_vanished-requires-clause-gives : goal.drop_vanished-requires-clause-gives
drop_vanished-requires-clause-gives c = can_give _ c.requires.can c.in_ok-separate.ensures.separates

pub close_nursery-requires-clause-can : goal.close_nursery-requires-clause-can
close_nursery-requires-clause-can c = can_remake_last c.requires.can c.in_ok-separate.ensures.separates c.in_ok-vanished.ensures.drops

pub close_nursery-requires-clause-room : goal.close_nursery-requires-clause-room
close_nursery-requires-clause-room c =
    subst (λ (moving : Moving). c.drop_vanished.new.parts.old_words + moving.words < 2 ^ 64) (sym c.in_ok-vanished.ensures.moving)
    (room_for_moved c.requires.can c.in_ok-separate.ensures.separates (can_give _ c.requires.can c.in_ok-separate.ensures.separates) c.in_ok-vanished.ensures.drops)

pub returns-clause-collects : goal.returns-clause-collects
returns-clause-collects c =
    let none = c.in_ok-separate.ensures.cleared ∙ c.clear.ensures.cleared in
    let drops = subst (λ (told : List ℕ). Drops c.separate.new.parts c.drop_vanished.new.parts c.separate.new.lists.dead.items told c.drop_vanished.new.lists.cleared.items) none c.in_ok-vanished.ensures.drops in
    let closes = subst (λ (moving : Moving). Closes c.drop_vanished.new.parts c.close_nursery.new.parts moving.words) c.in_ok-vanished.ensures.moving c.in_ok-close_nursery.ensures in
    minor_collects c.requires.can c.in_ok-separate.ensures.separates drops closes
    (lines_joined c.args.events.now.items c.separate.new.lists.moving.objects (length c.separate.new.lists.dead.items) c.drop_vanished.new.lists.cleared.items c.separate.new.lists.destroyed.items
    (link_ends (λ (object : ℕ). is_in object c.separate.new.lists.dead.items) c.separate.new.parts.links.structs)
    c.in_ok-vanished.ensures.lines c.in_ok-vanished.ensures.ends (c.in_ok-separate.ensures.ends ∙ c.clear.ensures.ends))

pub returns-clause-counts : goal.returns-clause-counts
returns-clause-counts c = λ store stands. counts_told c.in_ok-separate.ensures.separates c.in_ok-vanished.ensures.moving c.in_ok-vanished.ensures.vanished store stands
