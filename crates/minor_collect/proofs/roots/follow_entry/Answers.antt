use Rattle.minor_collect.proofs.EntrySteps.{can_follow_entry, entry_leads, entry_may, entry_there, entry_followed_by}
use Rattle.minor_collect.proofs.roots.follow_entry.Goals as goal

pub follow-requires : goal.follow-requires
follow-requires c = can_follow_entry c.args.parts.now c.args.moving.now c.args.p c.requires

pub move_entry-requires : goal.move_entry-requires
move_entry-requires c =
    let r = c.requires in
    entry_there r.standing c.args.p r.there (c.in_ok-y.ensures r.stage r.spot r.standing (entry_leads r.standing c.args.p r.there) (entry_may r.standing c.args.p r.there))

pub returns : goal.returns
returns c = λ stage spot standing there.
    entry_followed_by standing c.args.p there (c.in_ok-y.ensures stage spot standing (entry_leads standing c.args.p there) (entry_may standing c.args.p there)) c.move_entry.ensures
