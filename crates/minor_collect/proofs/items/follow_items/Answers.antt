use Rattle.minor_collect.proofs.ItemsLaws.{items_object}
use Rattle.minor_collect.proofs.items.follow_items.Goals as goal

pub view_of-v-requires : goal.view_of-v-requires
view_of-v-requires c = items_object c.args.parts.now c.args.moving.now c.args.p c.args.from c.args.to c.requires
