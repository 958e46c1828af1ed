use Rattle.object_view.proofs.ViewLaws.{has-ref}
use Rattle.object_view.proofs.fields.ref_at.Goals as goal

pub read-requires : goal.read-requires
read-requires c = has-ref c.args.space.now c.args.v c.args.a c.args.i c.requires.whole c.requires.item
