use Rattle.object_view.proofs.ViewLaws.{has-ref}
use Rattle.object_view.proofs.fields.set_ref.Goals as goal

pub write-requires : goal.write-requires
write-requires c = has-ref c.args.space.now c.args.v c.args.a c.args.i c.requires.whole c.requires.item
