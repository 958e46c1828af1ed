use Rattle.object_view.proofs.CopyingLaws.{refs-lie}
use Rattle.object_view.proofs.copying.move_refs.Goals as goal

pub copy_words-requires-clause-source : goal.copy_words-requires-clause-source
copy_words-requires-clause-source c = refs-lie c.args.space.now c.args.from c.args.b c.args.j c.args.n c.requires.source c.requires.source_items

pub copy_words-requires-clause-target : goal.copy_words-requires-clause-target
copy_words-requires-clause-target c = refs-lie c.args.space.now c.args.to c.args.a c.args.i c.args.n c.requires.target c.requires.target_items
