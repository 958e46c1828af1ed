use Rattle.script_text.proofs.ItemReading.{item_text-read}
use Rattle.script_text.proofs.items.print_item.Goals as goal

pub returns-in-Setting-clause-reads : goal.returns-in-Setting-clause-reads
returns-in-Setting-clause-reads c = item_text-read c.args.item.now c.requires

pub returns-in-TypeDef-clause-reads : goal.returns-in-TypeDef-clause-reads
returns-in-TypeDef-clause-reads c = item_text-read c.args.item.now c.requires
