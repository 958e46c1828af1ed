use Rattle.script_binary.proofs.UnitLaws.{script_again}
use Rattle.script_binary.proofs.units.says_its_items.Goals as goal

pub returns : goal.returns
returns c = script_again
