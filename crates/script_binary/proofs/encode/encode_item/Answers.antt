use Rattle.std.proofs.Common.{ℕ, [], ◌∷◌, subst}
use Rattle.text_model.specs.Binary.{fields}
use Rattle.script_binary.specs.Fields.{AreWords}
use Rattle.script_binary.proofs.Again.{record_again}
use Rattle.script_binary.proofs.encode.encode_item.Goals as goal

pub returns-in-Setting-clause-reads : goal.returns-in-Setting-clause-reads
returns-in-Setting-clause-reads c =
    let P : ℕ → Type 0 = λ name. AreWords (fields 1 (name ∷ c.in-Setting.value ∷ [])) in
    record_again c.args.item.now c.requires (rw c.in-Setting.is (subst P c.from.ensures c.push_record.ensures.sized))

pub returns-in-TypeDef-clause-reads : goal.returns-in-TypeDef-clause-reads
returns-in-TypeDef-clause-reads c = record_again c.args.item.now c.requires (rw c.in-TypeDef.is c.push_type.ensures.sized)

pub returns-in-Command-clause-reads : goal.returns-in-Command-clause-reads
returns-in-Command-clause-reads c = record_again c.args.item.now c.requires (rw c.in-Command.is c.push_object_command.ensures.sized)
