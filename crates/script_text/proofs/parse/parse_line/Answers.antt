use Rattle.std.proofs.Common.{◌≡◌, Ok, sym, ◌∙◌, arith}
use Rattle.std.proofs.lemmas.Bool.{ne_eqb}
use Rattle.text_model.specs.declared.item.Item.TheVariants.{Blank}
use Rattle.text_model.specs.Grammar.{item_of}
use Rattle.script_text.proofs.Blank.{item_of-blank, item_of-comment, item_of-form}
use Rattle.script_text.proofs.ItemReading.{answers_its_item}
use Rattle.script_text.proofs.parse.parse_line.Goals as goal
use Rattle.script_text.proofs.parse.parse_line.Goals.{then-is_empty-via-then-is_empty, then-is_empty-via-else-is_empty+then-line-eq35}

pub returns-then-is_empty : goal.returns-then-is_empty
returns-then-is_empty c =
    let reading : Ok Blank ≡ item_of c.args.line.now = elim c.then-is_empty.branch [
      | then-is_empty-via-then-is_empty w ↦ sym (item_of-blank c.args.line.now (grind arith))
      | then-is_empty-via-else-is_empty+then-line-eq35 w ↦ sym (item_of-comment c.args.line.now (grind arith) w.if-line-eq35.true)
    ] in
    record { reading = reading; grammar = answers_its_item c.args.line.now _ reading }

pub returns : goal.returns
returns c =
    let reading = c.parse_form.ensures ∙ sym (item_of-form c.args.line.now (grind arith) (ne_eqb _ 35 c.if-line-eq35.false)) in
    record { reading = reading; grammar = answers_its_item c.args.line.now _ reading }
