use Rattle.std.proofs.Common.{◌≡◌, Ok, rules}
use Rattle.text_model.specs.declared.item.Item.TheVariants.{Command as CommandItem}
use Rattle.script_tests.proofs.lines.commands_both_ways.Goals as goal

pub print_command-requires : goal.print_command-requires
print_command-requires g c =
    let command = c.in-Ok-Command.command in
    let read : c.parse_line-read.result ≡ Ok (CommandItem command) = search (rules, c.in-Ok-Command.is, c.in-Ok-Command.field-0-is) in
    ((c.parse_line-read.ensures.grammar (CommandItem command)).0 read).0.below
