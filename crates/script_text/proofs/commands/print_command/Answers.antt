use Rattle.script_text.proofs.CommandReading.{command_words-read}
use Rattle.script_text.proofs.commands.print_command.Goals as goal

pub returns-clause-reads : goal.returns-clause-reads
returns-clause-reads c = command_words-read c.args.command.now (record { below = c.requires; stored = c.print_object_command.ensures.stored })
