-- The summary of a transcript: six lines, each a name and what it counts.
use Rattle.std.specs.Prelude.{ℕ, ◌+◌, Bool, true, false, List, ◌++◌, length, filter, codes, decimal}
use Rattle.text_model.specs.declared.item.Item.{Item}
use Rattle.text_model.specs.declared.item.Item.TheVariants.{Command as CommandItem}
use Rattle.text_model.specs.declared.line.Line.{Line}
use Rattle.text_model.specs.declared.line.Line.TheVariants.{Born, MinorDone, Stepped, UsedIs}
use Rattle.text_model.specs.declared.line.Phase.TheVariants.{Finalizing, Scanning}
use Rattle.text_model.specs.Text.{line_text}
use Rattle.object_model.specs.Object.{kept_words}
use Rattle.store_model.specs.Store.{Store, husk_words}
use Rattle.store_model.specs.Transcript.{Group, group_lines}
use Rattle.replay_bench.specs.declared.tally.Tally.{Tally}

abbrev pub is_birth : Line → Bool
is_birth (Born birth old) = true
is_birth line = false

abbrev pub is_minor : Line → Bool
is_minor (MinorDone settled vanished) = true
is_minor line = false

-- a cycle of major collections ends with the step from finalizing to scanning
abbrev pub ends_cycle : Line → Bool
ends_cycle (Stepped Finalizing Scanning) = true
ends_cycle line = false

-- how many of the lines pass the test
abbrev pub how_many : (Line → Bool) → List Line → ℕ
how_many test lines = length (filter test lines)

-- What is counted of groups: the commands, their lines, and of these the births, the minor collections and the ends of cycles.
abbrev pub tally_of : List Group → Tally
tally_of groups = record {
  commands = length groups;
  lines = length (group_lines groups);
  births = how_many is_birth (group_lines groups);
  minors = how_many is_minor (group_lines groups);
  cycles = how_many ends_cycle (group_lines groups);
}

-- the counts with so many commands more, and these lines
abbrev pub tally_plus : Tally → ℕ → List Line → Tally
tally_plus tally commands lines = record {
  commands = tally.commands + commands;
  lines = tally.lines + length lines;
  births = tally.births + how_many is_birth lines;
  minors = tally.minors + how_many is_minor lines;
  cycles = tally.cycles + how_many ends_cycle lines;
}

-- how many commands an item is
abbrev pub commands_of : Item → ℕ
commands_of (CommandItem command) = 1
commands_of item = 0

-- a line of a name and a number
abbrev pub count_text : List ℕ → ℕ → List ℕ
count_text name n = name ++ (decimal n ++ codes "\n")

-- the lines of the counts
abbrev pub tally_text : Tally → List ℕ
tally_text tally =
    count_text (codes "commands ") tally.commands
    ++ (count_text (codes "lines ") tally.lines
    ++ (count_text (codes "births ") tally.births
    ++ (count_text (codes "minors ") tally.minors
    ++ count_text (codes "cycles ") tally.cycles)))

-- The summary of groups that led to a store: the counts, and the words of kept objects and of husks as the command `used` tells them.
abbrev pub summary_text : List Group → Store → List ℕ
summary_text groups store = tally_text (tally_of groups) ++ line_text (UsedIs (kept_words store.kept) (husk_words store.husks))
