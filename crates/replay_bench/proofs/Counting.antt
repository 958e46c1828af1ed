-- What is counted of groups that come behind others.
use Rattle.std.proofs.Common.{◌≡◌, ◌+◌, Bool, List, ◌++◌, length, ap, ◌∙◌, length-append}
use Rattle.std.proofs.lemmas.Grind.{flat_map-append}
use Rattle.std.proofs.lemmas.List.Elements.{filter-append}
use Rattle.std.specs.Prelude.{filter}
use Rattle.text_model.specs.declared.item.Item.{Item}
use Rattle.text_model.specs.declared.item.Item.TheVariants.{Blank, Setting, TypeDef, Command as CommandItem}
use Rattle.text_model.specs.declared.line.Line.{Line}
use Rattle.store_model.specs.Progress.{Progress}
use Rattle.store_model.specs.Transcript.{Group, ItemDoes, group_lines}
use Rattle.replay_bench.specs.Summary.{is_birth, is_minor, ends_cycle, how_many, tally_of, tally_plus, commands_of}

how_many-append : (test : Line → Bool) (lines more : List Line) → how_many test (lines ++ more) ≡ how_many test lines + how_many test more
how_many-append test lines more = ap length (filter-append test lines more) ∙ length-append (filter test lines) (filter test more)

lines_behind : (groups more : List Group) → group_lines (groups ++ more) ≡ group_lines groups ++ group_lines more
lines_behind groups more = flat_map-append (λ (g : Group). g.lines) groups more

how_many_behind : (test : Line → Bool) (groups more : List Group)
    → how_many test (group_lines (groups ++ more)) ≡ how_many test (group_lines groups) + how_many test (group_lines more)
how_many_behind test groups more = ap (how_many test) (lines_behind groups more) ∙ how_many-append test (group_lines groups) (group_lines more)

pub tally_behind : (groups more : List Group) → tally_of (groups ++ more) ≡ tally_plus (tally_of groups) (length more) (group_lines more)
tally_behind groups more = λ i. record {
  commands = length-append groups more i;
  lines = (ap length (lines_behind groups more) ∙ length-append (group_lines groups) (group_lines more)) i;
  births = how_many_behind is_birth groups more i;
  minors = how_many_behind is_minor groups more i;
  cycles = how_many_behind ends_cycle groups more i;
}

-- an item adds a group exactly if it is a command
pub groups_of_item : (old new : Progress) (item : Item) (groups : List Group) → ItemDoes old item groups new → length groups ≡ commands_of item
unfolding ItemDoes
groups_of_item old new Blank groups does = ap length does.0
groups_of_item old new (Setting name value) groups does = ap length does.0
groups_of_item old new (TypeDef id info) groups does = ap length does.0
groups_of_item old new (CommandItem command) groups does = ap length does.groups_are
