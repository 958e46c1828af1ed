use Rattle.std.proofs.Common.{ap, ◌∙◌, None}
use Rattle.remember_cards.specs.Entries.{marks_in, with_marks}
use Rattle.remember_cards.proofs.TableLaws.{removed}
use Rattle.remember_cards.proofs.arrays.Arrays.remove.Goals as goal

pub returns : goal.returns
returns c =
    removed c.self.inside.marks.entries c.swap_remove.new.self.entries c.args.place c.swap_remove.ensures.updates.0
    ∙ ap (λ t. with_marks (marks_in t) c.args.place None) c.self.view_is
