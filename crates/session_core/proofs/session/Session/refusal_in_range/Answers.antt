use Rattle.std.proofs.Common.{ap, sym, ◌∙◌, arith}
use Rattle.text_model.specs.Range.{is_above}
use Rattle.session_core.proofs.Passing.{copy_in_range}
use Rattle.session_core.proofs.session.Session.refusal_in_range.Goals as goal

pub overflow_add-item : goal.overflow_add-item
overflow_add-item c =
    let short = copy_in_range c.in-CopyRefs.root c.in-CopyRefs.item c.in-CopyRefs.from c.in-CopyRefs.from_item c.in-CopyRefs.count
    (ap is_above (sym c.in-CopyRefs.is) ∙ c.requires.in_range) in omega (arith, short.0, short.2)

pub overflow_add-from_item : goal.overflow_add-from_item
overflow_add-from_item c =
    let short = copy_in_range c.in-CopyRefs.root c.in-CopyRefs.item c.in-CopyRefs.from c.in-CopyRefs.from_item c.in-CopyRefs.count
    (ap is_above (sym c.in-CopyRefs.is) ∙ c.requires.in_range) in omega (arith, short.1, short.2)
