use Rattle.std.proofs.Common.{sym, ◌∙◌}
use Rattle.heap_parts.proofs.PinIndex.{pin_at, not_pinned}
use Rattle.heap_parts.proofs.pins.count_of.Goals as goal

pub returns-in-None : goal.returns-in-None
returns-in-None c = sym (not_pinned c.args.pins.now c.args.place (sym c.pin_index.ensures ∙ c.in-None.is)).counted

pub returns-in-Some : goal.returns-in-Some
returns-in-Some c = (pin_at c.args.pins.now c.args.place c.in-Some.i (sym c.pin_index.ensures ∙ c.in-Some.is)).counted (0, 0)
