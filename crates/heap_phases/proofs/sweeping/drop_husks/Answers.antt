use Rattle.std.proofs.Common.{ℕ, take, get_or, Option, ap, ◌∙◌, arith}
use Rattle.std.specs.Prelude.{unwrap_or}
use Rattle.heap_phases.proofs.HuskTable.{taken_none, taken_next, taken_all, taken_words, taken_fits}
use Rattle.heap_phases.proofs.sweeping.drop_husks.Goals as goal

pub overflow_add-words : goal.overflow_add-words
overflow_add-words c =
    let more = c.unwrap_or-words.ensures ∙ ap (λ (o : Option ℕ). unwrap_or o 0) c.remove.ensures.value in
    let key : ℕ = get_or c.args.freed.now c.loop-birth.birth-index 0 in
    let fits = taken_fits c.args.husks.now.entries (take c.loop-birth.birth-index c.args.freed.now) c.loop-birth.husks.entries c.loop-birth.words key c.loop-birth.invariant in
    omega (arith, more, fits, c.requires.fits)

pub loop-birth-init : goal.loop-birth-init
loop-birth-init c = taken_none c.args.husks.now.entries

pub loop-birth-preserved : goal.loop-birth-preserved
loop-birth-preserved c = taken_next c.args.husks.now.entries c.args.freed.now c.loop-birth.birth-index c.loop-birth.husks.entries c.remove.new.self.entries c.loop-birth.words c.unwrap_or-words.result
    c.requires.rise c.loop-birth-test.true c.loop-birth.invariant c.remove.ensures.entries (c.unwrap_or-words.ensures ∙ ap (λ (o : Option ℕ). unwrap_or o 0) c.remove.ensures.value)

pub returns-clause-left : goal.returns-clause-left
returns-clause-left c = (taken_all c.loop-birth.invariant (omega (arith, c.loop-birth-test.false))).left

pub returns-clause-words : goal.returns-clause-words
returns-clause-words c = taken_words (taken_all c.loop-birth.invariant (omega (arith, c.loop-birth-test.false)))
