use Rattle.std.proofs.Common.{◌∙◌, ℕ, ◌-◌, ◌≤◌, ◌<◌, length, subst, sym, ap}
use Rattle.std.specs.Prelude.{slice_index}
use Rattle.heap_space.specs.Places.{Placed}
use Rattle.heap_space.proofs.Fields.{at-larges}
use Rattle.heap_space.proofs.AreaWords.{large_begins, large_word}
use Rattle.heap_space.proofs.areas.Areas.read_large.Goals as goal

pub large_index-requires-clause-held : goal.large_index-requires-clause-held
large_index-requires-clause-held c =
    at-larges c.self.inside c.self.invariant _ c.self.view_is _ c.requires.held _ c.deref.ensures.value c.requires.among

pub overflow_sub-a : goal.overflow_sub-a
overflow_sub-a c =
    let index = c.large_index.ensures in
    subst (λ (base : ℕ). base ≤ c.args.a) (sym c.base.ensures)
    (large_begins c.self.inside c.self.invariant _ c.self.view_is _ c.requires.held _ c.deref.ensures.value _ index.inside index.found
    c.index-large.result.now c.index-large.ensures)

pub read-requires : goal.read-requires
read-requires c =
    let index = c.large_index.ensures in let large : Placed = c.index-large.result.now in
    subst (λ (base : ℕ). c.args.a - base < length large.words) (sym c.base.ensures)
    (large_word c.self.inside c.self.invariant _ c.self.view_is _ c.requires.held _ c.deref.ensures.value _ index.inside index.found large c.index-large.ensures).0

pub returns : goal.returns
returns c =
    let index = c.large_index.ensures in let large : Placed = c.index-large.result.now in
    c.read.ensures ∙ ap (λ (base : ℕ). slice_index large.words (c.args.a - base)) c.base.ensures
    ∙ (large_word c.self.inside c.self.invariant _ c.self.view_is _ c.requires.held _ c.deref.ensures.value _ index.inside index.found large c.index-large.ensures).1
