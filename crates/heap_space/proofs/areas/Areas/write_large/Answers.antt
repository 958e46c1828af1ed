use Rattle.std.proofs.Common.{◌∙◌, ℕ, ◌-◌, ◌≤◌, ◌<◌, length, set, subst, sym, ap}
use Rattle.heap_space.specs.Places.{Placed}
use Rattle.heap_space.proofs.Fields.{at-larges}
use Rattle.heap_space.proofs.AreaWords.{large_begins, large_word, large_written}
use Rattle.heap_space.proofs.areas.Areas.write_large.Goals as goal

pub large_index-index-requires-clause-held : goal.large_index-index-requires-clause-held
large_index-index-requires-clause-held c =
    at-larges c.self.inside c.self.invariant _ c.self.view_is _ c.requires.held _ c.deref.ensures.value c.requires.among

pub overflow_sub-offset : goal.overflow_sub-offset
overflow_sub-offset c =
    let index = c.large_index-index.ensures in
    subst (λ (base : ℕ). base ≤ c.args.a) (sym c.base.ensures)
    (large_begins c.self.inside c.self.invariant _ c.self.view_is _ c.requires.held _ c.deref.ensures.value _ index.inside index.found
    c.index_mut-holder.result.now c.index_mut-holder.ensures.value)

pub write-requires : goal.write-requires
write-requires c =
    let index = c.large_index-index.ensures in let large : Placed = c.index_mut-holder.result.now in
    subst (λ (base : ℕ). c.args.a - base < length large.words) (sym c.base.ensures)
    (large_word c.self.inside c.self.invariant _ c.self.view_is _ c.requires.held _ c.deref.ensures.value _ index.inside index.found large c.index_mut-holder.ensures.value).0

pub invariant_of-self : goal.invariant_of-self
invariant_of-self c =
    let index = c.large_index-index.ensures in let large : Placed = c.index_mut-holder.result.now in
    (large_written c.self.inside c.self.invariant _ c.self.view_is _ c.requires.held _ c.deref.ensures.value _ index.inside index.found large c.index_mut-holder.ensures.value
    c.args.v c.write.new.self
    (c.write.ensures ∙ ap (λ (base : ℕ). record large { words = set large.words (c.args.a - base) c.args.v }) c.base.ensures)).0

pub returns : goal.returns
returns c =
    let index = c.large_index-index.ensures in let large : Placed = c.index_mut-holder.result.now in
    (large_written c.self.inside c.self.invariant _ c.self.view_is _ c.requires.held _ c.deref.ensures.value _ index.inside index.found large c.index_mut-holder.ensures.value
    c.args.v c.write.new.self
    (c.write.ensures ∙ ap (λ (base : ℕ). record large { words = set large.words (c.args.a - base) c.args.v }) c.base.ensures)).1
