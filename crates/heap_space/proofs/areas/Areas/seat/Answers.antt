use Rattle.std.proofs.Common.{◌∙◌, ℕ, ◌+◌, ◌-◌, ◌≤◌, sym, subst}
use Rattle.heap_space.specs.Seats.{IsSeat}
use Rattle.heap_space.proofs.Fields.{at-nursery, at-larges, at-large}
use Rattle.heap_space.proofs.AreaWords.{arena_seat}
use Rattle.heap_space.proofs.areas.Areas.seat.Goals as goal

pub overflow_sub-result : goal.overflow_sub-result
overflow_sub-result c =
    (at-nursery c.self.inside c.self.invariant _ c.self.view_is _ c.requires c.if-a-lt-FIRST_ARENA.true).0

pub returns-then-a-lt-FIRST_ARENA : goal.returns-then-a-lt-FIRST_ARENA
returns-then-a-lt-FIRST_ARENA c =
    (at-nursery c.self.inside c.self.invariant _ c.self.view_is _ c.requires c.if-a-lt-FIRST_ARENA.true).1

pub returns-then-a-lt-FIRST_LARGE : goal.returns-then-a-lt-FIRST_LARGE
returns-then-a-lt-FIRST_LARGE c =
    arena_seat c.self.inside c.self.invariant _ c.self.view_is _ c.requires c.if-a-lt-FIRST_ARENA.false c.if-a-lt-FIRST_LARGE.true _
    c.arena_number-number.ensures

pub large_index-index-requires-clause-held : goal.large_index-index-requires-clause-held
large_index-index-requires-clause-held c =
    at-larges c.self.inside c.self.invariant _ c.self.view_is _ c.requires _ c.deref.ensures.value
    c.if-a-lt-FIRST_LARGE.false

pub overflow_sub-result-else-a-lt-FIRST_LARGE : goal.overflow_sub-result-else-a-lt-FIRST_LARGE
overflow_sub-result-else-a-lt-FIRST_LARGE c =
    let s = c.self.inside in let count = c.len.ensures ∙ s.arenas.ok.0 in let index = c.large_index-index.ensures in
    let at = at-large s c.self.invariant _ c.self.view_is _ c.requires _ c.deref.ensures.value _ _ _ count
    index.inside c.index.ensures index.found in
    subst (λ (base : ℕ). base ≤ c.args.a) (sym c.base.ensures) at.0

pub returns-else-a-lt-FIRST_LARGE : goal.returns-else-a-lt-FIRST_LARGE
returns-else-a-lt-FIRST_LARGE c =
    let s = c.self.inside in let count = c.len.ensures ∙ s.arenas.ok.0 in let index = c.large_index-index.ensures in
    let at = at-large s c.self.invariant _ c.self.view_is _ c.requires _ c.deref.ensures.value _ _ _ count
    index.inside c.index.ensures index.found in
    let block : ℕ = (c.len.result + c.large_index-index.result) + 1 in
    subst (λ (base : ℕ). IsSeat c.args.self.now.blocks c.args.a block (c.args.a - base)) (sym c.base.ensures) at.1
