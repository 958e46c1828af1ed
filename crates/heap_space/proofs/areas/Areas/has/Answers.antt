use Rattle.std.proofs.Common.{◌∙◌, ◌≡◌, ℕ, ◌-◌, ◌/◌, List, ap, sym, arith}
use Rattle.std.proofs.lemmas.Bool.Decides.{nat_tests}
use Rattle.std.specs.Prelude.{nat_lt, nat_le}
use Rattle.heap_space.specs.Memory.{Memory}
use Rattle.heap_space.specs.Places.{Placed, has, covers}
use Rattle.heap_space.specs.Areas.{nursery_block}
use Rattle.heap_space.proofs.Fields.{has-in-nursery, has-in-arena, has-in-large}
use Rattle.heap_space.proofs.areas.Areas.has.Goals as goal

pub returns-then-a-ge1 : goal.returns-then-a-ge1
returns-then-a-ge1 c =
    let test : nat_lt (c.args.a - 1) c.len.result ≡ covers (nursery_block c.self.inside.nursery) c.args.a =
    grind (arith, nat_tests, c.len.ensures, c.if-a-ge1.true) in
    test ∙ has-in-nursery c.self.inside c.self.invariant _ c.self.view_is _ c.if-a-lt-FIRST_ARENA.true

pub returns-else-a-ge1 : goal.returns-else-a-ge1
returns-else-a-ge1 c =
    let test : nat_le 1 c.args.a ≡ covers (nursery_block c.self.inside.nursery) c.args.a = grind (arith, nat_tests, c.if-a-ge1.false) in
    test ∙ has-in-nursery c.self.inside c.self.invariant _ c.self.view_is _ c.if-a-lt-FIRST_ARENA.true

pub returns-then-a-lt-FIRST_LARGE : goal.returns-then-a-lt-FIRST_LARGE
returns-then-a-lt-FIRST_LARGE c =
    let number = c.arena_number.ensures ∙ ap (λ (m : Memory). (c.args.a - 4294967296) / m.arena_words) (sym c.self.view_is) in
    ap (λ (k : ℕ). nat_lt k c.len-then-a-lt-FIRST_LARGE.result) number
    ∙ has-in-arena c.self.inside c.self.invariant _ c.self.view_is _ c.if-a-lt-FIRST_ARENA.false c.if-a-lt-FIRST_LARGE.true _
    (c.len-then-a-lt-FIRST_LARGE.ensures ∙ c.self.inside.arenas.ok.0)

pub returns-else-a-lt-FIRST_LARGE : goal.returns-else-a-lt-FIRST_LARGE
returns-else-a-lt-FIRST_LARGE c =
    c.has_large.ensures ∙ ap (λ (ps : List Placed). has ps c.args.a) c.deref.ensures.value
    ∙ has-in-large c.self.inside c.self.invariant _ c.self.view_is _ c.if-a-lt-FIRST_LARGE.false
