use Rattle.std.proofs.Common.{◌∙◌, ◌≤◌, length, arith}
use Rattle.heap_space.proofs.Fields.{word-nursery, word-arena, word-large}
use Rattle.heap_space.proofs.areas.Areas.word.Goals as goal

pub read-requires : goal.read-requires
read-requires c =
    (word-nursery c.self.inside c.self.invariant _ c.self.view_is _ _ _ c.requires.1 c.if-seat-eq0.true).0

pub read-requires-then-seat-arenas : goal.read-requires-then-seat-arenas
read-requires-then-seat-arenas c =
    let s = c.self.inside in let x = c.index.result.now in
    let within : c.args.seat.block ≤ length s.arenas.items =
    omega (arith, c.if-seat-arenas.true, c.len-arenas.ensures, s.arenas.ok.0) in
    (word-arena s c.self.invariant _ c.self.view_is _ _ _ c.requires.1 x c.if-seat-eq0.false within c.index.ensures).0

pub read-requires-else-seat-arenas : goal.read-requires-else-seat-arenas
read-requires-else-seat-arenas c =
    let s = c.self.inside in let x = c.index-else-seat-arenas.result.now in
    let count = c.len-arenas.ensures ∙ s.arenas.ok.0 in
    (word-large s c.self.invariant _ c.self.view_is _ _ _ c.requires.1 x _ count c.if-seat-arenas.false
    c.index-else-seat-arenas.ensures).0

pub returns-then-seat-eq0 : goal.returns-then-seat-eq0
returns-then-seat-eq0 c a t =
    c.read.ensures ∙ (word-nursery c.self.inside c.self.invariant _ c.self.view_is _ _ _ t c.if-seat-eq0.true).1

pub returns-then-seat-arenas : goal.returns-then-seat-arenas
returns-then-seat-arenas c a t =
    let s = c.self.inside in let x = c.index.result.now in
    let within : c.args.seat.block ≤ length s.arenas.items =
    omega (arith, c.if-seat-arenas.true, c.len-arenas.ensures, s.arenas.ok.0) in
    c.read-then-seat-arenas.ensures
    ∙ (word-arena s c.self.invariant _ c.self.view_is _ _ _ t x c.if-seat-eq0.false within c.index.ensures).1

pub returns-else-seat-arenas : goal.returns-else-seat-arenas
returns-else-seat-arenas c a t =
    let s = c.self.inside in let x = c.index-else-seat-arenas.result.now in
    let count = c.len-arenas.ensures ∙ s.arenas.ok.0 in
    c.read-else-seat-arenas.ensures
    ∙ (word-large s c.self.invariant _ c.self.view_is _ _ _ t x _ count c.if-seat-arenas.false
    c.index-else-seat-arenas.ensures).1
