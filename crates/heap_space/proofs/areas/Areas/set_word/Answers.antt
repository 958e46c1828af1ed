use Rattle.std.proofs.Common.{◌∙◌, ◌≤◌, length, arith}
use Rattle.heap_space.proofs.Fields.{word-nursery, word-arena, word-large, set-nursery, set-arena, set-large}
use Rattle.heap_space.proofs.areas.Areas.set_word.Goals as goal

pub write-requires : goal.write-requires
write-requires c =
    (word-nursery c.self.inside c.self.invariant _ c.self.view_is _ _ _ c.requires.1 c.if-seat-eq0.true).0

pub write-requires-then-seat-arenas : goal.write-requires-then-seat-arenas
write-requires-then-seat-arenas c =
    let s = c.self.inside in let x = c.index_mut.result.now in
    let within : c.args.seat.block ≤ length s.arenas.items =
    omega (arith, c.if-seat-arenas.true, c.len-arenas.ensures, s.arenas.ok.0) in
    (word-arena s c.self.invariant _ c.self.view_is _ _ _ c.requires.1 x c.if-seat-eq0.false within
    c.index_mut.ensures.value).0

pub write-requires-else-seat-arenas : goal.write-requires-else-seat-arenas
write-requires-else-seat-arenas c =
    let s = c.self.inside in let x = c.index_mut-else-seat-arenas.result.now in
    let count = c.len-arenas.ensures ∙ s.arenas.ok.0 in
    (word-large s c.self.invariant _ c.self.view_is _ _ _ c.requires.1 x _ count c.if-seat-arenas.false
    c.index_mut-else-seat-arenas.ensures.value).0

pub invariant_of-self-then-seat-arenas : goal.invariant_of-self-then-seat-arenas
invariant_of-self-then-seat-arenas c =
    let s = c.self.inside in let x = c.index_mut.result.now in
    let within : c.args.seat.block ≤ length s.arenas.items =
    omega (arith, c.if-seat-arenas.true, c.len-arenas.ensures, s.arenas.ok.0) in
    (set-arena s c.self.invariant _ c.self.view_is _ _ _ c.requires.1 _ x _ c.if-seat-eq0.false within
    c.index_mut.ensures.value c.write-then-seat-arenas.ensures).0

pub invariant_of-self-else-seat-arenas : goal.invariant_of-self-else-seat-arenas
invariant_of-self-else-seat-arenas c =
    let s = c.self.inside in let x = c.index_mut-else-seat-arenas.result.now in
    let count = c.len-arenas.ensures ∙ s.arenas.ok.0 in
    (set-large s c.self.invariant _ c.self.view_is _ _ _ c.requires.1 _ x _ _ count c.if-seat-arenas.false
    c.index_mut-else-seat-arenas.ensures.value c.write-else-seat-arenas.ensures).0

pub returns-then-seat-eq0 : goal.returns-then-seat-eq0
returns-then-seat-eq0 c a t =
    set-nursery c.self.inside c.self.invariant _ c.self.view_is _ _ _ t _ _ c.if-seat-eq0.true c.write.ensures

pub returns-then-seat-arenas : goal.returns-then-seat-arenas
returns-then-seat-arenas c a t =
    let s = c.self.inside in let x = c.index_mut.result.now in
    let within : c.args.seat.block ≤ length s.arenas.items =
    omega (arith, c.if-seat-arenas.true, c.len-arenas.ensures, s.arenas.ok.0) in
    (set-arena s c.self.invariant _ c.self.view_is _ _ _ t _ x _ c.if-seat-eq0.false within
    c.index_mut.ensures.value c.write-then-seat-arenas.ensures).1

pub returns-else-seat-arenas : goal.returns-else-seat-arenas
returns-else-seat-arenas c a t =
    let s = c.self.inside in let x = c.index_mut-else-seat-arenas.result.now in
    let count = c.len-arenas.ensures ∙ s.arenas.ok.0 in
    (set-large s c.self.invariant _ c.self.view_is _ _ _ t _ x _ _ count c.if-seat-arenas.false
    c.index_mut-else-seat-arenas.ensures.value c.write-else-seat-arenas.ensures).1
