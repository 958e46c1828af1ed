use Rattle.std.proofs.Common.{refl}
use Rattle.heap_space.proofs.Fields.{at-nursery, word-nursery, set-nursery}
use Rattle.heap_space.proofs.areas.Areas.write.Goals as goal

pub overflow_sub-a : goal.overflow_sub-a
overflow_sub-a c = (at-nursery c.self.inside c.self.invariant _ c.self.view_is _ c.requires c.if-a-lt-FIRST_ARENA.true).0

pub write-requires : goal.write-requires
write-requires c =
    let seat = (at-nursery c.self.inside c.self.invariant _ c.self.view_is _ c.requires c.if-a-lt-FIRST_ARENA.true).1 in
    (word-nursery c.self.inside c.self.invariant _ c.self.view_is _ _ _ seat refl).0

pub returns-then-a-lt-FIRST_ARENA : goal.returns-then-a-lt-FIRST_ARENA
returns-then-a-lt-FIRST_ARENA c =
    let seat = (at-nursery c.self.inside c.self.invariant _ c.self.view_is _ c.requires c.if-a-lt-FIRST_ARENA.true).1 in
    set-nursery c.self.inside c.self.invariant _ c.self.view_is _ _ _ seat _ _ refl c.write.ensures
