use Rattle.std.proofs.Common.{ℕ, ◌<◌, subst, sym}
use Rattle.heap_space.proofs.AreaWords.{arena_within, arena_word, arena_written}
use Rattle.heap_space.proofs.areas.Areas.write_arena.Goals as goal

pub index_mut-requires : goal.index_mut-requires
index_mut-requires c =
    subst (λ (n : ℕ). c.arena_number-number.result < n) (sym c.self.inside.arenas.ok.0) (arena_within c.self.inside c.self.invariant _ c.self.view_is _ c.requires.held c.requires.among.0 c.requires.among.1 _ c.arena_number-number.ensures)

pub write-requires : goal.write-requires
write-requires c =
    (arena_word c.self.inside c.self.invariant _ c.self.view_is _ c.requires.held c.requires.among.0 c.requires.among.1 _ c.arena_number-number.ensures
    c.index_mut.result.now c.index_mut.ensures.value).0

pub invariant_of-self : goal.invariant_of-self
invariant_of-self c =
    (arena_written c.self.inside c.self.invariant _ c.self.view_is _ c.requires.held c.requires.among.0 c.requires.among.1 _ c.arena_number-number.ensures
    c.args.v c.index_mut.result.now _ c.index_mut.ensures.value c.write.ensures).0

pub returns : goal.returns
returns c =
    (arena_written c.self.inside c.self.invariant _ c.self.view_is _ c.requires.held c.requires.among.0 c.requires.among.1 _ c.arena_number-number.ensures
    c.args.v c.index_mut.result.now _ c.index_mut.ensures.value c.write.ensures).1
