use Rattle.std.proofs.Common.{ℕ, ◌∙◌, ◌<◌, subst, sym}
use Rattle.heap_space.proofs.AreaWords.{arena_within, arena_word}
use Rattle.heap_space.proofs.areas.Areas.read_arena.Goals as goal

pub index-requires : goal.index-requires
index-requires c =
    subst (λ (n : ℕ). c.arena_number-number.result < n) (sym c.self.inside.arenas.ok.0) (arena_within c.self.inside c.self.invariant _ c.self.view_is _ c.requires.held c.requires.among.0 c.requires.among.1 _ c.arena_number-number.ensures)

pub read-requires : goal.read-requires
read-requires c =
    (arena_word c.self.inside c.self.invariant _ c.self.view_is _ c.requires.held c.requires.among.0 c.requires.among.1 _ c.arena_number-number.ensures
    c.index.result.now c.index.ensures).0

pub returns : goal.returns
returns c =
    c.read.ensures
    ∙ (arena_word c.self.inside c.self.invariant _ c.self.view_is _ c.requires.held c.requires.among.0 c.requires.among.1 _ c.arena_number-number.ensures
    c.index.result.now c.index.ensures).1
