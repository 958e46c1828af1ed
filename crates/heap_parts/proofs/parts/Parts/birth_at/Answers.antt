use Rattle.std.proofs.Common.{sym, subst, arith}
use Rattle.object_view.specs.Views.{HasObject}
use Rattle.object_view.proofs.ViewLaws.{has_header}
use Rattle.parts_model.specs.Parts.{HeapParts}
use Rattle.heap_parts.proofs.parts.Parts.birth_at.Goals as goal

pub overflow_add-place : goal.overflow_add-place
overflow_add-place c =
    let h = has_header c.self.inside.space c.self.inside.types c.args.place c.arena_words-ordered.ensures.ordered
    (subst (λ (now : HeapParts). HasObject now.memory now.setup.types c.args.place) (sym c.self.view_is) c.requires) in
    omega (arith, h.fits, h.some)

pub read-requires : goal.read-requires
read-requires c =
    (has_header c.self.inside.space c.self.inside.types c.args.place c.arena_words-ordered.ensures.ordered
    (subst (λ (now : HeapParts). HasObject now.memory now.setup.types c.args.place) (sym c.self.view_is) c.requires)).birth
