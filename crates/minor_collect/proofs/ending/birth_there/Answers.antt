use Rattle.std.proofs.Common.{sym, subst, arith}
use Rattle.object_view.specs.Views.{HasObject}
use Rattle.object_view.proofs.ViewLaws.{has_header}
use Rattle.heap_parts.specs.Parts.{HeapParts}
use Rattle.minor_collect.proofs.ending.birth_there.Goals as goal

pub overflow_add-p : goal.overflow_add-p
overflow_add-p c =
    let h = has_header c.parts.inside.space c.parts.inside.types c.args.p c.arena_words-ordered.ensures.ordered
    (subst (λ (now : HeapParts). HasObject now.memory now.setup.types c.args.p) (sym c.parts.view_is) c.requires) in
    omega (arith, h.fits, h.some)

pub read-requires : goal.read-requires
read-requires c =
    (has_header c.parts.inside.space c.parts.inside.types c.args.p c.arena_words-ordered.ensures.ordered
    (subst (λ (now : HeapParts). HasObject now.memory now.setup.types c.args.p) (sym c.parts.view_is) c.requires)).birth
