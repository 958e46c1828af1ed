use Rattle.std.proofs.Common.{sym, subst}
use Rattle.object_view.specs.Views.{HasObject}
use Rattle.object_view.proofs.ViewLaws.{has_header}
use Rattle.heap_parts.specs.Parts.{HeapParts}
use Rattle.minor_collect.proofs.ending.info_there.Goals as goal

pub read-word-requires : goal.read-word-requires
read-word-requires c =
    (has_header c.parts.inside.space c.parts.inside.types c.args.p c.arena_words-ordered.ensures.ordered
    (subst (λ (now : HeapParts). HasObject now.memory now.setup.types c.args.p) (sym c.parts.view_is) c.requires)).header
