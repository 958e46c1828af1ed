use Rattle.std.proofs.Common.{ℕ, IsTrue, sym, ◌∙◌, subst, arith}
use Rattle.heap_space.specs.Places.{has, word_at}
use Rattle.object_model.specs.ObjectWords.{words_at}
use Rattle.object_view.specs.Views.{HasObject}
use Rattle.object_view.proofs.LayoutLaws.{laid_out}
use Rattle.object_view.proofs.SpaceLaws.{lies-at}
use Rattle.parts_model.specs.Parts.{HeapParts}
use Rattle.heap_parts.proofs.parts.Parts.is_pinned.Goals as goal

pub read-requires : goal.read-requires
read-requires c =
    let now : HeapParts = c.args.self.now in let p : ℕ = c.place-place.result in
    let object : HasObject now.memory now.setup.types p =
    subst (HasObject now.memory now.setup.types) (sym c.place-place.ensures) (c.requires (λ e. c.if-place-eq0.false (c.place-place.ensures ∙ e))) in
    subst (λ (h : HeapParts). IsTrue (has h.memory.blocks p)) (sym c.self.view_is)
    (lies-at now.memory.blocks p (words_at now.setup.types (word_at now.memory.blocks) p) p object.whole (omega arith)
    (omega (arith, (laid_out now.setup.types (word_at now.memory.blocks) p).header)))
