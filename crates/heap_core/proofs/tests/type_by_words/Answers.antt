use Rattle.std.proofs.Common.{sym, ap, ◌∙◌, subst, ℕ}
use Rattle.heap_parts.specs.Parts.{HeapParts, place_in}
use Rattle.heap_parts.specs.Effects.{HasObjectIn, with_word_at}
use Rattle.heap_core.proofs.WordCalls.{retyped}
use Rattle.heap_core.proofs.tests.type_by_words.Goals as goal

pub type_of-requires : goal.type_of-requires
type_of-requires c =
    let now : HeapParts = c.args.parts.now in
    subst (λ (h : HeapParts). HasObjectIn h c.args.root)
    (sym (c.write_header.ensures ∙ ap (λ (word : ℕ). with_word_at now (place_in now c.args.root) word) c.from.ensures))
    (retyped now c.args.root c.args.id c.ranges.id.fits c.requires)
