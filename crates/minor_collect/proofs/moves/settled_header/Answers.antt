use Rattle.std.proofs.Common.{◌≡◌, ◌%◌, ℕ, List, subst, sym, ap, ◌∙◌}
use Rattle.heap_space.specs.Extents.{Extent}
use Rattle.object_model.specs.ObjectWords.{words_at}
use Rattle.object_view.specs.Views.{HasObject}
use Rattle.object_view.proofs.ViewLaws.{has_header}
use Rattle.old_space.specs.HasBlocks.{HasBlocks, page_size}
use Rattle.heap_parts.specs.Parts.{HeapParts, word_in}
use Rattle.heap_parts.specs.OldSpace.{is_waiting}
use Rattle.heap_parts.specs.contracts.parts.Parts.{the_view}
use Rattle.minor_collect.specs.Calls.{settled_word_of}
use Rattle.minor_collect.proofs.HeadLaws.{head_is}
use Rattle.minor_collect.proofs.moves.settled_header.Goals as goal

pub read-requires : goal.read-requires
read-requires c =
    (has_header (the_view c.parts.inside).memory (the_view c.parts.inside).setup.types c.args.p c.arena_words-ordered.ensures.ordered
    (subst (λ (now : HeapParts). HasObject now.memory now.setup.types c.args.p) (sym c.parts.view_is) c.requires.object)).header

pub returns : goal.returns
returns c =
    subst (λ (now : HeapParts). (live : List Extent) (waiting : List ℕ) → HasBlocks now.old_blocks now.memory live waiting → c.header_of.result ≡ settled_word_of now c.args.p (is_waiting (page_size now.old_blocks) waiting c.args.a)) c.parts.view_is
    (λ live waiting has. head_is (the_view c.parts.inside) c.args.p c.args.n c.args.a c.type_id-type_id.result c.get.result c.unwrap-shape.result c.keeps_cards-cards.result c.waits-waits.result c.header_of.result waiting
    (c.type_id-type_id.ensures ∙ ap (λ (x : ℕ). x % 65536) c.read.ensures)
    (subst (λ (now : HeapParts). c.args.n ≡ words_at now.setup.types (word_in now) c.args.p) (sym c.parts.view_is) c.requires.words)
    c.get.ensures c.unwrap-shape.ensures c.keeps_cards-cards.ensures (c.waits-waits.ensures live waiting has) c.header_of.ensures)
