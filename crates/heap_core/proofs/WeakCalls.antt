-- What calls on weak objects do.
use Rattle.std.proofs.Common.{◌≢◌, ℕ, [], ◌∷◌, Option, refl, sym, ap, ◌∙◌}
use Rattle.text_model.specs.declared.command.Command.TheVariants.{Deref}
use Rattle.text_model.specs.declared.line.Line.TheVariants.{Derefed}
use Rattle.object_view.specs.Views.{HasObject}
use Rattle.store_model.specs.Steps.{Does}
use Rattle.heap_parts.specs.Parts.{HeapParts, word_in}
use Rattle.heap_parts.specs.Effects.{with_slot, birth_read, layout_in}
use Rattle.frame_laws.proofs.SlotLaws.{pointer-some}
use Rattle.frame_laws.proofs.ReviveStands.{target_is, target_pointer, deref_stands}
use Rattle.heap_core.specs.Commands.{AreReady, PartsDo}
use Rattle.heap_core.proofs.SlotCalls.{birth-named}
use Rattle.heap_core.proofs.WeakReady.{deref_ready}

-- where a target is not nil a whole object stands there
pub target_whole : (heap : HeapParts) (to root : ℕ) → AreReady heap (Deref to root) → word_in heap (layout_in heap root).ref_start ≢ 0
    → HasObject heap.memory heap.setup.types (word_in heap (layout_in heap root).ref_start)
target_whole heap to root ready full =
    let s = ready.standing.stands in let has = (deref_ready heap to root ready).1 in let place : ℕ = word_in heap (layout_in heap root).ref_start in
    s.words.whole place (pointer-some s.places place (target_pointer heap ready.standing.store root s has.full has.weak) full)

pub deref_does : (heap : HeapParts) (to root : ℕ) → AreReady heap (Deref to root)
    → PartsDo heap (with_slot heap to (word_in heap (layout_in heap root).ref_start)) (Deref to root)
    (Derefed (birth_read (word_in heap) (word_in heap (layout_in heap root).ref_start)) ∷ [])
unfolding Does
deref_does heap to root ready =
    let has = (deref_ready heap to root ready).1 in record {
      setup = refl;
      does = λ store s. let gets = deref_stands heap store to root s has.full has.weak in (
        gets.after,
        (
          ap (λ (birth : Option ℕ). Derefed birth ∷ [])
              (birth-named heap store s (word_in heap (layout_in heap root).ref_start) (target_pointer heap store root s has.full has.weak) ∙ sym (target_is heap store root s has.full has.weak)),
          gets.revives,
        ),
        gets.stands,
      );
    }
