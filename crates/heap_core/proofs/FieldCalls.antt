-- What calls on the fields of objects do.
use Rattle.std.proofs.Common.{◌≡◌, ℕ, [], ◌∷◌, Option, refl, sym, ap, ◌∙◌}
use Rattle.std.specs.Prelude.{slice_index}
use Rattle.text_model.specs.declared.command.Command.TheVariants.{Put, Get}
use Rattle.text_model.specs.declared.line.Line.TheVariants.{Got}
use Rattle.object_model.specs.Object.{Object}
use Rattle.object_model.specs.Fields.{ints_of}
use Rattle.object_view.proofs.FoundLaws.{int-from}
use Rattle.store_model.specs.Store.{Store}
use Rattle.store_model.specs.Steps.{Does, int_at, put_int}
use Rattle.heap_parts.specs.Parts.{HeapParts, word_in, place_in}
use Rattle.heap_parts.specs.StandsFor.{PartsStandFor}
use Rattle.heap_parts.specs.Effects.{with_word_at, int_place}
use Rattle.frame_laws.proofs.StandLaws.{put_stands}
use Rattle.frame_laws.proofs.RootStands.{object-found}
use Rattle.heap_core.specs.Commands.{AreReady, PartsDo}
use Rattle.heap_core.proofs.Ready.{HasInt, put_ready, get_ready}

pub put_does : (heap : HeapParts) (root item value : ℕ) → AreReady heap (Put root item value)
    → PartsDo heap (with_word_at heap (int_place heap root item) value) (Put root item value) []
unfolding Does
put_does heap root item value ready =
    let has = put_ready heap root item value ready in record {
      setup = refl;
      does = λ store s. (put_int store root item value, (refl, refl), put_stands heap store root item value s has.full has.item_in);
    }

-- a whole number of the object in a slot
pub int_is : (heap : HeapParts) (store : Store) (root item : ℕ) → HasInt heap root item → PartsStandFor heap store
    → word_in heap (int_place heap root item) ≡ int_at store root item
int_is heap store root item has s =
    sym (ap (λ (o : Option Object). slice_index (ints_of o) item) (object-found heap store root s has.full)
    ∙ int-from heap.setup.types s.name (word_in heap) (place_in heap root) item has.item_in)

pub get_does : (heap : HeapParts) (root item : ℕ) → AreReady heap (Get root item)
    → PartsDo heap heap (Get root item) (Got (word_in heap (int_place heap root item)) ∷ [])
unfolding Does
get_does heap root item ready =
    let has = get_ready heap root item ready in record {
      setup = refl;
      does = λ store s. (store, (ap (λ (v : ℕ). Got v ∷ []) (int_is heap store root item has s), refl), s);
    }
