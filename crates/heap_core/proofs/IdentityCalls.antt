-- What calls on the identity of objects do.
use Rattle.std.proofs.Common.{◌≡◌, ◌≢◌, ℕ, ◌<◌, ◌≤◌, Bool, true, false, [], ◌∷◌, Some, None, refl, sym, ap, ◌∙◌, subst, arith}
use Rattle.std.specs.Prelude.{not}
use Rattle.std.proofs.lemmas.Bool.Decides.{nat_tests}
use Rattle.text_model.specs.declared.command.Command.TheVariants.{Place}
use Rattle.text_model.specs.declared.line.Line.TheVariants.{PlaceIs}
use Rattle.type_table.specs.Table.{value_at}
use Rattle.object_model.specs.Sets.{is_in}
use Rattle.store_model.specs.Store.{Store}
use Rattle.store_model.specs.Slots.{held}
use Rattle.store_model.specs.Identity.{TellsPlace, is_settled_in}
use Rattle.store_model.specs.Steps.{Does}
use Rattle.heap_parts.specs.Parts.{HeapParts, place_in}
use Rattle.heap_parts.specs.Places.{is_young}
use Rattle.heap_parts.specs.StandsFor.{PartsStandFor}
use Rattle.frame_laws.proofs.PlaceLaws.{settled-old}
use Rattle.frame_laws.proofs.StandLaws.{in_slot}
use Rattle.heap_core.specs.Commands.{AreReady, PartsDo}
use Rattle.heap_core.proofs.FullSlots.{place_ready}
use Rattle.heap_core.proofs.HomeTold.{settled_tells}

-- an object is settled where its place is outside the nursery
pub is_settled-by : (heap : HeapParts) (store : Store) (root : ℕ) (s : PartsStandFor heap store) → place_in heap root ≢ 0
    → is_settled_in store (held store.slots root) ≡ not (is_young (place_in heap root))
is_settled-by heap store root s full =
    let p : ℕ = place_in heap root in let here = in_slot heap store root s full in
    ap (is_settled_in store) here.named ∙ (ap (is_in (s.name p)) s.births.settled_are ∙ settled-old s.name s.places p here.there s.words.objects.differ)

pub young-below : (place : ℕ) → place < 4294967296 → is_young place ≡ true
young-below place l = grind (arith, nat_tests)

pub old-above : (place : ℕ) → 4294967296 ≤ place → is_young place ≡ false
old-above place l = grind (arith, nat_tests)

-- the same of what has the value of a place
pub below-as : (result place : ℕ) → result ≡ place → result < 4294967296 → place < 4294967296
below-as result place is l = omega (arith, is, l)

pub above-as : (result place : ℕ) → result ≡ place → 4294967296 ≤ result → 4294967296 ≤ place
above-as result place is l = omega (arith, is, l)

-- no place is told of an object that may still move
pub young_place_does : (heap : HeapParts) (root : ℕ) → AreReady heap (Place root) → place_in heap root < 4294967296 → PartsDo heap heap (Place root) (PlaceIs None ∷ [])
unfolding Does
young_place_does heap root ready low =
    let full = (place_ready heap root ready).full in record {
      setup = refl;
      does = λ store s. (
        store,
        subst (λ (b : Bool). TellsPlace b store root (PlaceIs None ∷ []) store) (sym (is_settled-by heap store root s full ∙ ap not (young-below (place_in heap root) low))) (refl, refl),
        s,
      );
    }

-- the place of a settled object is told
pub old_place_does : (heap : HeapParts) (root : ℕ) → AreReady heap (Place root) → 4294967296 ≤ place_in heap root
    → PartsDo heap heap (Place root) (PlaceIs (Some (place_in heap root)) ∷ [])
unfolding Does
old_place_does heap root ready high =
    let full = (place_ready heap root ready).full in let old = old-above (place_in heap root) high in record {
      setup = refl;
      does = λ store s.
          let tells = settled_tells heap store root (value_at store.homes (s.name (place_in heap root))) s full old refl in (
            tells.0,
            subst (λ (b : Bool). TellsPlace b store root (PlaceIs (Some (place_in heap root)) ∷ []) tells.0) (sym (is_settled-by heap store root s full ∙ ap not old))
                (place_in heap root, tells.1, refl),
            tells.2,
          );
    }
