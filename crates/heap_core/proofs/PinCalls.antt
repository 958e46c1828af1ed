-- What calls on pins do.
use Rattle.std.proofs.Common.{◌≡◌, ◌≢◌, ℕ, Bool, true, false, List, [], ◌∷◌, Option, Some, refl, sym, ap, ap₂, ◌∙◌}
use Rattle.std.specs.Prelude.{not, ◌&&◌}
use Rattle.text_model.specs.declared.command.Command.TheVariants.{Pin, Unpin}
use Rattle.text_model.specs.declared.line.Line.TheVariants.{PinIs}
use Rattle.type_table.specs.declared.info.TypeInfo.{TypeInfo}
use Rattle.type_table.specs.Table.{Table}
use Rattle.object_model.specs.Object.{Object}
use Rattle.object_model.specs.ObjectWords.{info_at, object_from}
use Rattle.store_model.specs.Store.{Store}
use Rattle.store_model.specs.Slots.{held}
use Rattle.store_model.specs.Identity.{can_pin, can_pin_birth, can_refer, pin_count, has_pin_room, pinned_with, unpin_slot, is_settled_in}
use Rattle.store_model.specs.Steps.{Does}
use Rattle.heap_parts.specs.Parts.{HeapParts, word_in, place_in}
use Rattle.heap_parts.specs.Places.{is_young}
use Rattle.heap_parts.specs.Lists.{named_entries}
use Rattle.heap_parts.specs.Pins.{with_pin, without_pin}
use Rattle.heap_parts.specs.StandsFor.{PartsStandFor}
use Rattle.frame_laws.proofs.StandLaws.{in_slot}
use Rattle.frame_laws.proofs.PlaceLaws.{young-is_in}
use Rattle.frame_laws.proofs.RootStands.{object-found}
use Rattle.command_laws.proofs.PinStands.{pin_stands}
use Rattle.command_laws.proofs.UnpinStands.{unpin_stands}
use Rattle.heap_core.specs.Commands.{AreReady, PartsDo}
use Rattle.heap_core.specs.Pinning.{can_pin_in}
use Rattle.heap_core.proofs.IdentityCalls.{is_settled-by}
use Rattle.heap_core.proofs.PinReady.{pin_ready, unpin_ready, flag_ready, pinned_in, pins_differ, named-count, named-room}

pub unpin_does : (heap : HeapParts) (root : ℕ) → AreReady heap (Unpin root) → PartsDo heap (without_pin heap (place_in heap root)) (Unpin root) []
unfolding Does
unpin_does heap root ready =
    let full = (unpin_ready heap root ready).full in record {
      setup = refl;
      does = λ store s. (
        unpin_slot store root,
        (refl, refl),
        unpin_stands heap store root s full (pinned_in heap store root s full (flag_ready heap root ready)) (pins_differ heap store s),
      );
    }

shape-from : (types : Table TypeInfo) (name w : ℕ → ℕ) (p : ℕ) → can_refer (object_from types name w p).info.shape ≡ can_refer (info_at types w p).shape
unfolding object_from
shape-from types name w p = refl

not-not : (b : Bool) → not (not b) ≡ b
not-not true = refl
not-not false = refl

-- the count of the object in a slot
count-is : (heap : HeapParts) (store : Store) (root : ℕ) (s : PartsStandFor heap store) → place_in heap root ≢ 0
    → has_pin_room heap.setup.settings.pins store.pinned (pin_count store.pinned (s.name (place_in heap root)))
    ≡ has_pin_room heap.setup.settings.pins heap.pins (pin_count heap.pins (place_in heap root))
count-is heap store root s full =
    let p : ℕ = place_in heap root in let most : ℕ = heap.setup.settings.pins in
    let there = (in_slot heap store root s full).there in
    ap (λ (es : List (ℕ × ℕ)). has_pin_room most es (pin_count es (s.name p))) s.pins.named
    ∙ (named-room most s.name heap.pins (pin_count (named_entries s.name heap.pins) (s.name p))
    ∙ ap (has_pin_room most heap.pins) (named-count s.name heap.pins p (λ q t e. s.words.objects.differ q p (young-is_in s.places q (s.pins.there q t)).0 there e)))

-- the object can be pinned in the store where it can be in the heap
can-is : (heap : HeapParts) (store : Store) (root : ℕ) (s : PartsStandFor heap store) → place_in heap root ≢ 0
    → can_pin heap.setup.settings.pins store root ≡ can_pin_in heap root
can-is heap store root s full =
    let p : ℕ = place_in heap root in let most : ℕ = heap.setup.settings.pins in
    let here = in_slot heap store root s full in
    let unsettled : not (is_settled_in store (Some (s.name p))) ≡ is_young p =
    ap not (ap (is_settled_in store) (sym here.named) ∙ is_settled-by heap store root s full) ∙ not-not (is_young p) in
    ap₂ (λ (b : Option ℕ) (o : Option Object). can_pin_birth most store b o) here.named (object-found heap store root s full)
    ∙ ap₂ (λ (x y : Bool). x && y) unsettled
    (ap₂ (λ (x y : Bool). not x && y) (shape-from heap.setup.types s.name (word_in heap) p) (count-is heap store root s full))

and-true : (a b : Bool) → (a && b) ≡ true → (a ≡ true) × (b ≡ true)
and-true true b e = (refl, e)
and-true false b e = absurd (let no : ⊥ = cc in no)

not-true : (b : Bool) → not b ≡ true → b ≡ false
not-true true e = absurd (let no : ⊥ = cc in no)
not-true false e = refl

-- what is known where it can be
pub record IsPinnable (heap : HeapParts) (root : ℕ) : Type 0 where
  pub young : is_young (place_in heap root) ≡ true
  pub bare : can_refer (info_at heap.setup.types (word_in heap) (place_in heap root)).shape ≡ false
  pub room : has_pin_room heap.setup.settings.pins heap.pins (pin_count heap.pins (place_in heap root)) ≡ true

pub pinnable : (heap : HeapParts) (root : ℕ) → can_pin_in heap root ≡ true → IsPinnable heap root
pinnable heap root e =
    let one = and-true _ _ e in let two = and-true _ _ one.1 in
    record { young = one.0; bare = not-true _ two.0; room = two.1 }

pub no_pin_does : (heap : HeapParts) (root : ℕ) → AreReady heap (Pin root) → can_pin_in heap root ≡ false → PartsDo heap heap (Pin root) (PinIs false ∷ [])
unfolding Does
no_pin_does heap root ready can_not =
    let full = (pin_ready heap root ready).full in record {
      setup = refl;
      does = λ store s.
          let can : can_pin heap.setup.settings.pins store root ≡ false = can-is heap store root s full ∙ can_not in
          (store, (ap (λ (b : Bool). PinIs b ∷ []) (sym can), ap (λ (b : Bool). record store { pinned = pinned_with b store.pinned (held store.slots root) }) (sym can)), s);
    }

pub pin_does : (heap : HeapParts) (root : ℕ) → AreReady heap (Pin root) → can_pin_in heap root ≡ true
    → PartsDo heap (with_pin heap (place_in heap root)) (Pin root) (PinIs true ∷ [])
unfolding Does
pin_does heap root ready may =
    let full = (pin_ready heap root ready).full in let is = pinnable heap root may in record {
      setup = refl;
      does = λ store s.
          let can : can_pin heap.setup.settings.pins store root ≡ true = can-is heap store root s full ∙ may in (
            record store { pinned = pinned_with true store.pinned (held store.slots root) },
            (ap (λ (b : Bool). PinIs b ∷ []) (sym can), ap (λ (b : Bool). record store { pinned = pinned_with b store.pinned (held store.slots root) }) (sym can)),
            pin_stands heap store root s full is.young is.bare (count-is heap store root s full ∙ is.room),
          );
    }
