-- What the parts of a heap stand for when a slot or a word of an object changes.
use Rattle.std.proofs.Common.{◌≡◌, ◌≢◌, ℕ, ◌+◌, ◌<◌, ◌≤◌, true, IsTrue, List, map, Option, Some, refl, sym, ap, ◌∙◌, subst, inl, inr, arith}
use Rattle.std.proofs.lemmas.Bool.{ne_eqb}
use Rattle.type_table.specs.declared.info.TypeInfo.{TypeInfo}
use Rattle.type_table.specs.Table.{Table}
use Rattle.heap_space.specs.Places.{has}
use Rattle.heap_space.proofs.Blocks.{lies-with_word}
use Rattle.object_view.proofs.LayoutLaws.{laid_out}
use Rattle.object_view.proofs.SpaceLaws.{word_at-written, lies-at}
use Rattle.object_view.proofs.ChangeLaws.{Changes, changes-updated}
use Rattle.object_view.proofs.FieldLaws.{int_holds, ref_holds}
use Rattle.object_model.specs.Object.{Object}
use Rattle.store_model.specs.Store.{Store, unsettled_words, settled_words, husk_words}
use Rattle.object_model.specs.Sets.{is_in}
use Rattle.store_model.specs.Slots.{held}
use Rattle.object_model.specs.Fields.{changed_at, with_int, with_ref}
use Rattle.store_model.specs.Steps.{put_int}
use Rattle.object_model.specs.ObjectWords.{renamed, updated, words_at}
use Rattle.object_model.specs.Holds.{HoldsObjects, IsPointer}
use Rattle.remember_cards.specs.Remembered.{is_held_of}
use Rattle.parts_model.specs.Parts.{HeapParts, word_in, place_in, home_in}
use Rattle.parts_model.specs.Places.{young_places, old_places}
use Rattle.parts_model.specs.StandsFor.{PartsStandFor}
use Rattle.parts_model.specs.Effects.{with_word_at, int_place, ref_place, layout_in}
use Rattle.frame_laws.proofs.PlaceLaws.{placed_words, young-is_in, old-is_in}
use Rattle.parts_model.proofs.SameLayouts.{SameLayouts, sum-same}
use Rattle.frame_laws.proofs.KeepWords.{SameWords, headers_kept, young_flags_kept, remembered_kept, old-firsts, firsts-stay, words_kept}
use Rattle.frame_laws.proofs.WriteWords.{same_written, blocks_written}
use Rattle.store_model.proofs.FieldChanges.{IsFieldChange, int_change, ref_change, same_but_for, items_changed}
use Rattle.store_model.proofs.SoundLaws.{CanBeRoot, sound_after}
use Rattle.store_model.proofs.OrderLaws.{plain_in_order}
use Rattle.frame_laws.proofs.SlotLaws.{held-named, slot-pointer, pointer-some}

-- the numbers of words are those of the same objects, of which one may have changed within its layout
pub numbers-same : {types : Table TypeInfo} {v w name : ℕ → ℕ} {met places : List ℕ} {kept changed : List Object} (settled : List ℕ)
    → HoldsObjects types w met places name kept → HoldsObjects types v met places name changed → settled ≡ map name (old_places places)
    → SameLayouts types v w places
    → (unsettled_words changed settled ≡ unsettled_words kept settled) × (settled_words changed settled ≡ settled_words kept settled)
numbers-same {types = types} {v = v} {w = w} {places = places} settled before after is same =
    let old = placed_words settled before is in let new = placed_words settled after is in (
      new.unsettled ∙ (sum-same types v w (young_places places) (λ p t. same p (young-is_in places p t).0) ∙ sym old.unsettled),
      new.settled_are ∙ (sum-same types v w (old_places places) (λ p t. same p (old-is_in places p t).0) ∙ sym old.settled_are),
    )

-- A word of a field of an object is written, such that the words hold the changed object. What is new in it belongs to roots, and
-- is remembered where the object is settled.
pub word_stands : (heap : HeapParts) (store : Store) (s : PartsStandFor heap store) (p at value : ℕ) (change : Object → Object) (news : ℕ → ℕ → Type 0)
    → IsFieldChange change news → IsTrue (is_in p s.places)
    → Changes heap.setup.types (updated (word_in heap) at value) (word_in heap) s.places s.places p
    → p < at → at < p + words_at heap.setup.types (word_in heap) p
    → HoldsObjects heap.setup.types (updated (word_in heap) at value) s.places s.places s.name (changed_at (Some (s.name p)) change store.kept)
    → ((i y : ℕ) → news i y → CanBeRoot store.kept store.unreached store.doomed y)
    → ((i y : ℕ) → news i y → IsTrue (is_in (s.name p) store.settled) → IsTrue (is_held_of heap.remembered s.name (s.name p) i))
    → PartsStandFor (with_word_at heap at value) (record store { kept = changed_at (Some (s.name p)) change store.kept })
word_stands heap store s p at value change news fields there by low high holds roots covers =
    let new : HeapParts = with_word_at heap at value in
    let types = heap.setup.types in
    let after : List Object = changed_at (Some (s.name p)) change store.kept in
    let has_word : has heap.memory.blocks at ≡ true =
    lies-at heap.memory.blocks p (words_at types (word_in heap) p) at (s.words.whole p there).whole (omega (arith, low)) high in
    let words : updated (word_in heap) at value ≡ word_in new = sym (word_at-written heap.memory.blocks at value has_word) in
    let small : heap.nursery.words ≤ 1048576 = omega (arith, s.made.words, s.made.ranges.1) in
    let same : SameWords types (word_in new) (word_in heap) (home_in heap) s.places s.husks =
    subst (λ (v : ℕ → ℕ). SameWords types v (word_in heap) (home_in heap) s.places s.husks) words (same_written s.words small p there at value by low high) in
    let objects : HoldsObjects types (word_in new) s.places s.places s.name after =
    subst (λ (v : ℕ → ℕ). HoldsObjects types v s.places s.places s.name after) words holds in
    let numbers = numbers-same store.settled s.words.objects objects s.births.settled_are same.objects.layouts in
    record {
      places = s.places;
      name = s.name;
      husks = s.husks;
      waiting = s.waiting;
      words = words_kept same.objects (λ a n. lies-with_word heap.memory.blocks at value a n) (blocks_written s.words small p there at value (omega (arith, low)) high) objects s.words;
      headers = headers_kept same s.headers;
      young_flags = young_flags_kept same s.young_flags;
      visited = firsts-stay (word_in new) (old-firsts same) s.visited;
      remembered = remembered_kept same s.remembered;
      births = s.births;
      slots = s.slots;
      pins = s.pins;
      finalizers = s.finalizers;
      links = s.links;
      homes = s.homes;
      gray = s.gray;
      gray_phase = s.gray_phase;
      husk_list = s.husk_list;
      sums = record {
        unsettled_are = s.sums.unsettled_are ∙ sym numbers.0;
        old_are = s.sums.old_are ∙ ap (λ (n : ℕ). n + husk_words store.husks) (sym numbers.1);
        fresh_old = s.sums.fresh_old;
        within = s.sums.within;
      };
      counts = s.counts;
      ungapped = s.ungapped;
      units = s.units;
      made = record { ranges = s.made.ranges; words = s.made.words; pins = s.made.pins; card = s.made.card; arena = s.made.arena; small = s.made.small; page = s.made.page };
      order = plain_in_order (record {
        settled_stay = λ x t. t;
        held_stay = λ x i t. t;
        held_settled = s.order.held_settled;
        items = λ x i y t e. elim (items_changed fields (s.name p) store.kept x i y e) [
          | inl old ↦ inl (t, old)
          | inr is ↦ inr (subst (λ (k : ℕ). IsTrue (is_held_of heap.remembered s.name k i)) (sym is.0)
              (covers i y is.1 (subst (λ (k : ℕ). IsTrue (is_in k store.settled)) is.0 t)))
        ];
      }) s.order;
      sound = sound_after heap.setup.settings store after (same_but_for fields (s.name p) store.kept (CanBeRoot store.kept store.unreached store.doomed) roots) s.sound;
    }

-- the object in a slot that is not empty
pub record InSlot (heap : HeapParts) (store : Store) (root : ℕ) (s : PartsStandFor heap store) : Type 0 where
  pub there : IsTrue (is_in (place_in heap root) s.places)
  pub named : held store.slots root ≡ Some (s.name (place_in heap root))

pub in_slot : (heap : HeapParts) (store : Store) (root : ℕ) (s : PartsStandFor heap store) → place_in heap root ≢ 0 → InSlot heap store root s
in_slot heap store root s full =
    let place = place_in heap root in
    let renamed-full : renamed s.name place ≡ Some (s.name place) = rw (ne_eqb place 0 full) refl in record {
      there = pointer-some s.places place (slot-pointer heap.slots s.places root s.slots.pointers) full;
      named = ap (λ (ss : List (Option ℕ)). held ss root) s.slots.named ∙ (held-named heap.slots s.name root ∙ renamed-full);
    }

-- A whole number of the object in a slot is written.
pub put_stands : (heap : HeapParts) (store : Store) (root item value : ℕ) → PartsStandFor heap store → place_in heap root ≢ 0
    → item < (layout_in heap root).int_count → PartsStandFor (with_word_at heap (int_place heap root item) value) (put_int store root item value)
put_stands heap store root item value s full l =
    let types = heap.setup.types in let word = word_in heap in let p = place_in heap root in
    let here = in_slot heap store root s full in
    let laid = laid_out types word p in
    let changes = changes-updated p (int_place heap root item) value s.words.objects here.there (omega arith) (omega (arith, l, laid.ordered, laid.pointers))
    (λ j m e. absurd (omega (arith, e, l, laid.ordered))) in
    subst (λ (b : Option ℕ). PartsStandFor (with_word_at heap (int_place heap root item) value) (record store { kept = changed_at b (with_int item value) store.kept })) (sym here.named)
    (word_stands heap store s p (int_place heap root item) value (with_int item value) (λ i y. ⊥) (int_change item value) here.there changes
    (omega (arith, laid.begins)) (omega (arith, l, laid.ordered, laid.pointers)) (int_holds p item value s.words.objects here.there l)
    (λ i y n. absurd n) (λ i y n t. absurd n))

-- A reference of the object in a slot is written: what it leads to is a root, and the item is remembered where the object is settled.
pub link_stands : (heap : HeapParts) (store : Store) (root item place : ℕ) (s : PartsStandFor heap store) → place_in heap root ≢ 0
    → item < (layout_in heap root).ref_count → IsPointer s.places place
    → ((y : ℕ) → renamed s.name place ≡ Some y → CanBeRoot store.kept store.unreached store.doomed y)
    → (IsTrue (is_in (s.name (place_in heap root)) store.settled) → IsTrue (is_held_of heap.remembered s.name (s.name (place_in heap root)) item))
    → PartsStandFor (with_word_at heap (ref_place heap root item) place)
    (record store { kept = changed_at (held store.slots root) (with_ref item (renamed s.name place)) store.kept })
link_stands heap store root item place s full l pointer rooted covered =
    let types = heap.setup.types in let word = word_in heap in let p = place_in heap root in
    let here = in_slot heap store root s full in
    let laid = laid_out types word p in
    let changes = changes-updated p (ref_place heap root item) place s.words.objects here.there (omega (arith, laid.ordered)) (omega (arith, l, laid.refs, laid.pointers))
    (λ j m e. pointer) in
    subst (λ (b : Option ℕ). PartsStandFor (with_word_at heap (ref_place heap root item) place)
    (record store { kept = changed_at b (with_ref item (renamed s.name place)) store.kept })) (sym here.named)
    (word_stands heap store s p (ref_place heap root item) place (with_ref item (renamed s.name place)) (λ i y. (i ≡ item) × (renamed s.name place ≡ Some y))
    (ref_change item (renamed s.name place)) here.there changes
    (omega (arith, laid.begins, laid.ordered)) (omega (arith, l, laid.refs, laid.pointers)) (ref_holds p item place s.words.objects here.there l pointer)
    (λ i y n. rooted y n.1)
    (λ i y n t. subst (λ (k : ℕ). IsTrue (is_held_of heap.remembered s.name (s.name p) k)) (sym n.0) (covered t)))
