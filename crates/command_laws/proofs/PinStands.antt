-- An object of the nursery is pinned once more.
use Rattle.std.proofs.Common.{◌≡◌, ◌≢◌, ℕ, Bool, true, false, IsTrue, List, [], ◌∷◌, map, Option, Some, refl, sym, ap, ◌∙◌, subst, inl, inr}
use Rattle.std.specs.Prelude.{not, ◌||◌, ◌==◌, ◌++◌}
use Rattle.std.proofs.lemmas.Bool.{ne_eqb}
use Rattle.type_table.specs.declared.info.TypeInfo.{TypeInfo}
use Rattle.type_table.specs.Table.{Table}
use Rattle.object_header.specs.Words.{has_flag, with_flag}
use Rattle.object_header.specs.declared.flags.Flag.{Flag}
use Rattle.object_header.specs.declared.flags.Flag.TheVariants.{Track, Visited, HasShadow, Pinned, HasCards, CardsSet, Free, Shadow, Order1, Order2}
use Rattle.object_header.proofs.WordLaws.{has_flag-with_flag_same, has_flag-with_flag_other, type_of-with_flag, IsHeader-with_flag}
use Rattle.object_view.proofs.FoundLaws.{found-at, refs-from}
use Rattle.store_model.specs.Store.{Store}
use Rattle.object_model.specs.Object.{object_at}
use Rattle.object_model.specs.Sets.{is_in}
use Rattle.store_model.specs.Slots.{held}
use Rattle.object_model.specs.Fields.{refs_of}
use Rattle.store_model.specs.Roots.{target_in, roots_of}
use Rattle.store_model.specs.Identity.{can_refer, pin_count, pinned_more, has_pin_room, pinned_with}
use Rattle.object_model.specs.ObjectWords.{words_from, renamed, info_at, layout_at, object_from}
use Rattle.parts_model.specs.Parts.{HeapParts, word_in, place_in}
use Rattle.parts_model.specs.Places.{is_young, young_places}
use Rattle.parts_model.specs.Headers.{IsYoungHeader}
use Rattle.parts_model.specs.Lists.{named_entries}
use Rattle.parts_model.specs.StandsFor.{PartsStandFor}
use Rattle.frame_laws.proofs.PlaceLaws.{young-is_in, settled-old, is_in-young}
use Rattle.frame_laws.proofs.StandLaws.{in_slot}
use Rattle.store_model.proofs.RootLaws.{held_root, are_roots, RootChange}
use Rattle.frame_laws.proofs.HeaderLaws.{with_pins, pins_stand}
use Rattle.store_model.proofs.RootChanges.{pins_change}
use Rattle.frame_laws.proofs.PinLaws.{named-more}
use Rattle.store_model.proofs.PinLaws.{keys, more-here, more-cases, more_sound, is_more, no-refs-at, bare-target}

bare-refs : (types : Table TypeInfo) (name w : ℕ → ℕ) (p : ℕ) → can_refer (info_at types w p).shape ≡ false → (object_from types name w p).refs ≡ []
bare-refs types name w p e = refs-from types name w p ∙ ap (λ (k : ℕ). map (renamed name) (words_from w (layout_at types w p).ref_start k)) (no-refs-at types w p e)

pinned-header : (word : ℕ) → IsYoungHeader word → IsYoungHeader (with_flag word Pinned)
pinned-header word h =
    let other : (f : Flag) → f ≢ Pinned → has_flag (with_flag word Pinned) f ≡ has_flag word f = λ f ne. has_flag-with_flag_other word Pinned f ne in
    record {
      live = record {
        header = IsHeader-with_flag word Pinned h.live.header;
        not_free = other Free (λ e. let no : ⊥ = cc in no) ∙ h.live.not_free;
        not_order1 = other Order1 (λ e. let no : ⊥ = cc in no) ∙ h.live.not_order1;
        not_order2 = other Order2 (λ e. let no : ⊥ = cc in no) ∙ h.live.not_order2;
      };
      not_shadow = other Shadow (λ e. let no : ⊥ = cc in no) ∙ h.not_shadow;
      not_track = other Track (λ e. let no : ⊥ = cc in no) ∙ h.not_track;
      not_visited = other Visited (λ e. let no : ⊥ = cc in no) ∙ h.not_visited;
      not_has_cards = other HasCards (λ e. let no : ⊥ = cc in no) ∙ h.not_has_cards;
      not_cards_set = other CardsSet (λ e. let no : ⊥ = cc in no) ∙ h.not_cards_set;
    }

-- The object in a slot is pinned once more, where it can be.
pub pin_stands : (heap : HeapParts) (store : Store) (root : ℕ) (s : PartsStandFor heap store) → place_in heap root ≢ 0 → is_young (place_in heap root) ≡ true
    → can_refer (info_at heap.setup.types (word_in heap) (place_in heap root)).shape ≡ false
    → IsTrue (has_pin_room heap.setup.settings.pins store.pinned (pin_count store.pinned (s.name (place_in heap root))))
    → PartsStandFor (with_pins heap (place_in heap root) (with_flag (word_in heap (place_in heap root)) Pinned) (pinned_more heap.pins (place_in heap root)))
    (record store { pinned = pinned_with true store.pinned (held store.slots root) })
pin_stands heap store root s full young bare room =
    let p : ℕ = place_in heap root in let birth : ℕ = s.name p in
    let types = heap.setup.types in let w : ℕ → ℕ = word_in heap in
    let here = in_slot heap store root s full in
    let there : IsTrue (is_in p (young_places s.places)) = is_in-young s.places p here.there young in
    let one : (q : ℕ) → IsTrue (is_in q (keys heap.pins)) → s.name q ≡ birth → q ≡ p =
    λ q t e. s.words.objects.differ q p (young-is_in s.places q (s.pins.there q t)).0 here.there e in
    let named : named_entries s.name (pinned_more heap.pins p) ≡ pinned_more store.pinned birth =
    named-more s.name heap.pins p one ∙ ap (λ (es : List (ℕ × ℕ)). pinned_more es birth) (sym s.pins.named) in
    let found : object_at store.kept birth ≡ Some (object_from types s.name w p) = found-at p s.words.objects here.there in
    let unsettled : is_in birth store.settled ≡ false = ap (is_in birth) s.births.settled_are ∙ (settled-old s.name s.places p here.there s.words.objects.differ ∙ ap not young) in
    let sound = more_sound birth s.sound.pins room unsettled (ap refs_of found ∙ bare-refs types s.name w p bare) (ap target_in found ∙ bare-target types s.name w p bare) in
    let rooted : (x : ℕ) → IsTrue (is_in x (keys (pinned_more store.pinned birth))) → IsTrue (is_in x (roots_of store)) = λ x t. elim (more-cases store.pinned birth x t) [
      | inl e ↦ subst (λ (k : ℕ). IsTrue (is_in k (roots_of store))) (sym e) (held_root store root birth here.named)
      | inr u ↦ (are_roots store).pin x u
    ] in
    let change = pins_change heap.setup.settings store (pinned_more store.pinned birth) s.sound sound rooted in
    let word : ℕ = w p in
    subst (λ (b : Option ℕ). PartsStandFor (with_pins heap p (with_flag word Pinned) (pinned_more heap.pins p)) (record store { pinned = pinned_with true store.pinned b })) (sym here.named)
    (subst (λ (es : List (ℕ × ℕ)). PartsStandFor (with_pins heap p (with_flag word Pinned) (pinned_more heap.pins p)) (record store { pinned = es })) named
    (pins_stand heap store p (with_flag word Pinned) (pinned_more heap.pins p) s there (type_of-with_flag word Pinned) (pinned-header word (s.headers.young.each p there))
    (has_flag-with_flag_other word Pinned HasShadow (λ e. let no : ⊥ = cc in no))
    (has_flag-with_flag_same word Pinned ∙ sym (more-here heap.pins p))
    (λ q ne. elim (is_more heap.pins p).was [
      | inl old ↦ ap (is_in q) old.1
      | inr new ↦ ap (is_in q) new.2 ∙ last-other (keys heap.pins) p q ne
    ])
    (record {
      named = refl;
      there = λ q t. elim (more-cases heap.pins p q t) [
        | inl e ↦ (let P : ℕ → Type 0 = λ k. IsTrue (is_in k (young_places s.places)) in subst P (sym e) there)
        | inr u ↦ s.pins.there q u
      ];
    })
    (subst (λ (es : List (ℕ × ℕ)). RootChange heap.setup.settings store (record store { pinned = es })) (sym named) change)))
  where
    last-other : (ps : List ℕ) (a q : ℕ) → q ≢ a → is_in q (ps ++ a ∷ []) ≡ is_in q ps
    last-other [] a q ne = (let away : (a == q) ≡ false = ne_eqb a q (λ e. ne (sym e)) in rw away refl)
    last-other (p ∷ ps) a q ne = ap (λ (b : Bool). (p == q) || b) (last-other ps a q ne)
