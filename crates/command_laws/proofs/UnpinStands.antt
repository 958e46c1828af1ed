-- A pinned object has one pin less.
use Rattle.std.proofs.Common.{◌≡◌, ◌≢◌, ℕ, ◌-◌, Bool, true, false, IsTrue, nat_eq, List, Option, refl, sym, ap, ◌∙◌, subst}
use Rattle.std.specs.Prelude.{nat_lt, if◌then◌else◌, ◌%◌}
use Rattle.std.specs.List.{IsDistinct}
use Rattle.object_header.specs.Words.{has_flag, without_flag}
use Rattle.object_header.specs.declared.flags.Flag.{Flag}
use Rattle.object_header.specs.declared.flags.Flag.TheVariants.{Track, Visited, HasShadow, Pinned, HasCards, CardsSet, Free, Shadow, Order1, Order2}
use Rattle.object_header.proofs.WordLaws.{has_flag-without_flag_same, has_flag-without_flag_other, type_of-without_flag, IsHeader-without_flag}
use Rattle.store_model.specs.Store.{Store}
use Rattle.object_model.specs.Sets.{is_in}
use Rattle.store_model.specs.Identity.{pin_count, pinned_less, without_held, unpin_slot}
use Rattle.parts_model.specs.Parts.{HeapParts, word_in, place_in}
use Rattle.parts_model.specs.Places.{young_places}
use Rattle.parts_model.specs.Headers.{IsYoungHeader}
use Rattle.parts_model.specs.Lists.{named_entries}
use Rattle.parts_model.specs.StandsFor.{PartsStandFor}
use Rattle.frame_laws.proofs.PlaceLaws.{young-is_in}
use Rattle.frame_laws.proofs.StandLaws.{in_slot}
use Rattle.store_model.proofs.RootLaws.{are_roots, RootChange}
use Rattle.frame_laws.proofs.HeaderLaws.{with_pins, pins_stand}
use Rattle.store_model.proofs.RootChanges.{pins_change}
use Rattle.frame_laws.proofs.PinLaws.{named-less}
use Rattle.store_model.proofs.PinLaws.{keys, less-in}
use Rattle.store_model.proofs.UnpinLaws.{less_sound, less-here, less-other}

unpinned-header : (word : ℕ) → IsYoungHeader word → IsYoungHeader (without_flag word Pinned)
unpinned-header word h =
    let other : (f : Flag) → f ≢ Pinned → has_flag (without_flag word Pinned) f ≡ has_flag word f = λ f ne. has_flag-without_flag_other word Pinned f ne in
    record {
      live = record {
        header = IsHeader-without_flag word Pinned h.live.header;
        not_free = other Free (λ e. let no : ⊥ = cc in no) ∙ h.live.not_free;
        not_order1 = other Order1 (λ e. let no : ⊥ = cc in no) ∙ h.live.not_order1;
        not_order2 = other Order2 (λ e. let no : ⊥ = cc in no) ∙ h.live.not_order2;
      };
      not_shadow = other Shadow (λ e. let no : ⊥ = cc in no) ∙ h.not_shadow;
      not_track = other Track (λ e. let no : ⊥ = cc in no) ∙ h.not_track;
      not_visited = other Visited (λ e. let no : ⊥ = cc in no) ∙ h.not_visited;
      not_has_cards = other HasCards (λ e. let no : ⊥ = cc in no) ∙ h.not_has_cards;
      not_cards_set = other CardsSet (λ e. let no : ⊥ = cc in no) ∙ h.not_cards_set;
    }

-- the first word of an object with so many pins left
abbrev pub unpinned_word : ℕ → ℕ → ℕ
unpinned_word word left = if nat_lt 0 left then word else without_flag word Pinned

-- what is known of that word
record IsUnpinned (word x : ℕ) (pinned : Bool) : Type 0 where
  type : x % 65536 ≡ word % 65536
  young : IsYoungHeader x
  shadow : has_flag x HasShadow ≡ has_flag word HasShadow
  flag : has_flag x Pinned ≡ pinned

unpinned : (word : ℕ) (more : Bool) → IsYoungHeader word → has_flag word Pinned ≡ true → IsUnpinned word (if more then word else without_flag word Pinned) more
unpinned word true h p = record { type = refl; young = h; shadow = refl; flag = p }
unpinned word false h p = record {
  type = type_of-without_flag word Pinned;
  young = unpinned-header word h;
  shadow = has_flag-without_flag_other word Pinned HasShadow (λ e. let no : ⊥ = cc in no);
  flag = has_flag-without_flag_same word Pinned;
}

-- The pinned object in a slot has one pin less.
pub unpin_stands : (heap : HeapParts) (store : Store) (root : ℕ) (s : PartsStandFor heap store) → place_in heap root ≢ 0 → IsTrue (is_in (place_in heap root) (keys heap.pins))
    → IsDistinct nat_eq (keys heap.pins)
    → PartsStandFor (with_pins heap (place_in heap root) (unpinned_word (word_in heap (place_in heap root)) (pin_count heap.pins (place_in heap root) - 1)) (pinned_less heap.pins (place_in heap root))) (unpin_slot store root)
unpin_stands heap store root s full t distinct =
    let p : ℕ = place_in heap root in let birth : ℕ = s.name p in let word : ℕ = word_in heap p in
    let left : ℕ = pin_count heap.pins p - 1 in
    let here = in_slot heap store root s full in
    let there : IsTrue (is_in p (young_places s.places)) = s.pins.there p t in
    let named : named_entries s.name (pinned_less heap.pins p) ≡ pinned_less store.pinned birth =
    named-less s.name heap.pins p (λ q u e. s.words.objects.differ q p (young-is_in s.places q (s.pins.there q u)).0 here.there e) ∙ ap (λ (es : List (ℕ × ℕ)). pinned_less es birth) (sym s.pins.named) in
    let change = pins_change heap.setup.settings store (pinned_less store.pinned birth) s.sound (less_sound birth s.sound.pins) (λ x u. (are_roots store).pin x (less-in store.pinned birth x u)) in
    let is = unpinned word (nat_lt 0 left) (s.headers.young.each p there) (s.young_flags.pinned.each p there ∙ t) in
    let new : HeapParts = with_pins heap p (unpinned_word word left) (pinned_less heap.pins p) in
    subst (λ (b : Option ℕ). PartsStandFor new (record store { pinned = without_held store.pinned b })) (sym here.named)
    (subst (λ (es : List (ℕ × ℕ)). PartsStandFor new (record store { pinned = es })) named
    (pins_stand heap store p (unpinned_word word left) (pinned_less heap.pins p) s there is.type is.young is.shadow (is.flag ∙ sym (less-here heap.pins p distinct))
    (λ q ne. less-other heap.pins p q ne) (record { named = refl; there = λ q u. s.pins.there q (less-in heap.pins p q u) })
    (subst (λ (es : List (ℕ × ℕ)). RootChange heap.setup.settings store (record store { pinned = es })) (sym named) change)))
