-- What is known of pins where a command on them is not refused.
use Rattle.std.proofs.Common.{◌≡◌, ◌≢◌, ℕ, zero, suc, ◌<◌, ◌≤◌, Bool, true, false, IsTrue, nat_eq, nat_lt, List, [], ◌∷◌, map, length, refl, sym, ap, ◌∙◌, subst, inl, inr, arith}
use Rattle.std.specs.Prelude.{not, ◌==◌, if◌then◌else◌}
use Rattle.std.specs.List.{IsDistinct, AllByRecursion, All}
use Rattle.std.proofs.lemmas.List.Elements.{All-head, All-tail}
use Rattle.std.proofs.lemmas.Bool.{cases_Bool, eq-eqb, ne_eqb}
use Rattle.std.proofs.lemmas.Bool.Decides.{eqb_tells}
use Rattle.text_model.specs.declared.command.Command.TheVariants.{Pin, Unpin}
use Rattle.text_model.specs.declared.item.Reason.TheVariants.{NotPinned}
use Rattle.text_model.specs.Range.{is_above}
use Rattle.object_header.specs.Words.{has_flag}
use Rattle.object_header.specs.declared.flags.Flag.TheVariants.{Pinned}
use Rattle.object_model.proofs.Members.{is_in-head, is_in-tail, is_in-cases, is_in-nil}
use Rattle.object_view.proofs.LayoutLaws.{laid_out}
use Rattle.object_view.proofs.SpaceLaws.{lies-at}
use Rattle.object_model.specs.Sets.{is_in}
use Rattle.object_model.specs.ObjectWords.{words_at}
use Rattle.heap_space.specs.Places.{has}
use Rattle.store_model.specs.Store.{Store}
use Rattle.store_model.specs.Identity.{pin_count, has_pin_room}
use Rattle.heap_parts.specs.Parts.{HeapParts, word_in, place_in}
use Rattle.heap_parts.specs.Places.{is_young}
use Rattle.heap_parts.specs.Lists.{named_entries}
use Rattle.heap_parts.specs.StandsFor.{PartsStandFor}
use Rattle.heap_parts.specs.Told.{if_there}
use Rattle.frame_laws.proofs.PlaceLaws.{is_in-young, is_in-old}
use Rattle.frame_laws.proofs.StandLaws.{in_slot}
use Rattle.birth_laws.proofs.BirthNames.{entries-names}
use Rattle.store_model.proofs.PinLaws.{keys}
use Rattle.heap_core.specs.Commands.{AreReady}
use Rattle.heap_core.proofs.Ready.{passed}
use Rattle.heap_core.proofs.FullSlots.{FullSlot, full_slot}

not-false : (b : Bool) → not b ≡ false → b ≡ true
not-false true e = refl
not-false false e = absurd (let no : ⊥ = cc in no)

-- the first word of the object in a slot lies in the memory
pub first_there : (heap : HeapParts) (root : ℕ) → FullSlot heap root → IsTrue (has heap.memory.blocks (place_in heap root))
first_there heap root slot =
    let p : ℕ = place_in heap root in
    lies-at heap.memory.blocks p (words_at heap.setup.types (word_in heap) p) p slot.object.object.whole (omega arith)
    (omega (arith, (laid_out heap.setup.types (word_in heap) p).header))

pub pin_ready : (heap : HeapParts) (root : ℕ) → AreReady heap (Pin root) → FullSlot heap root
pin_ready heap root ready = (full_slot heap root (is_above (Pin root)) _ ready.standing ready.accepted).0

pub unpin_ready : (heap : HeapParts) (root : ℕ) → AreReady heap (Unpin root) → FullSlot heap root
unpin_ready heap root ready = (full_slot heap root (is_above (Unpin root)) _ ready.standing ready.accepted).0

flag-told : (place : ℕ) (b : Bool) → place ≢ 0 → if_there place b ≡ true → b ≡ true
flag-told place b full e = sym (ap (λ (t : Bool). if t then false else b) (ne_eqb place 0 full)) ∙ e

-- the object is pinned
pub flag_ready : (heap : HeapParts) (root : ℕ) → AreReady heap (Unpin root) → has_flag (word_in heap (place_in heap root)) Pinned ≡ true
flag_ready heap root ready =
    let p : ℕ = place_in heap root in
    let slot = full_slot heap root (is_above (Unpin root)) _ ready.standing ready.accepted in
    flag-told p (has_flag (word_in heap p) Pinned) slot.0.full (not-false (if_there p (has_flag (word_in heap p) Pinned)) (passed (not (if_there p (has_flag (word_in heap p) Pinned))) NotPinned _ slot.1).0)

pub pinned_in : (heap : HeapParts) (store : Store) (root : ℕ) (s : PartsStandFor heap store) → place_in heap root ≢ 0 → has_flag (word_in heap (place_in heap root)) Pinned ≡ true
    → IsTrue (is_in (place_in heap root) (keys heap.pins))
pinned_in heap store root s full flag =
    let p : ℕ = place_in heap root in let t = (in_slot heap store root s full).there in
    elim (cases_Bool (is_young p)) [
      | inl young ↦ sym (s.young_flags.pinned.each p (is_in-young s.places p t young)) ∙ flag
      | inr old ↦ (let f = (s.headers.settled.each p (is_in-old s.places p t old)).not_pinned in let no : ⊥ = cc in absurd no)
    ]

abbrev IsCounted : ℕ × ℕ → Type 0
IsCounted entry = (0 < entry.1) × (entry.1 ≤ 65535)

-- what is pinned is pinned at least once
counted-some : (name : ℕ → ℕ) (pins : List (ℕ × ℕ)) (p : ℕ) → All IsCounted (named_entries name pins) → IsTrue (is_in p (keys pins)) → 0 < pin_count pins p
counted-some name [] p all t = absurd (is_in-nil p t)
counted-some name (e ∷ pins) p all t = elim (eqb_tells e.0 p) [
  | inl same ↦ (let here = (All-head IsCounted (name e.0, e.1) (named_entries name pins) all).0 in rw same.0 here)
  | inr differ ↦
      (let rest = All-tail IsCounted (name e.0, e.1) (named_entries name pins) all in
      let more = counted-some name pins p rest (elim (is_in-cases p e.0 (keys pins) t) [ inl z ↦ absurd (differ.1 (sym z)) | inr u ↦ u ]) in
      rw differ.0 more)
]

pub pinned_some : (heap : HeapParts) (root : ℕ) → AreReady heap (Unpin root) → 0 < pin_count heap.pins (place_in heap root)
pinned_some heap root ready =
    let store = ready.standing.store in let s = ready.standing.stands in
    counted-some s.name heap.pins (place_in heap root) (subst (All IsCounted) s.pins.named s.sound.pins.counted)
    (pinned_in heap store root s (unpin_ready heap root ready).full (flag_ready heap root ready))

all-unnamed : (name : ℕ → ℕ) (x : ℕ) (ps : List ℕ) → AllByRecursion (λ y. nat_eq (name x) y ≡ false) (map name ps) → AllByRecursion (λ y. nat_eq x y ≡ false) ps
all-unnamed name x [] all = tt
all-unnamed name x (p ∷ ps) all = (
  ne_eqb x p (λ e. let same : nat_eq (name x) (name p) ≡ true = eq-eqb (name x) (name p) (ap name e) in let apart = all.0 in let no : ⊥ = cc in absurd no),
  all-unnamed name x ps all.1,
)

distinct-unnamed : (name : ℕ → ℕ) (ps : List ℕ) → IsDistinct nat_eq (map name ps) → IsDistinct nat_eq ps
unfolding IsDistinct
distinct-unnamed name [] d = tt
distinct-unnamed name (p ∷ ps) d = (all-unnamed name p ps d.0, distinct-unnamed name ps d.1)

-- each object is pinned once in the list
pub pins_differ : (heap : HeapParts) (store : Store) (s : PartsStandFor heap store) → IsDistinct nat_eq (keys heap.pins)
pins_differ heap store s =
    distinct-unnamed s.name (keys heap.pins) (subst (IsDistinct nat_eq) (ap keys s.pins.named ∙ entries-names s.name heap.pins) s.sound.pins.differ)

-- counts are those of births
pub named-count : (name : ℕ → ℕ) (pins : List (ℕ × ℕ)) (p : ℕ) → ((q : ℕ) → IsTrue (is_in q (keys pins)) → name q ≡ name p → q ≡ p)
    → pin_count (named_entries name pins) (name p) ≡ pin_count pins p
named-count name [] p one = refl
named-count name (e ∷ pins) p one = elim (eqb_tells e.0 p) [
  | inl same ↦ (let named : (name e.0 == name p) ≡ true = eq-eqb (name e.0) (name p) (ap name same.1) in rw (same.0, named) refl)
  | inr differ ↦
      (let named : (name e.0 == name p) ≡ false = ne_eqb (name e.0) (name p) (λ z. differ.1 (one e.0 (is_in-head e.0 (keys pins)) z)) in
      rw (differ.0, named) (named-count name pins p (λ q t z. one q (is_in-tail q e.0 (keys pins) t) z)))
]

length-named : (name : ℕ → ℕ) (pins : List (ℕ × ℕ)) → length (named_entries name pins) ≡ length pins
length-named name [] = refl
length-named name (e ∷ pins) = ap suc (length-named name pins)

pub named-room : (most : ℕ) (name : ℕ → ℕ) (pins : List (ℕ × ℕ)) (n : ℕ) → has_pin_room most (named_entries name pins) n ≡ has_pin_room most pins n
named-room most name pins zero = ap (λ (k : ℕ). nat_lt k most) (length-named name pins)
named-room most name pins (suc n) = refl

-- at most 1,024 objects may be pinned
pub pins_bounded : (heap : HeapParts) (root : ℕ) → AreReady heap (Pin root) → heap.setup.settings.pins ≤ 1024
pins_bounded heap root ready = ready.standing.stands.made.ranges.2.2.2.2.2.2.1
