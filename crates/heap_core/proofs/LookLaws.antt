-- A look at a store that the parts of a heap stand for sees what they tell.
use Rattle.std.proofs.Common.{◌≡◌, ◌≢◌, ℕ, ◌+◌, Bool, true, false, IsTrue, List, [], ◌∷◌, ◌++◌, map, Option, Some, None, option_map, refl, sym, ap, ap₂, ◌∙◌, subst, inl, inr, arith}
use Rattle.std.specs.Prelude.{is_some, option_and_then}
use Rattle.std.proofs.lemmas.Bool.{cases_Bool}
use Rattle.std.proofs.lemmas.Bool.Decides.{eqb_tells}
use Rattle.type_table.specs.declared.info.TypeInfo.{TypeInfo}
use Rattle.type_table.specs.Table.{Table, KeysRise, value_at}
use Rattle.object_header.specs.Words.{has_flag}
use Rattle.object_header.specs.declared.flags.Flag.TheVariants.{Pinned}
use Rattle.object_model.specs.Object.{Object, object_at}
use Rattle.object_model.specs.Sets.{is_in}
use Rattle.object_model.specs.Shapes.{kind_of}
use Rattle.object_model.specs.ObjectWords.{renamed, object_from}
use Rattle.object_model.specs.Holds.{HoldsObjects, IsPointer}
use Rattle.object_view.proofs.FoundLaws.{found-at, length-ints, length-refs}
use Rattle.store_model.specs.Store.{Store, Struct, Linked, Unlinked, Pending, counted_words}
use Rattle.store_model.specs.Slots.{held, kind_in}
use Rattle.store_model.specs.Roots.{pinned_births, registered_births}
use Rattle.store_model.specs.Sound.{waiting_births}
use Rattle.store_model.specs.StructChecks.{has_p_link, is_p_link_of}
use Rattle.store_model.specs.Structs.{state_of, p_link_of, with_object}
use Rattle.store_model.specs.Look.{look, is_held_in}
use Rattle.heap_parts.specs.Parts.{HeapParts, word_in, place_in, pinned_places}
use Rattle.heap_parts.specs.NamedFinals.{final_births}
use Rattle.heap_parts.specs.Registers.{is_final}
use Rattle.heap_parts.specs.Places.{is_young}
use Rattle.heap_parts.specs.StandsFor.{PartsStandFor}
use Rattle.heap_parts.specs.Told.{kind_from, kind_at, if_there, has_p_link_at, told}
use Rattle.frame_laws.proofs.PlaceLaws.{placed_words, is_in-young, is_in-old, young-is_in}
use Rattle.frame_laws.proofs.SlotLaws.{slot-pointer, pointer-some}
use Rattle.store_model.proofs.StructLaws.{value_at-objects}
use Rattle.birth_laws.proofs.BirthNames.{entries-names, rises-unnamed}
use Rattle.command_laws.proofs.ToldLaws.{in-named, p_link-named}
use Rattle.heap_core.proofs.SlotCalls.{slot-holds}

-- the kind of an object is read from its words
kind_of-read : (types : Table TypeInfo) (name word : ℕ → ℕ) (p : ℕ) → kind_of (object_from types name word p) ≡ kind_from types word p
unfolding object_from
kind_of-read types name word p =
    ap₂ (λ (ints refs : ℕ). record (kind_from types word p) { ints = ints; refs = refs })
    (length-ints types name word p) (length-refs types name word p)

kind-at : {types : Table TypeInfo} {word name : ℕ → ℕ} {places : List ℕ} {kept : List Object}
    → HoldsObjects types word places places name kept → (place : ℕ) → IsPointer places place
    → option_map kind_of (option_and_then (object_at kept) (renamed name place)) ≡ kind_at types word place
kind-at {types = types} {word = word} {name = name} {places = places} holds place pointer = elim (eqb_tells place 0) [
  | inl e ↦ rw e.0 refl
  | inr e ↦ rw e.0 (ap (option_map kind_of) (found-at place holds (pointer-some places place pointer e.1)) ∙ ap Some (kind_of-read types name word place))
]

-- what is told of the birth that a slot holds is told of the place
held-by : (name : ℕ → ℕ) (place : ℕ) (births : List ℕ) (b : Bool) → (place ≢ 0 → is_in (name place) births ≡ b)
    → is_held_in (renamed name place) births ≡ if_there place b
held-by name place births b here = elim (eqb_tells place 0) [
  | inl e ↦ rw e.0 refl
  | inr e ↦ rw e.0 (here e.1)
]

linked-by : (name : ℕ → ℕ) (place : ℕ) (structs : Table Struct) (b : Bool) → (place ≢ 0 → has_p_link structs (Some (name place)) ≡ b) → has_p_link structs None ≡ false
    → has_p_link structs (renamed name place) ≡ if_there place b
linked-by name place structs b here none = elim (eqb_tells place 0) [
  | inl e ↦ rw e.0 none
  | inr e ↦ rw e.0 (here e.1)
]

no-p_link : (structs : Table Struct) → has_p_link structs None ≡ false
no-p_link [] = refl
no-p_link (entry ∷ structs) = no-p_link structs

some-p_link : (structs : Table Struct) (birth : ℕ) → has_p_link structs (Some birth) ≡ is_some (p_link_of structs birth)
some-p_link [] birth = refl
some-p_link (entry ∷ structs) birth = elim (cases_Bool (is_p_link_of (Some birth) entry.1)) [
  | inl t ↦ rw t refl
  | inr f ↦ rw f (some-p_link structs birth)
]

-- the state of a structure does not depend on the name of its object
same-state : (rename : ℕ → ℕ) (found : Option Struct) → state_of (option_map (with_object rename) found) ≡ state_of found
same-state rename None = refl
same-state rename (Some (Linked p light object own)) = refl
same-state rename (Some (Unlinked own)) = refl
same-state rename (Some Pending) = refl

module _ (heap : HeapParts) (store : Store) (s : PartsStandFor heap store) where
  kinds : (root : ℕ) → kind_in store.slots store.kept root ≡ kind_at heap.setup.types (word_in heap) (place_in heap root)
  kinds root = ap (λ (b : Option ℕ). option_map kind_of (option_and_then (object_at store.kept) b)) (slot-holds heap store root s)
      ∙ kind-at s.words.objects (place_in heap root) (slot-pointer heap.slots s.places root s.slots.pointers)

  there : (root : ℕ) → place_in heap root ≢ 0 → IsTrue (is_in (place_in heap root) s.places)
  there root full = pointer-some s.places (place_in heap root) (slot-pointer heap.slots s.places root s.slots.pointers) full

  pinned-place : (p : ℕ) → IsTrue (is_in p s.places) → is_in p (pinned_places heap) ≡ has_flag (word_in heap p) Pinned
  pinned-place p t = elim (cases_Bool (is_young p)) [
    | inl young ↦ sym (s.young_flags.pinned.each p (is_in-young s.places p t young))
    | inr old ↦ elim (cases_Bool (is_in p (pinned_places heap))) [
      | inl in_pins ↦ absurd (let yes : is_young p ≡ true = (young-is_in s.places p (s.pins.there p in_pins)).1 in let no : ⊥ = cc in no)
      | inr out ↦ out ∙ sym (s.headers.settled.each p (is_in-old s.places p t old)).not_pinned
    ]
  ]

  pinned : (root : ℕ) → is_held_in (held store.slots root) (pinned_births store) ≡ if_there (place_in heap root) (has_flag (word_in heap (place_in heap root)) Pinned)
  pinned root =
      let p : ℕ = place_in heap root in
      let births : pinned_births store ≡ map s.name (pinned_places heap) = ap (λ (es : List (ℕ × ℕ)). map (λ entry. entry.0) es) s.pins.named ∙ entries-names s.name heap.pins in
      ap (λ (b : Option ℕ). is_held_in b (pinned_births store)) (slot-holds heap store root s)
      ∙ held-by s.name p (pinned_births store) (has_flag (word_in heap p) Pinned) (λ full.
      ap (is_in (s.name p)) births ∙ (in-named s.name s.places p (pinned_places heap) s.words.objects.differ (there root full) (λ q u. (young-is_in s.places q (s.pins.there q u)).0)
      ∙ pinned-place p (there root full)))

  registered : (root : ℕ) → is_held_in (held store.slots root) (registered_births store ++ waiting_births store) ≡ if_there (place_in heap root) (is_final heap (place_in heap root))
  registered root =
      let p : ℕ = place_in heap root in let births : List ℕ = registered_births store ++ waiting_births store in
      let known : final_births heap.finals ≡ births = ap final_births s.finalizers.births_are in
      ap (λ (b : Option ℕ). is_held_in b births) (slot-holds heap store root s)
      ∙ held-by s.name p births (is_final heap p) (λ full.
      ap (is_in (s.name p)) (sym known) ∙ ap (λ (b : ℕ). is_in b (final_births heap.finals)) (s.words.objects.named p (there root full)))

  linked : (root : ℕ) → has_p_link store.structs (held store.slots root) ≡ if_there (place_in heap root) (has_p_link_at heap (place_in heap root))
  linked root =
      let p : ℕ = place_in heap root in
      ap (λ (b : Option ℕ). has_p_link store.structs b) (slot-holds heap store root s)
      ∙ linked-by s.name p store.structs (has_p_link_at heap p) (λ full.
      some-p_link store.structs (s.name p)
      ∙ (ap (λ (t : Table Struct). is_some (p_link_of t (s.name p))) s.links.named
      ∙ ap (λ (o : Option ℕ). is_some o) (p_link-named s.name s.places p heap.links.structs s.words.objects.differ (there root full)
      (rises-unnamed s.name heap.links.structs (subst (λ (t : Table Struct). KeysRise t) s.links.named s.sound.links.rises)) s.links.there)))
      (no-p_link store.structs)

  structures : (number : ℕ) → state_of (value_at store.structs number) ≡ state_of (value_at heap.links.structs number)
  structures number =
      ap (λ (t : Table Struct). state_of (value_at t number)) s.links.named
      ∙ (ap state_of (value_at-objects s.name heap.links.structs number) ∙ same-state s.name (value_at heap.links.structs number))

  pub look_told : look store ≡ told heap
  look_told = λ i. record {
    kind = λ root. kinds root i;
    is_pinned = λ root. pinned root i;
    was_registered = λ root. registered root i;
    has_p_link = λ root. linked root i;
    structure = λ number. structures number i;
  }

  -- all words of objects and husks
  pub counted_told : heap.unsettled + heap.old_words ≡ counted_words store
  counted_told =
      let words = placed_words store.settled s.words.objects s.births.settled_are in
      omega (arith, words.all, words.unsettled, words.settled_are, s.sums.unsettled_are, s.sums.old_are)
