-- What the parts of a heap stand for when an object is born, in the nursery or outside it.
use Rattle.std.proofs.Common.{◌≡◌, ◌≢◌, ℕ, ◌+◌, ◌^◌, ◌<◌, ◌≤◌, ◌⊎◌, Bool, true, false, IsTrue, List, [], ◌∷◌, ◌++◌, map, Option, Some, None, refl, sym, ap, ap₂, ◌∙◌, subst, inl, inr, arith}
use Rattle.std.specs.Prelude.{filter, not, sum_by, slice_set, is_some, ◌==◌, ◌&&◌, if◌then◌else◌}
use Rattle.std.specs.List.{list_any, cons_option}
use Rattle.std.specs.List.Sorted.{IsPermutation}
use Rattle.std.proofs.lemmas.List.Sorted.{IsPermutation-append_left}
use Rattle.std.proofs.lemmas.List.{map-append}
use Rattle.std.proofs.lemmas.Bool.{cases_Bool, ne_eqb}
use Rattle.type_table.specs.declared.info.TypeInfo.{TypeInfo}
use Rattle.type_table.specs.Table.{Table, value_at}
use Rattle.type_table.specs.Words.{words_in}
use Rattle.heap_space.specs.Places.{word_at}
use Rattle.heap_space.specs.Memory.{Memory}
use Rattle.nursery_gaps.specs.Nursery.{Layout as NurseryLayout}
use Rattle.object_header.specs.Words.{has_flag}
use Rattle.object_header.specs.declared.flags.Flag.TheVariants.{Track, Visited, HasShadow, Pinned, HasCards, CardsSet}
use Rattle.object_view.proofs.WordLaws.{updated-here, updated-other}
use Rattle.object_model.proofs.Members.{is_in-head, is_in-tail, is_in-append, is_in-before, is_in-last, map-same, in-left, in-right, in-either, filter-agree}
use Rattle.object_view.proofs.LayoutLaws.{info_at-same}
use Rattle.old_space.specs.declared.Old.{Old}
use Rattle.old_space.specs.HasBlocks.{greatest_small, page_size}
use Rattle.text_model.specs.declared.line.Phase.{Phase}
use Rattle.text_model.specs.declared.line.Phase.TheVariants.{Scanning, Marking, Sweeping, Finalizing}
use Rattle.object_model.specs.Shapes.{is_weak_shape}
use Rattle.object_model.specs.Layout.{Layout, layout_of}
use Rattle.object_model.specs.Object.{Object}
use Rattle.store_model.specs.Store.{Store, husk_words}
use Rattle.object_model.specs.Sets.{is_in}
use Rattle.object_model.specs.Newborn.{Request, newborn}
use Rattle.store_model.specs.Birth.{with_birth, settled_with, fresh_with}
use Rattle.store_model.specs.Roots.{is_kept}
use Rattle.object_model.specs.ObjectWords.{renamed, updated, words_at, info_at, layout_at}
use Rattle.object_model.specs.Holds.{HoldsObjects, IsPointer}
use Rattle.store_model.specs.MarkingOrder.{IsInOrder}
use Rattle.parts_model.specs.Parts.{HeapParts, word_in, home_in}
use Rattle.remember_cards.specs.Remembered.{Held, Remembered, has_any, is_held_whole, has_held_cards, is_held_of}
use Rattle.parts_model.specs.Places.{is_young, young_places, old_places, AreWhole, AreAmong, OfFirsts, RiseBetween, is_weak_at}
use Rattle.parts_model.specs.Nursery.{HoldsNursery, IsUngapped}
use Rattle.parts_model.specs.OldSpace.{HoldsBlocks, reserved_homes, is_waiting}
use Rattle.parts_model.specs.Headers.{IsSettledHeader, IsShadowHeader, IsYoungHeader, is_marked, IsCarded, keeps_cards}
use Rattle.parts_model.specs.Lists.{HoldsSlots}
use Rattle.parts_model.specs.StandsFor.{PartsStandFor}
use Rattle.frame_laws.proofs.Births.{rise-more}
use Rattle.frame_laws.proofs.PlaceLaws.{placed_words, young-is_in, old-is_in, is_in-young, is_in-old, young-more, old-more, young-same, old-same, filter-more, filter-same}
use Rattle.parts_model.proofs.SameLayouts.{sum-same, sum-more}
use Rattle.frame_laws.proofs.KeepWords.{SameWords, firsts-stay, headers_kept, young_flags_kept, remembered_kept, husks_kept}
use Rattle.store_model.proofs.OrderLaws.{plain_in_order}
use Rattle.frame_laws.proofs.RootStands.{slots-set}
use Rattle.store_model.proofs.BirthSound.{sound_born, born_order, kept-in}
use Rattle.birth_laws.proofs.BirthNames.{AgreeOn, entries_agree, finalizers_agree, links_agree, held_agrees}

-- one weak object more, or not
abbrev pub weaks_with : Bool → List ℕ → ℕ → List ℕ
weaks_with true weaks place = weaks ++ place ∷ []
weaks_with false weaks place = weaks

-- the words of the nursery, or of what lies outside it, with so many more
abbrev pub unsettled_with : Bool → ℕ → ℕ → ℕ
unsettled_with true unsettled n = unsettled
unsettled_with false unsettled n = unsettled + n

-- the heap with a new object of so many words at a place, and in a slot
abbrev pub with_born : HeapParts → Memory → NurseryLayout → Old → ℕ → ℕ → TypeInfo → ℕ → HeapParts
with_born heap memory nursery old_blocks place root info n = record heap {
  memory = memory;
  nursery = nursery;
  old_blocks = old_blocks;
  weaks = weaks_with (is_weak_shape info.shape) heap.weaks place;
  slots = slice_set heap.slots root place;
  next = heap.next + 1;
  unsettled = unsettled_with (not (is_young place)) heap.unsettled n;
  old_words = fresh_with (not (is_young place)) heap.old_words n;
  fresh = fresh_with (not (is_young place)) heap.fresh n;
}

-- the first word of an object that is born outside the nursery: all of it counts as written when it is
pub record IsBornOld (card : ℕ) (info : TypeInfo) (refs word : ℕ) : Type 0 where
  pub settled : IsSettledHeader word
  pub not_visited : has_flag word Visited ≡ false
  pub track : has_flag word Track ≡ true
  pub cards : has_flag word HasCards ≡ keeps_cards card info.shape refs
  pub no_cards : has_flag word CardsSet ≡ false

-- and in it
pub record IsBornYoung (word : ℕ) : Type 0 where
  pub young : IsYoungHeader word
  pub not_pinned : has_flag word Pinned ≡ false
  pub no_home : has_flag word HasShadow ≡ false

-- A new object at a place: the words hold it with the others, whose words stay.
pub record IsNew (heap : HeapParts) (store : Store) (s : PartsStandFor heap store) (memory : Memory) (a : ℕ) (info : TypeInfo) (request : Request) : Type 0 where
  pub objects : HoldsObjects heap.setup.types (word_at memory.blocks) (s.places ++ a ∷ []) (s.places ++ a ∷ []) (updated s.name a heap.next) (store.kept ++ newborn store.next info request ∷ [])
  pub whole : AreWhole memory heap.setup.types (s.places ++ a ∷ [])
  pub same : SameWords heap.setup.types (word_at memory.blocks) (word_in heap) (home_in heap) s.places s.husks
  pub info_is : info_at heap.setup.types (word_at memory.blocks) a ≡ info
  pub layout : layout_at heap.setup.types (word_at memory.blocks) a ≡ layout_of info.shape a request.items
  pub size : words_at heap.setup.types (word_at memory.blocks) a ≡ words_in info.shape request.items
  pub unmet : (q : ℕ) → IsTrue (is_in q s.places) → q ≢ a
  pub husk_unmet : (q : ℕ) → IsTrue (is_in q s.husks) → q ≢ a
  pub above : 1 ≤ a

firsts-more : {P : ℕ → ℕ → Type 0} {ps more : List ℕ} {v : ℕ → ℕ} (a : ℕ) → ((p : ℕ) → IsTrue (is_in p more) → (p ≡ a) ⊎ IsTrue (is_in p ps)) → (IsTrue (is_in a more) → P a (v a))
    → OfFirsts P ps v → OfFirsts P more v
firsts-more {P = P} {more = more} {v = v} a cases here h = record {
  each = λ p t. elim (cases p t) [
    | inl e ↦ let Q : ℕ → Type 0 = λ k. P k (v k) in subst Q (sym e) (here (let R : ℕ → Type 0 = λ k. IsTrue (is_in k more) in subst R e t))
    | inr u ↦ h.each p u
  ];
}

-- places of either kind, with one more
pub old-cases : (places : List ℕ) (a p : ℕ) → IsTrue (is_in p (old_places (places ++ a ∷ []))) → (p ≡ a) ⊎ IsTrue (is_in p (old_places places))
old-cases places a p t =
    let o = old-is_in (places ++ a ∷ []) p t in
    elim (is_in-append places a p o.0) [ inl e ↦ inl e | inr u ↦ inr (is_in-old places p u o.1) ]

pub young-cases : (places : List ℕ) (a p : ℕ) → IsTrue (is_in p (young_places (places ++ a ∷ []))) → (p ≡ a) ⊎ IsTrue (is_in p (young_places places))
young-cases places a p t =
    let o = young-is_in (places ++ a ∷ []) p t in
    elim (is_in-append places a p o.0) [ inl e ↦ inl e | inr u ↦ inr (is_in-young places p u o.1) ]

young-in-more : (places : List ℕ) (a : ℕ) → AreAmong (young_places (places ++ a ∷ [])) (young_places places)
young-in-more places a p t = let o = young-is_in places p t in is_in-young (places ++ a ∷ []) p (is_in-before places a p o.0) o.1

old-in-more : (places : List ℕ) (a : ℕ) → AreAmong (old_places (places ++ a ∷ [])) (old_places places)
old-in-more places a p t = let o = old-is_in places p t in is_in-old (places ++ a ∷ []) p (is_in-before places a p o.0) o.1

-- marks under another name
marked-agrees : (phase : Phase) (visited : List ℕ) (other name : ℕ → ℕ) (page : ℕ) (waiting : List ℕ) (p : ℕ) → other p ≡ name p
    → is_marked phase visited name page waiting p ≡ is_marked phase visited other page waiting p
marked-agrees Scanning visited other name page waiting p e = refl
marked-agrees Marking visited other name page waiting p e = ap (λ (b : ℕ). is_in b visited) (sym e)
marked-agrees Sweeping visited other name page waiting p e = refl
marked-agrees Finalizing visited other name page waiting p e = refl

not-marked : (phase : Phase) (visited : List ℕ) (name : ℕ → ℕ) (page : ℕ) (waiting : List ℕ) (p : ℕ) → is_in (name p) visited ≡ false → is_waiting page waiting p ≡ false
    → is_marked phase visited name page waiting p ≡ false
not-marked Scanning visited name page waiting p v w = refl
not-marked Marking visited name page waiting p v w = v
not-marked Sweeping visited name page waiting p v w = w
not-marked Finalizing visited name page waiting p v w = refl

-- nothing of a place is remembered that is none of the settled ones
not-held-any : (ps : List ℕ) (a : ℕ) → ((q : ℕ) → IsTrue (is_in q ps) → q ≢ a) → is_in a ps ≡ false
not-held-any ps a ne = elim (cases_Bool (is_in a ps)) [ inl t ↦ absurd (ne a t refl) | inr f ↦ f ]

weak-more : (weak : Bool) (types : Table TypeInfo) (v : ℕ → ℕ) (places weaks : List ℕ) (a : ℕ) → is_weak_at types v a ≡ weak
    → IsPermutation (filter (is_weak_at types v) places) weaks → IsPermutation (filter (is_weak_at types v) (places ++ a ∷ [])) (weaks_with weak weaks a)
weak-more true types v places weaks a e h =
    subst (λ (xs : List ℕ). IsPermutation xs (weaks ++ a ∷ [])) (sym (filter-more (is_weak_at types v) places a e))
    (IsPermutation-append_left (a ∷ []) (filter (is_weak_at types v) places) weaks h)
weak-more false types v places weaks a e h = subst (λ (xs : List ℕ). IsPermutation xs weaks) (sym (filter-same (is_weak_at types v) places a e)) h

pub none-last : (home : ℕ → Option ℕ) (ps : List ℕ) (a : ℕ) → is_some (home a) ≡ false → reserved_homes home (ps ++ a ∷ []) ≡ reserved_homes home ps
none-last home [] a none = elim (home a) as (λ (o : Option ℕ). is_some o ≡ false → cons_option o [] ≡ []) [
  | None ↦ λ e. refl
  | Some at ↦ λ e. absurd (let no : ⊥ = cc in no)
] none
none-last home (p ∷ ps) a none = ap (λ (xs : List ℕ). cons_option (home p) xs) (none-last home ps a none)

none-of : (a : ℕ) (test : Held → Bool) (hs : List Held) → ((q : ℕ) → IsTrue (is_in q (map (λ h. h.place) hs)) → q ≢ a) → list_any (λ h. h.place == a && test h) hs ≡ false
none-of a test [] ne = refl
none-of a test (h ∷ hs) ne =
    rw (ne_eqb h.place a (ne h.place (is_in-head h.place (map (λ (k : Held). k.place) hs))))
    (none-of a test hs (λ q t. ne q (is_in-tail q h.place (map (λ (k : Held). k.place) hs) t)))

settled-before : {heap : HeapParts} {store : Store} (s : PartsStandFor heap store) (x : ℕ) → IsTrue (is_in x store.settled) → x < heap.next
settled-before {heap = heap} s x t =
    let k = s.sound.settled x t in
    let b = s.sound.births.born x (in-left x (map (λ (o : Object). o.birth) _) _ (kept-in _ x k)) in omega (arith, b.1, s.counts.next_is)

homes-same : (home : ℕ → Option ℕ) (places : List ℕ) (a : ℕ) → is_some (home a) ≡ false → reserved_homes home (young_places places) ≡ reserved_homes home (young_places (places ++ a ∷ []))
homes-same home places a none = elim (cases_Bool (is_young a)) [
  | inl e ↦ sym (ap (λ (ps : List ℕ). reserved_homes home ps) (young-more places a e) ∙ none-last home (young_places places) a none)
  | inr e ↦ ap (λ (ps : List ℕ). reserved_homes home ps) (sym (young-same places a e))
]

-- nothing is remembered of a place that is none of these
not-whole : (remembered : Remembered) (a : ℕ) (ps : List ℕ) → AreAmong ps (map (λ h. h.place) remembered.held) → ((q : ℕ) → IsTrue (is_in q ps) → q ≢ a) → is_held_whole remembered a ≡ false
not-whole remembered a ps there ne = none-of a (λ h. h.is_whole) remembered.held (λ q t. ne q (there q t))

not-carded : (remembered : Remembered) (a : ℕ) (ps : List ℕ) → AreAmong ps (map (λ h. h.place) remembered.held) → ((q : ℕ) → IsTrue (is_in q ps) → q ≢ a) → has_held_cards remembered a ≡ false
not-carded remembered a ps there ne = none-of a (λ h. has_any h.cards) remembered.held (λ q t. ne q (there q t))

-- the slots, one of which gets the new object
slots-born : {slots places : List ℕ} {name other : ℕ → ℕ} {roots a next stored_next : ℕ} {stored : List (Option ℕ)} (root : ℕ) → HoldsSlots slots places name roots stored
    → AgreeOn other name places → AreAmong (places ++ a ∷ []) places → other a ≡ next → IsTrue (is_in a (places ++ a ∷ [])) → 1 ≤ a → stored_next ≡ next
    → HoldsSlots (slice_set slots root a) (places ++ a ∷ []) other roots (slice_set stored root (Some stored_next))
slots-born {slots = slots} {places = places} {name = name} {other = other} {roots = roots} {a = a} {stored = stored} root h agree less here there above next_is =
    let more : HoldsSlots slots (places ++ a ∷ []) other roots stored = record {
      named = h.named ∙ map-same (renamed name) (renamed other) slots (λ p t. pointer-agrees p (h.pointers p t));
      many = h.many;
      pointers = λ p t. elim (h.pointers p t) [ inl e ↦ inl e | inr u ↦ inr (less p u) ];
    } in
    subst (λ (b : Option ℕ). HoldsSlots (slice_set slots root a) (places ++ a ∷ []) other roots (slice_set stored root b))
    (let full : renamed other a ≡ Some (other a) = rw (ne_eqb a 0 (λ z. absurd (let no : ⊥ = omega (arith, above, z) in no))) refl in full ∙ ap Some (here ∙ sym next_is))
    (slots-set root a more (inr there))
  where
    pointer-agrees : (p : ℕ) → IsPointer places p → renamed name p ≡ renamed other p
    pointer-agrees p (inl e) = rw e refl
    pointer-agrees p (inr t) = ap (λ (b : ℕ). if p == 0 then None else Some b) (sym (agree p t))

unsettled-born : (is_old : Bool) (unsettled n before after : ℕ) → unsettled ≡ before → after ≡ unsettled_with is_old before n → unsettled_with is_old unsettled n ≡ after
unsettled-born true unsettled n before after e f = e ∙ sym f
unsettled-born false unsettled n before after e f = ap (λ (k : ℕ). k + n) e ∙ sym f

old-born : (is_old : Bool) (words n husks before after : ℕ) → words ≡ before + husks → after ≡ fresh_with is_old before n → fresh_with is_old words n ≡ after + husks
old-born true words n husks before after e f = omega (arith, e, f)
old-born false words n husks before after e f = omega (arith, e, f)

fresh-born : (is_old : Bool) (fresh words n : ℕ) → fresh ≤ words → fresh_with is_old fresh n ≤ fresh_with is_old words n
fresh-born true fresh words n l = omega (arith, l)
fresh-born false fresh words n l = l

limit-born : (is_old : Bool) (unsettled words n limit : ℕ) → unsettled + words + n ≤ limit → unsettled_with is_old unsettled n + fresh_with is_old words n ≤ limit
limit-born true unsettled words n limit l = omega (arith, l)
limit-born false unsettled words n limit l = omega (arith, l)

-- An object is born at a place, where its first word, the nursery and the blocks are as they must be.
pub birth_stands : (heap : HeapParts) (store : Store) (s : PartsStandFor heap store) (memory : Memory) (nursery : NurseryLayout) (old_blocks : Old) (a : ℕ) (info : TypeInfo) (request : Request)
    → IsNew heap store s memory a info request
    → (is_young a ≡ false → IsBornOld heap.setup.settings.card info (layout_of info.shape a request.items).ref_count (word_at memory.blocks a))
    → (is_young a ≡ true → IsBornYoung (word_at memory.blocks a))
    → HoldsNursery nursery memory heap.setup.types (word_at memory.blocks) (young_places (s.places ++ a ∷ []))
    → HoldsBlocks old_blocks memory heap.setup.types (word_at memory.blocks) (home_in heap) (young_places (s.places ++ a ∷ [])) (old_places (s.places ++ a ∷ [])) s.husks [] s.waiting
    → IsUngapped heap.gapped nursery → (is_young a ≡ false → is_waiting heap.setup.settings.page s.waiting a ≡ false)
    → (nursery.words ≡ heap.nursery.words) × (nursery.pins ≡ heap.nursery.pins)
    → (memory.arena_words ≡ heap.memory.arena_words) × (greatest_small old_blocks ≡ greatest_small heap.old_blocks) × (page_size old_blocks ≡ page_size heap.old_blocks)
    → heap.unsettled + heap.old_words + words_in info.shape request.items ≤ heap.setup.settings.limit → heap.next + 1 < 2 ^ 63
    → ((t : ℕ) → request.target ≡ Some t → IsTrue (is_kept store.kept t))
    → PartsStandFor (with_born heap memory nursery old_blocks a request.slot info (words_in info.shape request.items)) (with_birth (not (is_young a)) store info request)
birth_stands heap store s memory nursery old_blocks a info request new old_first young_first in_nursery in_blocks ungapped unmarked nursery_same made fits next_fits targets =
    let types = heap.setup.types in
    let w : ℕ → ℕ = word_in heap in let v : ℕ → ℕ = word_at memory.blocks in
    let n : ℕ = words_in info.shape request.items in
    let places : List ℕ = s.places ++ a ∷ [] in
    let name : ℕ → ℕ = updated s.name a heap.next in
    let after : Store = with_birth (not (is_young a)) store info request in
    let next_is : store.next ≡ heap.next = s.counts.next_is in
    let agree : AgreeOn name s.name s.places = λ p t. updated-other s.name a heap.next p (new.unmet p t) in
    let less : AreAmong places s.places = λ p t. is_in-before s.places a p t in
    let here : name a ≡ heap.next = updated-here s.name a heap.next a refl in
    let olds : AgreeOn name s.name (old_places s.places) = λ p t. agree p (old-is_in s.places p t).0 in
    let youngs : AgreeOn name s.name (young_places s.places) = λ p t. agree p (young-is_in s.places p t).0 in
    let husk_agree : AgreeOn name s.name s.husks = λ p t. updated-other s.name a heap.next p (new.husk_unmet p t) in
    let kept_headers = headers_kept new.same s.headers in
    let kept_flags = young_flags_kept new.same s.young_flags in
    let kept_remembered = remembered_kept new.same s.remembered in
    let visited_before = firsts-stay v (λ p t. new.same.firsts p (old-is_in s.places p t).0) s.visited in
    let pins_young : AreAmong (young_places s.places) (map (λ entry. entry.0) heap.pins) = s.pins.there in
    let not_pinned : is_in a (map (λ entry. entry.0) heap.pins) ≡ false =
    not-held-any (map (λ (entry : ℕ × ℕ). entry.0) heap.pins) a (λ q t. new.unmet q (young-is_in s.places q (pins_young q t)).0) in
    let no_home : is_some (home_in heap a) ≡ false = elim (home_in heap a) as (λ (o : Option ℕ). home_in heap a ≡ o → is_some o ≡ false) [
      | None ↦ λ e. refl
      | Some at ↦ λ e. absurd (new.unmet a (young-is_in s.places a (s.homes.reserved a at e)).0 refl)
    ] refl in
    let settled : after.settled ≡ map name (old_places places) = elim (cases_Bool (is_young a)) [
      | inl e ↦ ap (λ (b : Bool). settled_with (not b) store.settled store.next) e ∙ (s.births.settled_are ∙ (map-same s.name name (old_places s.places) (λ p t. sym (olds p t)) ∙ ap (map name) (sym (old-same s.places a e))))
      | inr e ↦ ap (λ (b : Bool). settled_with (not b) store.settled store.next) e ∙ (ap₂ (λ (xs : List ℕ) (b : ℕ). xs ++ b ∷ []) (s.births.settled_are ∙ map-same s.name name (old_places s.places) (λ p t. sym (olds p t))) (next_is ∙ sym here)
          ∙ (sym (map-append name (old_places s.places) (a ∷ [])) ∙ ap (map name) (sym (old-more s.places a e))))
    ] in
    let rise : RiseBetween 1 (map name places) (heap.next + 1) =
    subst (λ (xs : List ℕ). RiseBetween 1 xs (heap.next + 1))
    (ap₂ (λ (xs : List ℕ) (b : ℕ). xs ++ b ∷ []) (map-same s.name name s.places (λ p t. sym (agree p t))) (sym here) ∙ sym (map-append name s.places (a ∷ []))) (rise-more 1 heap.next (map s.name s.places) s.births.rise) in
    let before_words = placed_words store.settled s.words.objects s.births.settled_are in
    let later_words = placed_words after.settled new.objects settled in
    let young_sum : sum_by (words_at types v) (young_places places) ≡ unsettled_with (not (is_young a)) (sum_by (words_at types w) (young_places s.places)) n = elim (cases_Bool (is_young a)) [
      | inl e ↦ ap (sum_by (words_at types v)) (young-more s.places a e) ∙ (sum-more types v w (young_places s.places) a n (λ q t. new.same.objects.layouts q (young-is_in s.places q t).0) new.size
          ∙ ap (λ (b : Bool). unsettled_with (not b) (sum_by (words_at types w) (young_places s.places)) n) (sym e))
      | inr e ↦ ap (sum_by (words_at types v)) (young-same s.places a e) ∙ (sum-same types v w (young_places s.places) (λ q t. new.same.objects.layouts q (young-is_in s.places q t).0)
          ∙ ap (λ (b : Bool). unsettled_with (not b) (sum_by (words_at types w) (young_places s.places)) n) (sym e))
    ] in
    let old_sum : sum_by (words_at types v) (old_places places) ≡ fresh_with (not (is_young a)) (sum_by (words_at types w) (old_places s.places)) n = elim (cases_Bool (is_young a)) [
      | inl e ↦ ap (sum_by (words_at types v)) (old-same s.places a e) ∙ (sum-same types v w (old_places s.places) (λ q t. new.same.objects.layouts q (old-is_in s.places q t).0)
          ∙ ap (λ (b : Bool). fresh_with (not b) (sum_by (words_at types w) (old_places s.places)) n) (sym e))
      | inr e ↦ ap (sum_by (words_at types v)) (old-more s.places a e) ∙ (sum-more types v w (old_places s.places) a n (λ q t. new.same.objects.layouts q (old-is_in s.places q t).0) new.size
          ∙ ap (λ (b : Bool). fresh_with (not b) (sum_by (words_at types w) (old_places s.places)) n) (sym e))
    ] in
    let not_visited : is_in (name a) store.visited ≡ false = elim (cases_Bool (is_in (name a) store.visited)) [
      | inr f ↦ f
      | inl t ↦ absurd (let b = settled-before s (name a) (s.order.visited_settled (name a) t) in let no : ⊥ = omega (arith, b, here) in no)
    ] in
    record {
      places = places;
      name = name;
      husks = s.husks;
      waiting = s.waiting;
      words = record {
        objects = new.objects;
        whole = new.whole;
        weak = weak-more (is_weak_shape info.shape) types v s.places heap.weaks a (ap (λ (i : TypeInfo). is_weak_shape i.shape) new.info_is)
            (subst (λ (xs : List ℕ). IsPermutation xs heap.weaks) (filter-agree (is_weak_at types w) (is_weak_at types v) s.places
            (λ p t. sym (ap (λ (i : TypeInfo). is_weak_shape i.shape) (info_at-same types v w p (new.same.objects.layouts p t).type_stays)))) s.words.weak);
        young = in_nursery;
        blocks = in_blocks;
        husk = (let h = husks_kept new.same.objects s.words.husk in record { reads = h.reads; named = λ p t. husk_agree p t ∙ h.named p t; waits = h.waits });
      };
      headers = record {
        settled = firsts-more a (old-cases s.places a) (λ t. (old_first (old-is_in places a t).1).settled) kept_headers.settled;
        husk = kept_headers.husk;
        shadow = subst (λ (xs : List ℕ). OfFirsts (λ p head. IsShadowHeader head) xs v) (homes-same (home_in heap) s.places a no_home) kept_headers.shadow;
        young = firsts-more a (young-cases s.places a) (λ t. (young_first (young-is_in places a t).1).young) kept_headers.young;
      };
      young_flags = record {
        pinned = firsts-more a (young-cases s.places a) (λ t. (young_first (young-is_in places a t).1).not_pinned ∙ sym not_pinned) kept_flags.pinned;
        has_shadow = firsts-more a (young-cases s.places a) (λ t. (young_first (young-is_in places a t).1).no_home ∙ sym no_home) kept_flags.has_shadow;
      };
      visited = firsts-more a (old-cases s.places a)
          (λ t. (old_first (old-is_in places a t).1).not_visited ∙ sym (not-marked heap.phase store.visited name heap.setup.settings.page s.waiting a not_visited (unmarked (old-is_in places a t).1)))
          (record { each = λ p t. visited_before.each p t ∙ marked-agrees heap.phase store.visited name s.name heap.setup.settings.page s.waiting p (olds p t) });
      remembered = record {
        there = λ p t. old-in-more s.places a p (s.remembered.there p t);
        tracked = firsts-more a (old-cases s.places a)
            (λ t. let first = old_first (old-is_in places a t).1 in record {
              track = first.track ∙ ap not (sym (not-whole heap.remembered a (old_places s.places) s.remembered.there (λ q u. new.unmet q (old-is_in s.places q u).0)));
              cards_set = first.no_cards ∙ sym (not-carded heap.remembered a (old_places s.places) s.remembered.there (λ q u. new.unmet q (old-is_in s.places q u).0));
            }) kept_remembered.tracked;
        carded = λ p t. elim (old-cases s.places a p t) [
          | inl e ↦ (let Q : ℕ → Type 0 = λ k. IsCarded types heap.setup.settings.card v k in
              subst Q (sym e) ((old_first (let R : ℕ → Type 0 = λ k. is_young k ≡ false in subst R e (old-is_in places p t).1)).cards
              ∙ ap₂ (λ (i : TypeInfo) (l : Layout). keeps_cards heap.setup.settings.card i.shape l.ref_count) (sym new.info_is) (sym new.layout)))
          | inr u ↦ kept_remembered.carded p u
        ];
      };
      births = record { settled_are = settled; rise = rise; next_high = next_fits };
      slots = slots-born request.slot s.slots agree less here (is_in-last s.places a) new.above next_is;
      pins = entries_agree youngs (young-in-more s.places a) s.pins;
      finalizers = finalizers_agree agree less s.finalizers;
      links = links_agree agree less s.sound.links.rises s.links;
      homes = record {
        told = λ birth at e. elim (s.homes.told birth at e) [
          | inl o ↦ inl (record {
            there = elim (in-either at (old_places s.places) s.husks o.there) [
              | inl t ↦ in-left at (old_places places) s.husks (old-in-more s.places a at t)
              | inr t ↦ in-right at (old_places places) s.husks t
            ];
            named = (elim (in-either at (old_places s.places) s.husks o.there) [ inl t ↦ olds at t | inr t ↦ husk_agree at t ]) ∙ o.named;
          })
          | inr r ↦ inr (record { place = r.place; there = young-in-more s.places a r.place r.there; named = youngs r.place r.there ∙ r.named; reserved = r.reserved })
        ];
        reserved = λ p at e. young-in-more s.places a p (s.homes.reserved p at e);
        known = λ p at e. ap (value_at store.homes) (youngs p (s.homes.reserved p at e)) ∙ s.homes.known p at e;
      };
      gray = λ p t. old-in-more s.places a p (s.gray p t);
      gray_phase = s.gray_phase;
      husk_list = s.husk_list;
      sums = record {
        unsettled_are = unsettled-born (not (is_young a)) heap.unsettled n _ _ (s.sums.unsettled_are ∙ before_words.unsettled) (later_words.unsettled ∙ young_sum);
        old_are = old-born (not (is_young a)) heap.old_words n (husk_words store.husks) _ _ (s.sums.old_are ∙ ap (λ (k : ℕ). k + husk_words store.husks) before_words.settled_are)
            (later_words.settled_are ∙ old_sum);
        fresh_old = fresh-born (not (is_young a)) heap.fresh heap.old_words n s.sums.fresh_old;
        within = limit-born (not (is_young a)) heap.unsettled heap.old_words n heap.setup.settings.limit fits;
      };
      counts = record {
        next_is = ap (λ (k : ℕ). k + 1) next_is;
        threshold_is = s.counts.threshold_is;
        threshold_low = s.counts.threshold_low;
        threshold_high = s.counts.threshold_high;
        fresh_is = ap (λ (k : ℕ). fresh_with (not (is_young a)) k n) s.counts.fresh_is;
        phase_is = s.counts.phase_is;
        gapped_is = s.counts.gapped_is;
      };
      ungapped = ungapped;
      units = s.units;
      made = record {
        ranges = s.made.ranges;
        words = nursery_same.0 ∙ s.made.words;
        pins = nursery_same.1 ∙ s.made.pins;
        card = s.made.card;
        arena = made.0 ∙ s.made.arena;
        small = made.1 ∙ s.made.small;
        page = made.2 ∙ s.made.page;
      };
      order = subst (λ (g : List ℕ). IsInOrder after.kept after.settled store.visited g (is_held_of heap.remembered name) store.unreached) (map-same s.name name heap.gray (λ p t. sym (olds p (s.gray p t))))
          (plain_in_order (born_order s.sound (not (is_young a)) info request targets (is_held_of heap.remembered s.name) (is_held_of heap.remembered name)
          (λ x i. held_agrees heap.remembered name s.name (old_places s.places) x i olds s.remembered.there) s.order.held_settled) s.order);
      sound = sound_born s.sound (not (is_young a)) info request targets;
    }
