-- Items of a settled object are remembered, and then one is written.
use Rattle.std.proofs.Common.{◌≡◌, ◌≢◌, ℕ, zero, suc, ◌+◌, ◌<◌, ◌≤◌, ◌%◌, Bool, true, false, IsTrue, List, [], ◌∷◌, Option, refl, sym, ap, ◌∙◌, subst, inl, inr, arith}
use Rattle.std.specs.Prelude.{not, ◌==◌, ◌&&◌}
use Rattle.std.specs.List.{list_any}
use Rattle.std.proofs.lemmas.Bool.{cases_Bool, eq-eqb}
use Rattle.std.proofs.lemmas.Bool.Decides.{eqb_tells, nat_tests}
use Rattle.object_header.specs.Words.{IsHeader, has_flag, with_flag, without_flag}
use Rattle.object_header.specs.declared.flags.Flag.{Flag}
use Rattle.object_header.specs.declared.flags.Flag.TheVariants.{Track, Visited, HasShadow, Pinned, HasCards, CardsSet, Free, Shadow, Order1, Order2}
use Rattle.object_header.proofs.WordLaws.{has_flag-with_flag_other, has_flag-without_flag_other, type_of-with_flag, type_of-without_flag, IsHeader-with_flag, IsHeader-without_flag}
use Rattle.object_model.specs.Layout.{Layout}
use Rattle.object_model.specs.Sets.{is_in}
use Rattle.object_model.specs.ObjectWords.{layout_at, words_at}
use Rattle.object_view.proofs.LayoutLaws.{laid_out}
use Rattle.object_view.proofs.SpaceLaws.{lies-at}
use Rattle.remember_cards.specs.Remembered.{Held, holds_item, is_held_of}
use Rattle.remember_cards.specs.Tracking.{IsTracked, items_head}
use Rattle.text_model.specs.declared.command.Command.TheVariants.{Link}
use Rattle.store_model.specs.Store.{Store}
use Rattle.store_model.specs.Slots.{held}
use Rattle.store_model.specs.Steps.{Does, put_ref}
use Rattle.heap_parts.specs.Parts.{HeapParts, word_in, place_in}
use Rattle.heap_parts.specs.Places.{is_young, old_places}
use Rattle.heap_parts.specs.Headers.{IsSettledHeader}
use Rattle.heap_parts.specs.StandsFor.{PartsStandFor}
use Rattle.heap_parts.specs.Effects.{layout_in, ref_place, with_word_at}
use Rattle.heap_parts.specs.Remembers.{CanRemember, RemembersItems}
use Rattle.frame_laws.proofs.PlaceLaws.{old-is_in, is_in-old}
use Rattle.frame_laws.proofs.HeaderLaws.{HeaderIs, header_is}
use Rattle.object_model.proofs.Members.{or_cases, or_first, or_second}
use Rattle.frame_laws.proofs.SlotLaws.{slot-pointer}
use Rattle.frame_laws.proofs.StandLaws.{in_slot, link_stands}
use Rattle.store_model.proofs.RootLaws.{held_root}
use Rattle.frame_laws.proofs.MinorNeeds.{settled_place}
use Rattle.command_laws.proofs.RememberStands.{remember_stands}
use Rattle.heap_core.specs.Commands.{AreReady, PartsDo}
use Rattle.heap_core.proofs.Ready.{HasRef, link_ready}
use Rattle.heap_core.proofs.SlotCalls.{slot-holds}

-- a first word of which only the flags of remembering changed
pub record HeadKeeps (word head : ℕ) : Type 0 where
  pub typed : head % 65536 ≡ word % 65536
  pub settled : IsSettledHeader head
  pub visited : has_flag head Visited ≡ has_flag word Visited
  pub cards : has_flag head HasCards ≡ has_flag word HasCards

flags-keep : (word head : ℕ) → ((f : Flag) → f ≢ Track → f ≢ CardsSet → has_flag head f ≡ has_flag word f) → IsHeader head → head % 65536 ≡ word % 65536
    → IsSettledHeader word → HeadKeeps word head
flags-keep word head same header typed h = record {
  typed = typed;
  settled = record {
    live = record {
      header = header;
      not_free = same Free (λ e. let no : ⊥ = cc in no) (λ e. let no : ⊥ = cc in no) ∙ h.live.not_free;
      not_order1 = same Order1 (λ e. let no : ⊥ = cc in no) (λ e. let no : ⊥ = cc in no) ∙ h.live.not_order1;
      not_order2 = same Order2 (λ e. let no : ⊥ = cc in no) (λ e. let no : ⊥ = cc in no) ∙ h.live.not_order2;
    };
    not_shadow = same Shadow (λ e. let no : ⊥ = cc in no) (λ e. let no : ⊥ = cc in no) ∙ h.not_shadow;
    not_has_shadow = same HasShadow (λ e. let no : ⊥ = cc in no) (λ e. let no : ⊥ = cc in no) ∙ h.not_has_shadow;
    not_pinned = same Pinned (λ e. let no : ⊥ = cc in no) (λ e. let no : ⊥ = cc in no) ∙ h.not_pinned;
  };
  visited = same Visited (λ e. let no : ⊥ = cc in no) (λ e. let no : ⊥ = cc in no);
  cards = same HasCards (λ e. let no : ⊥ = cc in no) (λ e. let no : ⊥ = cc in no);
}

pub head_keeps : (word count : ℕ) → IsSettledHeader word → HeadKeeps word (items_head word count)
head_keeps word zero h = flags-keep word word (λ g t s. refl) h.live.header refl h
head_keeps word (suc n) h = elim (cases_Bool (has_flag word HasCards)) [
  | inl e ↦ elim (cases_Bool (has_flag word Track)) [
    | inl f ↦
        let is : items_head word (suc n) ≡ with_flag word CardsSet = rw (e, f) refl in
        subst (HeadKeeps word) (sym is) (flags-keep word (with_flag word CardsSet) (λ g t s. has_flag-with_flag_other word CardsSet g s)
        (IsHeader-with_flag word CardsSet h.live.header) (type_of-with_flag word CardsSet) h)
    | inr f ↦
        let is : items_head word (suc n) ≡ word = rw (e, f) refl in
        subst (HeadKeeps word) (sym is) (flags-keep word word (λ g t s. refl) h.live.header refl h)
  ]
  | inr e ↦
      let is : items_head word (suc n) ≡ without_flag word Track = rw e refl in
      subst (HeadKeeps word) (sym is) (flags-keep word (without_flag word Track) (λ g t s. has_flag-without_flag_other word Track g t)
      (IsHeader-without_flag word Track h.live.header) (type_of-without_flag word Track) h)
]

-- the flags of a settled object tell what is remembered of it
pub can_remember : {heap : HeapParts} {store : Store} (s : PartsStandFor heap store) (p item count : ℕ) → IsTrue (is_in p (old_places s.places))
    → item + count ≤ 33554432 → CanRemember heap p item count
can_remember {heap = heap} s p item count t few = record {
  there = lies-at heap.memory.blocks p (words_at heap.setup.types (word_in heap) p) p (s.words.whole p (old-is_in s.places p t).0).whole (omega arith)
      (omega (arith, (laid_out heap.setup.types (word_in heap) p).header));
  tracked = s.remembered.tracked.each p t;
  items_small = omega (arith, few);
}

module _ {heap new : HeapParts} {store : Store} (s : PartsStandFor heap store) (p item count : ℕ) (t : IsTrue (is_in p (old_places s.places)))
    (r : RemembersItems heap new p item count) where
  keeps : HeadKeeps (word_in heap p) (items_head (word_in heap p) count)
  keeps = head_keeps (word_in heap p) count (s.headers.settled.each p t)

  is : HeaderIs heap store s p (items_head (word_in heap p) count)
  is = header_is heap store s p (items_head (word_in heap p) count) (old-is_in s.places p t).0 keeps.typed keeps.settled.live.header

  -- the parts stand for the same stores
  pub items_remembered : PartsStandFor new store
  items_remembered = subst (λ (h : HeapParts). PartsStandFor h store) (sym r.only)
      (remember_stands heap store p (items_head (word_in heap p) count) new.remembered s t keeps.typed keeps.settled keeps.visited keeps.cards
      (subst (IsTracked new.remembered p) (ap (λ (h : HeapParts). word_in h p) r.only ∙ is.here) r.tracked) r.more)

  -- and the parts of each object lie where they lay
  pub layout_remembered : (q : ℕ) → IsTrue (is_in q s.places) → layout_at new.setup.types (word_in new) q ≡ layout_at heap.setup.types (word_in heap) q
  layout_remembered q u = ap (λ (h : HeapParts). layout_at h.setup.types (word_in h) q) r.only ∙ (is.same.layouts q u).layout_stays

-- what is remembered of a place is remembered of its name
pub named-held : (card : ℕ) (hs : List Held) (name : ℕ → ℕ) (p i : ℕ) → IsTrue (list_any (λ h. h.place == p && holds_item card h i) hs)
    → IsTrue (list_any (λ h. name h.place == name p && holds_item card h i) hs)
named-held card [] name p i t = t
named-held card (h ∷ hs) name p i t = elim (or_cases (h.place == p && holds_item card h i) (list_any (λ g. g.place == p && holds_item card g i) hs) t) [
  | inl here ↦ or_first (name h.place == name p && holds_item card h i) (list_any (λ g. name g.place == name p && holds_item card g i) hs)
      (elim (eqb_tells h.place p) [
        | inl e ↦ rw (eq-eqb (name h.place) (name p) (ap name e.1)) (subst (λ (b : Bool). IsTrue (b && holds_item card h i)) e.0 here)
        | inr e ↦ absurd (let f : (h.place == p && holds_item card h i) ≡ false = rw e.0 refl in let no : ⊥ = cc in no)
      ])
  | inr there ↦ or_second (name h.place == name p && holds_item card h i) (list_any (λ g. name g.place == name p && holds_item card g i) hs) (named-held card hs name p i there)
]

-- the settled object in a slot
pub old_in_slot : (heap : HeapParts) (store : Store) (root : ℕ) (s : PartsStandFor heap store) → place_in heap root ≢ 0 → 4294967296 ≤ place_in heap root
    → IsTrue (is_in (place_in heap root) (old_places s.places))
old_in_slot heap store root s full high =
    let old : is_young (place_in heap root) ≡ false = grind (arith, nat_tests) in
    is_in-old s.places (place_in heap root) (in_slot heap store root s full).there old

-- A reference of the object of the nursery in a slot is written.
link_young : (heap : HeapParts) (store : Store) (root item from : ℕ) (s : PartsStandFor heap store) → place_in heap root ≢ 0 → place_in heap root < 4294967296
    → item < (layout_in heap root).ref_count
    → PartsStandFor (with_word_at heap (ref_place heap root item) (place_in heap from)) (put_ref store root item (held store.slots from))
link_young heap store root item from s full low l =
    let p : ℕ = place_in heap root in
    let young : is_young p ≡ true = grind (arith, nat_tests) in
    let unsettled : is_in (s.name p) store.settled ≡ false = settled_place heap store s p (in_slot heap store root s full).there ∙ ap not young in
    let named = slot-holds heap store from s in
    subst (λ (b : Option ℕ). PartsStandFor (with_word_at heap (ref_place heap root item) (place_in heap from)) (put_ref store root item b)) (sym named)
    (link_stands heap store root item (place_in heap from) s full l (slot-pointer heap.slots s.places from s.slots.pointers)
    (λ y e. let leads = held_root store from y (named ∙ e) in record { is_there = s.sound.roots y leads; reached = s.sound.roots_reached y leads; retained = s.sound.roots_retained y leads })
    (λ u. absurd (let no : ⊥ = cc in no)))

-- A reference of the settled object in a slot is written, after it was remembered.
link_old : (heap new : HeapParts) (store : Store) (root item from : ℕ) (s : PartsStandFor heap store) → place_in heap root ≢ 0
    → IsTrue (is_in (place_in heap root) (old_places s.places)) → item < (layout_in heap root).ref_count → RemembersItems heap new (place_in heap root) item 1
    → PartsStandFor (with_word_at new (ref_place new root item) (place_in new from)) (put_ref store root item (held store.slots from))
link_old heap new store root item from s full t l r =
    let p : ℕ = place_in heap root in
    let after = items_remembered s p item 1 t r in
    let same_root : place_in new root ≡ p = ap (λ (h : HeapParts). place_in h root) r.only in
    let layout : layout_in new root ≡ layout_in heap root = ap (λ (q : ℕ). layout_at new.setup.types (word_in new) q) same_root ∙ layout_remembered s p item 1 t r p (old-is_in s.places p t).0 in
    let named = slot-holds new store from after in
    let covered : IsTrue (is_held_of new.remembered after.name (after.name (place_in new root)) item) =
    subst (λ (q : ℕ). IsTrue (is_held_of new.remembered after.name (after.name q) item)) (sym same_root)
    (named-held new.remembered.card new.remembered.held after.name p item (r.covered item (omega arith) (omega arith))) in
    subst (λ (b : Option ℕ). PartsStandFor (with_word_at new (ref_place new root item) (place_in new from)) (put_ref store root item b)) (sym named)
    (link_stands new store root item (place_in new from) after (λ e. full (sym same_root ∙ e)) (subst (λ (k : Layout). item < k.ref_count) (sym layout) l)
    (slot-pointer new.slots after.places from after.slots.pointers)
    (λ y e. let leads = held_root store from y (named ∙ e) in record { is_there = s.sound.roots y leads; reached = s.sound.roots_reached y leads; retained = s.sound.roots_retained y leads })
    (λ u. covered))

-- what the code asks before it writes
pub link_can : (heap : HeapParts) (root item from : ℕ) → AreReady heap (Link root item from) → 4294967296 ≤ place_in heap root → item ≤ 16777216
    → CanRemember heap (place_in heap root) item 1
link_can heap root item from ready high few =
    let has = link_ready heap root item from ready in let s = ready.standing.stands in
    can_remember s (place_in heap root) item 1 (old_in_slot heap ready.standing.store root s has.full high) (omega (arith, few))

-- the parts of the object lie where they lay after it was remembered
pub link_layout_after : (heap new : HeapParts) (root item from : ℕ) → AreReady heap (Link root item from) → 4294967296 ≤ place_in heap root
    → RemembersItems heap new (place_in heap root) item 1 → layout_in new root ≡ layout_in heap root
link_layout_after heap new root item from ready high r =
    let s = ready.standing.stands in let p : ℕ = place_in heap root in
    let t = old_in_slot heap ready.standing.store root s (link_ready heap root item from ready).full high in
    let same_root : place_in new root ≡ p = ap (λ (h : HeapParts). place_in h root) r.only in
    ap (λ (q : ℕ). layout_at new.setup.types (word_in new) q) same_root ∙ layout_remembered s p item 1 t r p (old-is_in s.places p t).0

-- and it can be written
pub link_ready_after : (heap new : HeapParts) (root item from : ℕ) → AreReady heap (Link root item from) → 4294967296 ≤ place_in heap root
    → RemembersItems heap new (place_in heap root) item 1 → HasRef new root item
link_ready_after heap new root item from ready high r =
    let has = link_ready heap root item from ready in let s = ready.standing.stands in let p : ℕ = place_in heap root in
    let t = old_in_slot heap ready.standing.store root s has.full high in
    let after = items_remembered s p item 1 t r in
    let same_root : place_in new root ≡ p = ap (λ (h : HeapParts). place_in h root) r.only in
    let layout : layout_in new root ≡ layout_in heap root = ap (λ (q : ℕ). layout_at new.setup.types (word_in new) q) same_root ∙ layout_remembered s p item 1 t r p (old-is_in s.places p t).0 in
    let full : place_in new root ≢ 0 = λ e. has.full (sym same_root ∙ e) in record {
      full = full;
      object = record {
        slot = (let slot = has.object.slot in let many = s.slots.many in let many_after = after.slots.many in let setup = ap (λ (h : HeapParts). h.setup.settings.roots) r.only in omega (arith, slot, many, many_after, setup));
        object = after.words.whole (place_in new root) (in_slot new ready.standing.store root after full).there;
      };
      item_in = subst (λ (k : Layout). item < k.ref_count) (sym layout) has.item_in;
    }

pub link_young_does : (heap : HeapParts) (root item from : ℕ) → AreReady heap (Link root item from) → place_in heap root < 4294967296
    → PartsDo heap (with_word_at heap (ref_place heap root item) (place_in heap from)) (Link root item from) []
unfolding Does
link_young_does heap root item from ready low =
    let has = link_ready heap root item from ready in record {
      setup = refl;
      does = λ store s. (put_ref store root item (held store.slots from), (refl, refl), link_young heap store root item from s has.full low has.item_in);
    }

pub link_old_does : (heap new : HeapParts) (root item from : ℕ) → AreReady heap (Link root item from) → 4294967296 ≤ place_in heap root
    → RemembersItems heap new (place_in heap root) item 1
    → PartsDo heap (with_word_at new (ref_place new root item) (place_in heap from)) (Link root item from) []
unfolding Does
link_old_does heap new root item from ready high r =
    let has = link_ready heap root item from ready in
    let same_from : place_in new from ≡ place_in heap from = ap (λ (h : HeapParts). place_in h from) r.only in
    subst (λ (to : ℕ). PartsDo heap (with_word_at new (ref_place new root item) to) (Link root item from) []) same_from (record {
      setup = ap (λ (h : HeapParts). h.setup) r.only;
      does = λ store s. (
        put_ref store root item (held store.slots from),
        (refl, refl),
        link_old heap new store root item from s has.full (old_in_slot heap store root s has.full high) has.item_in r,
      );
    })
