-- Slots are followed, one behind another.
use Rattle.std.proofs.Common.{◌≡◌, ◌≢◌, ℕ, zero, suc, ◌+◌, ◌<◌, ◌≤◌, Bool, true, false, IsTrue, List, [], ◌∷◌, map, length, Option, Some, None, slice_get, refl, sym, ap, ◌∙◌, subst, inl, inr, arith}
use Rattle.std.specs.Prelude.{◌&&◌, ◌==◌, not, filter_map, slice_set, slice_index_or}
use Rattle.std.proofs.lemmas.Bool.{ne_eqb}
use Rattle.std.proofs.lemmas.Bool.Decides.{eqb_tells}
use Rattle.std.proofs.lemmas.Option.{slice_get-get_or}
use Rattle.object_model.specs.Sets.{is_in}
use Rattle.object_model.specs.ObjectWords.{renamed}
use Rattle.object_model.specs.Holds.{IsPointer}
use Rattle.object_model.proofs.Members.{is_in-head, is_in-tail, and_both, or_first, in-left}
use Rattle.store_model.specs.Roots.{roots_of}
use Rattle.store_model.specs.Reach.{is_root}
use Rattle.store_model.specs.MinorCollection.{is_unsettled, refers_unsettled}
use Rattle.store_model.proofs.Rounds.{LeadsTo-start}
use Rattle.heap_parts.specs.Parts.{HeapParts, place_in, pinned_places}
use Rattle.heap_parts.specs.Effects.{with_slot}
use Rattle.frame_laws.proofs.SlotLaws.{slot-pointer}
use Rattle.store_model.specs.Store.{Store}
use Rattle.heap_space.specs.Extents.{Extent}
use Rattle.minor_collect.specs.Carried.{Moved}
use Rattle.minor_collect.proofs.OpenStep.{midway_follows}
use Rattle.minor_collect.specs.declared.work.Moving.{Moving}
use Rattle.minor_collect.specs.Midway.{Midway, Changing, Placing, Owes, IsLasting}
use Rattle.minor_collect.specs.Calls.{Stage, Spot, MayBeFound, Standing, Followed, CanFollow, CanFollowSlot, CanFollowLists, FollowedSlot, FollowedSlots, without_slot, is_entry_at}
use Rattle.minor_collect.proofs.FollowLaws.{grows_none, adds_none}
use Rattle.minor_collect.proofs.GrowLaws.{grows_twice, adds_twice}
use Rattle.minor_collect.proofs.ListSteps.{midway_lists, slot_holds, slot_followed, set-length}

-- a middle does not ask what slots owe
midway-owes : {start : HeapParts} {store : Store} {remembered : ℕ → ℕ → Bool} {now : Changing} {placing : Placing} {todo held left : List ℕ} {owes : Owes} {moved : Moved} {taken : List Extent} (root : ℕ)
    → Midway start store remembered now placing todo held left owes moved taken → Midway start store remembered now placing todo held left (without_slot owes root) moved taken
midway-owes root mid = midway_follows mid (record {
  trace = mid.follows.trace;
  todo_old = mid.follows.todo_old;
  lasts = mid.follows.lasts;
  waits = mid.follows.waits;
  gone = mid.follows.gone;
  looked = mid.follows.looked;
})

-- what a slot holds is there among what slots hold
slot-there : (name : ℕ → ℕ) (slots : List ℕ) (k x : ℕ) → slice_get slots k ≡ Some x → x ≢ 0 → IsTrue (is_in (name x) (filter_map (λ (slot : Option ℕ). slot) (map (renamed name) slots)))
slot-there name [] k x e ne = absurd (let no : ⊥ = cc in no)
slot-there name (z ∷ slots) zero x e ne =
    let is : z ≡ x = cc in
    let named : renamed name z ≡ Some (name x) = ap (renamed name) is ∙ (let f : renamed name x ≡ Some (name x) = rw (ne_eqb x 0 ne) refl in f) in
    rw named (is_in-head (name x) (filter_map (λ (slot : Option ℕ). slot) (map (renamed name) slots)))
slot-there name (z ∷ slots) (suc k) x e ne = behind (renamed name z) (slot-there name slots k x e ne)
  where
    behind : (first : Option ℕ) → IsTrue (is_in (name x) (filter_map (λ (slot : Option ℕ). slot) (map (renamed name) slots))) → IsTrue (is_in (name x) (filter_map (λ (slot : Option ℕ). slot) (first ∷ map (renamed name) slots)))
    behind None t = t
    behind (Some y) t = is_in-tail (name x) y (filter_map (λ (slot : Option ℕ). slot) (map (renamed name) slots)) t

-- a root may be found
pub root_may : (stage : Stage) (x : ℕ) → IsTrue (is_in x (roots_of stage.store)) → MayBeFound stage x
root_may stage x root unsettled = LeadsTo-start (is_entry_at stage) (refers_unsettled stage.store) x
    (and_both (is_unsettled stage.store x) _ unsettled (or_first (is_root stage.store x) _ root))

pub slot_get : (slots : List ℕ) (root : ℕ) → root < length slots → slice_get slots root ≡ Some (slice_index_or slots root 0)
slot_get slots root l = slice_get-get_or slots root 0 l

module _ {stage : Stage} {now : HeapParts} {moving : Moving} {spot : Spot} (s : Standing stage now moving spot) (root : ℕ) (l : root < length now.slots) where
  abbrev x : ℕ
  x = place_in now root

  pub slot_leads : IsPointer spot.placing.met (place_in now root)
  slot_leads = slot-pointer now.slots spot.placing.met root s.middle.mid.slots.pointers

  pub slot_may : place_in now root ≢ 0 → MayBeFound stage (spot.placing.name (place_in now root))
  slot_may ne = root_may stage (spot.placing.name x)
      (in-left (spot.placing.name x) (filter_map (λ (slot : Option ℕ). slot) stage.store.slots) _
      (subst (λ (stored : List (Option ℕ)). IsTrue (is_in (spot.placing.name x) (filter_map (λ (slot : Option ℕ). slot) stored))) (sym s.middle.mid.slots.named)
      (slot-there spot.placing.name now.slots root x (slot_get now.slots root l) ne)))

  module _ {first : HeapParts} {more : Moving} {y : ℕ} (f : Followed stage now first moving more spot (place_in now root) y) where
    slots-same : first.slots ≡ now.slots
    slots-same = ap (λ (h : HeapParts). h.slots) f.only

    get : slice_get first.slots root ≡ Some x
    get = ap (λ (xs : List ℕ). slice_get xs root) slots-same ∙ slot_get now.slots root l

    last : IsLasting (pinned_places stage.start) f.after.placing.places y
    last = elim f.leads [ inl e ↦ inl e.1 | inr t ↦ t.lasts ]

    same-name : renamed f.after.placing.name y ≡ renamed f.after.placing.name x
    same-name = elim f.leads [ inl e ↦ ap (renamed f.after.placing.name) (e.1 ∙ sym e.0) | inr t ↦ t.same_name ]

    pointer : IsPointer f.after.placing.met y
    pointer = elim last [ inl e ↦ inl e | inr t ↦ inr (f.standing.middle.mid.words.moving.stay y t.0) ]

    pub slot_followed_by : FollowedSlot stage now (with_slot first root y) moving more spot root
    slot_followed_by =
        let m = f.standing.middle in record {
          after = record f.after { owes = without_slot f.after.owes root };
          standing = record {
            middle = record {
              mid = midway-owes root (midway_lists m.mid (slice_set first.slots root y) first.registered first.links
                  (slot_holds root x y get same-name pointer m.mid.slots) m.mid.registered_are m.mid.links_are);
              rest = ap (λ (h : HeapParts). with_slot h root y) m.rest;
              sizes = m.sizes;
            };
            counted = f.standing.counted;
            lists = slot_followed f.standing.lists root x y get last;
            linked = f.standing.linked;
            held = f.standing.held;
          };
          grows = record { met = f.grows.met; names = f.grows.names; stay = f.grows.stay; found = f.grows.found; held = f.grows.held };
          adds = record { added = f.adds.added; in_code = f.adds.in_code; told = f.adds.told; grown = f.adds.grown };
          owes_are = ap (λ (o : Owes). without_slot o root) f.owes_same;
          many = set-length first.slots root y ∙ ap length slots-same;
          held_same = f.held_same;
          only = ap (λ (h : HeapParts). record h { slots = slice_set first.slots root y }) f.only;
        }

pub slot_kept : {stage : Stage} {now first : HeapParts} {moving more : Moving} {spot : Spot} {x y root : ℕ} → Followed stage now first moving more spot x y → root < length now.slots → root < length first.slots
slot_kept f l = let same = ap (λ (h : HeapParts). length h.slots) f.only in omega (arith, l, same)

pub can_follow_slot : (now : HeapParts) (moving : Moving) (root x : ℕ) (c : CanFollowSlot now moving root) → x ≡ place_in now root → CanFollow now moving x
can_follow_slot now moving root x c is = record {
  stage = c.stage;
  spot = c.spot;
  standing = c.standing;
  pointer = subst (IsPointer c.spot.placing.met) (sym is) (slot_leads c.standing root c.there);
  may = subst (λ (k : ℕ). k ≢ 0 → MayBeFound c.stage (c.spot.placing.name k)) (sym is) (slot_may c.standing root c.there);
}

-- So far the slots below k were followed.
pub record SlotsTo (old now : HeapParts) (moving_old moving_now : Moving) (k : ℕ) : Type 0 where
  pub each : (stage : Stage) (spot : Spot) → Standing stage old moving_old spot → FollowedSlots stage old now moving_old moving_now spot k

pub slots_few : (now : HeapParts) (moving : Moving) → CanFollowLists now moving → length now.slots ≤ 65536
slots_few now moving c = let many = c.standing.middle.mid.slots.many in omega (arith, many, c.standing.middle.mid.made.ranges.2.2.2.2.2.2.2.2.2.2.2.1)

pub slots_begin : (now : HeapParts) (moving : Moving) → SlotsTo now now moving moving 0
slots_begin now moving = record {
  each = λ stage spot s. record {
    after = spot;
    standing = s;
    grows = grows_none stage spot;
    adds = adds_none moving spot;
    paid = λ k l. absurd (omega (arith, l));
    fewer = λ k e. e;
    rest = refl;
    many = refl;
    held_same = refl;
    only = refl;
  };
}

pub slot_can : {old now : HeapParts} {first moving : Moving} {k : ℕ} (c : CanFollowLists old first) → SlotsTo old now first moving k → k < length old.slots → CanFollowSlot now moving k
slot_can {k = k} c s l = let d = s.each c.stage c.spot c.standing in record { stage = c.stage; spot = d.after; standing = d.standing; there = omega (arith, l, d.many) }

without-false : (owes : Owes) (k j : ℕ) → owes.slots j ≡ false → (without_slot owes k).slots j ≡ false
without-false owes k j e = rw e (go (not (j == k)))
  where
    go : (b : Bool) → (b && false) ≡ false
    go true = refl
    go false = refl

pub slots_next : {old now new : HeapParts} {first moving more : Moving} {k : ℕ} → SlotsTo old now first moving k → k < length old.slots
    → ((stage : Stage) (spot : Spot) → Standing stage now moving spot → k < length now.slots → FollowedSlot stage now new moving more spot k) → SlotsTo old new first more (k + 1)
slots_next {old = old} {new = new} {k = k} s l step = record {
  each = λ stage spot standing.
      let d = s.each stage spot standing in
      let f = step stage d.after d.standing (omega (arith, l, d.many)) in
      record {
        after = f.after;
        standing = f.standing;
        grows = grows_twice d.grows f.grows;
        adds = adds_twice d.adds f.adds;
        paid = λ j less. ap (λ (o : Owes). o.slots j) f.owes_are ∙ elim (eqb_tells j k) [
          | inl e ↦ (let gone : (without_slot d.after.owes k).slots j ≡ false = rw e.0 refl in gone)
          | inr ne ↦ without-false d.after.owes k j (d.paid j (search (arith, less, ne.1)))
        ];
        fewer = λ j e. ap (λ (o : Owes). o.slots j) f.owes_are ∙ without-false d.after.owes k j (d.fewer j e);
        rest = f.owes_are ∙ (ap (λ (o : Owes). without_slot o k) d.rest ∙ ap (λ (g : ℕ → Bool). record spot.owes { slots = g }) (ap (λ (o : Owes). o.slots) (sym f.owes_are)));
        many = f.many ∙ d.many;
        held_same = f.held_same ∙ d.held_same;
        only = f.only ∙ ap (λ (h : HeapParts). record h { memory = new.memory; shadows = new.shadows; old_blocks = new.old_blocks; links = new.links; slots = new.slots }) d.only;
      };
}

pub slots_end : {old now : HeapParts} {first moving : Moving} {k : ℕ} → SlotsTo old now first moving k → length old.slots ≤ k → (stage : Stage) (spot : Spot) → Standing stage old first spot
    → FollowedSlots stage old now first moving spot (length old.slots)
slots_end s l stage spot standing = let d = s.each stage spot standing in record {
  after = d.after;
  standing = d.standing;
  grows = d.grows;
  adds = d.adds;
  paid = λ j less. d.paid j (omega (arith, l, less));
  fewer = d.fewer;
  rest = d.rest;
  many = d.many;
  held_same = d.held_same;
  only = d.only;
}
