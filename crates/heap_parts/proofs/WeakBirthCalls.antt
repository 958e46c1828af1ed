-- The clauses of births of weak objects, from those of the births that they call.
use Rattle.std.proofs.Common.{◌≡◌, ℕ, zero, suc, ◌<◌, List, [], ◌∷◌, ◌++◌, length, slice_index_or, slice_set, refl, sym, ap, ◌∙◌, subst, arith}
use Rattle.type_table.specs.declared.info.TypeInfo.{TypeInfo}
use Rattle.type_table.specs.Words.{words_in}
use Rattle.nursery_gaps.specs.Nursery.{Fits}
use Rattle.parts_model.specs.Parts.{HeapParts, place_in}
use Rattle.parts_model.specs.Births.{HasNurseryRoom, BearsYoung, KeepsLive, TakesNone, BearsOld, HasOldRoom}
use Rattle.parts_model.specs.WeakBirths.{with_listed, BearsWeakYoung, BearsWeakOld}

-- the heap with the listed weak objects of another one
abbrev with_weaks_of : HeapParts → HeapParts → HeapParts
with_weaks_of heap other = record heap { weaks = other.weaks }

-- what is put into a slot is there
set-slot : (slots : List ℕ) (root place : ℕ) → root < length slots → slice_index_or (slice_set slots root place) root 0 ≡ place
set-slot [] root place l = absurd (let no : ⊥ = omega (arith, l) in no)
set-slot (p ∷ slots) zero place l = refl
set-slot (p ∷ slots) (suc root) place l = set-slot slots root place (omega (arith, l))

-- what a call for a block leaves does not depend on what is listed
keeps_live-unlisted : (heap mid next : HeapParts) → mid ≡ with_listed heap 0 → KeepsLive mid next → KeepsLive heap (with_weaks_of next heap)
keeps_live-unlisted heap mid next is keeps =
    let k = subst (λ (h : HeapParts). KeepsLive h next) is keeps in
    record { only = ap (λ (h : HeapParts). with_weaks_of h heap) k.only; kept = k.kept; outside = k.outside; arenas = k.arenas; small = k.small; page = k.page }

-- no block was taken, and what was listed is taken off the list
pub none_unlisted : (heap mid next new : HeapParts) → mid ≡ with_listed heap 0 → TakesNone mid next
    → ((front : List ℕ) (last : ℕ) → next.weaks ≡ front ++ last ∷ [] → new ≡ record next { weaks = front }) → TakesNone heap new
none_unlisted heap mid next new is t drops =
    let none = subst (λ (h : HeapParts). TakesNone h next) is t in
    let listed : next.weaks ≡ heap.weaks ++ 0 ∷ [] = ap (λ (h : HeapParts). h.weaks) none.keeps.only in
    subst (λ (h : HeapParts). TakesNone heap h) (sym (drops heap.weaks 0 listed))
    (record { keeps = keeps_live-unlisted heap mid next is t.keeps; same = none.same })

-- an object that was born in the nursery is listed
pub weak_young : (heap mid next new : HeapParts) (root type_id : ℕ) (info : TypeInfo) (target : ℕ) → root < length heap.slots
    → mid ≡ with_listed heap 0 → BearsYoung mid next root type_id info 0 target
    → ((front : List ℕ) (last : ℕ) → next.weaks ≡ front ++ last ∷ [] → new ≡ record next { weaks = front ++ place_in next root ∷ [] })
    → BearsWeakYoung heap new root type_id info target
weak_young heap mid next new root type_id info target l is bears places =
    let b = subst (λ (h : HeapParts). BearsYoung h next root type_id info 0 target) is bears in
    let listed : next.weaks ≡ heap.weaks ++ 0 ∷ [] = ap (λ (h : HeapParts). h.weaks) b.is in
    let place : place_in next root ≡ b.place = ap (λ (h : HeapParts). place_in h root) b.is ∙ set-slot heap.slots root b.place l in record {
      born = with_weaks_of next heap;
      bears = record {
        place = b.place;
        nursery = b.nursery;
        lowest = b.lowest;
        hands = b.hands;
        laid = b.laid;
        is = ap (λ (h : HeapParts). with_weaks_of h heap) b.is;
      };
      is = places heap.weaks 0 listed ∙ ap (λ (p : ℕ). record next { weaks = heap.weaks ++ p ∷ [] }) place;
    }

-- and so is one that was born outside it
pub weak_old : (heap mid young next new : HeapParts) (root type_id : ℕ) (info : TypeInfo) (target : ℕ) → root < length heap.slots
    → mid ≡ with_listed heap 0 → young ≡ mid → ((place : ℕ) → ¬ Fits mid.nursery (words_in info.shape 0) place)
    → BearsOld young next root type_id info 0 target
    → ((front : List ℕ) (last : ℕ) → next.weaks ≡ front ++ last ∷ [] → new ≡ record next { weaks = front ++ place_in next root ∷ [] })
    → BearsWeakOld heap new root type_id info target
weak_old heap mid young next new root type_id info target l is same full bears places =
    let b = subst (λ (h : HeapParts). BearsOld h next root type_id info 0 target) (same ∙ is) bears in
    let slots : b.middle.slots ≡ heap.slots = ap (λ (h : HeapParts). h.slots) b.takes.keeps.only in
    let listed : next.weaks ≡ heap.weaks ++ 0 ∷ [] = ap (λ (h : HeapParts). h.weaks) b.is ∙ ap (λ (h : HeapParts). h.weaks) b.takes.keeps.only in
    let place : place_in next root ≡ b.place =
    ap (λ (h : HeapParts). place_in h root) b.is ∙ set-slot b.middle.slots root b.place (subst (λ (xs : List ℕ). root < length xs) (sym slots) l) in record {
      full = λ p fits. full p (subst (λ (h : HeapParts). Fits h.nursery (words_in info.shape 0) p) (sym is) fits);
      born = with_weaks_of next heap;
      bears = record {
        middle = with_weaks_of b.middle heap;
        place = b.place;
        takes = record {
          keeps = keeps_live-unlisted heap (with_listed heap 0) b.middle refl b.takes.keeps;
          taken = b.takes.taken;
          elsewhere = b.takes.elsewhere;
        };
        is = ap (λ (h : HeapParts). with_weaks_of h heap) b.is;
      };
      is = places heap.weaks 0 listed ∙ ap (λ (p : ℕ). record next { weaks = heap.weaks ++ p ∷ [] }) place;
    }

-- the room for a birth does not depend on what is listed
pub young-listed : (heap mid : HeapParts) (root : ℕ) (info : TypeInfo) → mid ≡ with_listed heap 0 → HasNurseryRoom heap root info 0 → HasNurseryRoom mid root info 0
young-listed heap mid root info is room =
    subst (λ (h : HeapParts). HasNurseryRoom h root info 0) (sym is)
    (record { slot = room.slot; items_few = room.items_few; whole = room.whole; least = room.least; next_small = room.next_small; unsettled_small = room.unsettled_small })

pub old-listed : (heap mid : HeapParts) (root : ℕ) (info : TypeInfo) → mid ≡ with_listed heap 0 → HasOldRoom heap root info 0 → HasOldRoom mid root info 0
old-listed heap mid root info is room =
    subst (λ (h : HeapParts). HasOldRoom h root info 0) (sym is)
    (record { slot = room.slot; items_few = room.items_few; stands = room.stands; next_small = room.next_small; old_small = room.old_small; fresh_small = room.fresh_small })
