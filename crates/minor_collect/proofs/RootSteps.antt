-- All lists that lead to objects are followed.
use Rattle.std.proofs.Common.{◌≡◌, ℕ, ◌<◌, length, sym, ap, ◌∙◌, subst}
use Rattle.heap_parts.specs.Parts.{HeapParts}
use Rattle.minor_collect.specs.declared.work.Moving.{Moving}
use Rattle.minor_collect.specs.Midway.{Owes}
use Rattle.minor_collect.specs.Calls.{Stage, Spot, FollowedSlots, FollowedForced, CanFollowLists}
use Rattle.minor_collect.specs.Registered.{FollowedEntries, FollowedRoots}
use Rattle.minor_collect.proofs.GrowLaws.{grows_twice, adds_twice}

module _ {stage : Stage} {old first second new : HeapParts} {m0 m1 m2 m3 : Moving} {before : Spot} (a : FollowedSlots stage old first m0 m1 before (length old.slots))
    (r : FollowedEntries stage first second m1 m2 a.after (length first.registered)) (b : FollowedForced stage second new m2 m3 r.after) where
  slots-same : (k : ℕ) → b.after.owes.slots k ≡ a.after.owes.slots k
  slots-same k = ap (λ (o : Owes). o.slots k) b.owes_same ∙ ap (λ (o : Owes). o.slots k) r.rest

  registered-same : (k : ℕ) → b.after.owes.registered k ≡ r.after.owes.registered k
  registered-same k = ap (λ (o : Owes). o.registered k) b.owes_same

  many-same : length first.registered ≡ length old.registered
  many-same = ap (λ (h : HeapParts). length h.registered) a.only

  pub roots_followed : FollowedRoots stage old new m0 m3 before
  roots_followed = record {
    after = b.after;
    standing = b.standing;
    grows = grows_twice a.grows (grows_twice r.grows b.grows);
    adds = adds_twice a.adds (adds_twice r.adds b.adds);
    slots_paid = λ k l. slots-same k ∙ a.paid k l;
    slots_fewer = λ k e. slots-same k ∙ a.fewer k e;
    registered_paid = λ k l. registered-same k ∙ r.paid k (subst (λ (n : ℕ). k < n) (sym many-same) l);
    registered_fewer = λ k e. registered-same k ∙ r.fewer k (ap (λ (o : Owes). o.registered k) a.rest ∙ e);
    rest =
        let F : Owes → Owes = λ o. record o { slots = b.after.owes.slots; registered = b.after.owes.registered } in
        ap F b.owes_same ∙ (ap F r.rest ∙ ap F a.rest);
    held_same = b.held_same ∙ (r.held_same ∙ a.held_same);
    found = b.found;
    only =
        let F : HeapParts → HeapParts = λ h. record h { memory = new.memory; shadows = new.shadows; old_blocks = new.old_blocks; links = new.links; slots = new.slots; registered = new.registered } in
        ap F b.only ∙ (ap F r.only ∙ ap F a.only);
  }

pub can_after_slots : {stage : Stage} {old new : HeapParts} {moving more : Moving} {spot : Spot} {count : ℕ} → FollowedSlots stage old new moving more spot count → CanFollowLists new more
can_after_slots {stage = stage} a = record { stage = stage; spot = a.after; standing = a.standing }

pub can_after_entries : {stage : Stage} {old new : HeapParts} {moving more : Moving} {spot : Spot} {count : ℕ} → FollowedEntries stage old new moving more spot count → CanFollowLists new more
can_after_entries {stage = stage} r = record { stage = stage; spot = r.after; standing = r.standing }
