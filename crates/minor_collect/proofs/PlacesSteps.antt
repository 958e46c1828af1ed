-- Objects at places are followed, one behind another.
use Rattle.std.proofs.Common.{◌≡◌, ℕ, zero, suc, ◌+◌, ◌<◌, ◌⊎◌, Bool, true, false, IsTrue, List, [], ◌∷◌, ◌++◌, map, length, take, Some, None, refl, sym, ap, ◌∙◌, subst, inl, inr, arith}
use Rattle.std.specs.Prelude.{◌||◌, ◌==◌, filter_map, flat_map, slice_index_or, if◌then◌else◌}
use Rattle.std.proofs.lemmas.Bool.{cases_Bool}
use Rattle.std.specs.List.{cons_option}
use Rattle.std.proofs.Math.Seq.{take-suc, take-length}
use Rattle.type_table.specs.Table.{Table}
use Rattle.object_model.specs.Sets.{is_in}
use Rattle.object_model.proofs.Members.{is_in-head, is_in-tail, is_in-cases, is_in-nil, is_in-named, in-right}
use Rattle.store_model.specs.Store.{Struct, Linked, Unlinked, Pending}
use Rattle.store_model.specs.Structs.{object_of, forced_objects, with_objects}
use Rattle.store_model.specs.Roots.{pinned_births}
use Rattle.store_model.specs.MinorCollection.{is_unsettled}
use Rattle.heap_parts.specs.Parts.{HeapParts}
use Rattle.frame_laws.proofs.PlaceLaws.{named-by}
use Rattle.minor_collect.specs.declared.work.Moving.{Moving}
use Rattle.minor_collect.specs.Calls.{Stage, Spot, MayBeFound, MayFollow, Standing, Followed, FollowedPlaces, FollowedForced, CanFollow, CanFollowPlaces, CanFollowLists}
use Rattle.minor_collect.proofs.FollowLaws.{grows_none, adds_none}
use Rattle.minor_collect.proofs.GrowLaws.{grows_twice, adds_twice, member-append}
use Rattle.minor_collect.proofs.SlotSteps.{root_may}

-- So far the objects at the first places were followed.
pub record PlacesTo (old now : HeapParts) (moving_old moving_now : Moving) (places done : List ℕ) : Type 0 where
  pub each : (stage : Stage) (spot : Spot) → Standing stage old moving_old spot → MayFollow stage spot places → FollowedPlaces stage old now moving_old moving_now spot done

pub places_begin : (now : HeapParts) (moving : Moving) (places : List ℕ) → PlacesTo now now moving moving places []
places_begin now moving places = record {
  each = λ stage spot s may. record {
    after = spot;
    standing = s;
    grows = grows_none stage spot;
    adds = adds_none moving spot;
    owes_same = refl;
    held_same = refl;
    found = λ x t. absurd (is_in-nil x t);
    only = refl;
  };
}

pub place_can : {old now : HeapParts} {first moving : Moving} {places done : List ℕ} {p : ℕ} (c : CanFollowPlaces old first places) → PlacesTo old now first moving places done → IsTrue (is_in p places) → CanFollow now moving p
place_can {p = p} c s t =
    let d = s.each c.stage c.spot c.standing c.may in
    let m = c.may p t in
    record {
      stage = c.stage;
      spot = d.after;
      standing = d.standing;
      pointer = inr (d.grows.met p m.0);
      may = λ ne. subst (MayBeFound c.stage) (sym (d.grows.names p m.0)) m.1;
    }

pub places_next : {old now new : HeapParts} {first moving more : Moving} {places done : List ℕ} {p y : ℕ} → PlacesTo old now first moving places done → IsTrue (is_in p places)
    → ((stage : Stage) (spot : Spot) → Standing stage now moving spot → IsTrue (is_in p spot.placing.met) → MayBeFound stage (spot.placing.name p) → Followed stage now new moving more spot p y)
    → PlacesTo old new first more places (done ++ p ∷ [])
places_next {old = old} {new = new} {done = done} {p = p} {y = y} s t step = record {
  each = λ stage spot standing may.
      let d = s.each stage spot standing may in
      let m = may p t in
      let name-now = d.grows.names p m.0 in
      let f = step stage d.after d.standing (d.grows.met p m.0) (subst (MayBeFound stage) (sym name-now) m.1) in
      record {
        after = f.after;
        standing = f.standing;
        grows = grows_twice d.grows f.grows;
        adds = adds_twice d.adds f.adds;
        owes_same = f.owes_same ∙ d.owes_same;
        held_same = f.held_same ∙ d.held_same;
        found = λ x u un. elim (cases x u) [
          | inl before ↦ f.grows.found (spot.placing.name x) (d.found x before un)
          | inr e ↦
              let name-after : f.after.placing.name p ≡ spot.placing.name p = f.grows.names p (d.grows.met p m.0) ∙ name-now in
              let here : f.after.placing.name p ≡ spot.placing.name x = name-after ∙ ap spot.placing.name (sym e) in
              elim f.leads [
                | inl z ↦ absurd (let above = standing.middle.mid.words.moving.above p m.0 in omega (arith, above, z.0))
                | inr to ↦ elim to.known [
                  | inl k ↦ subst (λ (b : ℕ). IsTrue (is_in b f.after.placing.found)) here k
                  | inr settled ↦ absurd (let clash : true ≡ false = sym un ∙ (ap (is_unsettled stage.store) (sym here) ∙ settled) in let no : ⊥ = cc in no)
                ]
              ]
        ];
        only = f.only ∙ ap (λ (h : HeapParts). record h { memory = new.memory; shadows = new.shadows; old_blocks = new.old_blocks; links = new.links }) d.only;
      };
}
  where
    cases : (x : ℕ) → IsTrue (is_in x (done ++ p ∷ [])) → IsTrue (is_in x done) ⊎ (x ≡ p)
    cases x u = elim (either (is_in x done) (is_in x (p ∷ [])) (sym (member-append x done (p ∷ [])) ∙ u)) [
      | inl v ↦ inl v
      | inr v ↦ elim (is_in-cases x p [] v) [ inl e ↦ inr e | inr w ↦ absurd (is_in-nil x w) ]
    ]
      where
        either : (a b : Bool) → IsTrue (a || b) → IsTrue a ⊎ IsTrue b
        either true b w = inl refl
        either false b w = inr w

-- what P links keep, under other names
forced-renamed : (f : ℕ → ℕ) (structs : Table Struct) → forced_objects (with_objects f structs) ≡ map f (forced_objects structs)
forced-renamed f [] = refl
forced-renamed f ((n, Linked true light object own) ∷ structs) = elim (cases_Bool (own == 0)) [
  | inl e ↦ rw e (forced-renamed f structs)
  | inr e ↦ rw e (ap (λ (rest : List ℕ). f object ∷ rest) (forced-renamed f structs))
]
forced-renamed f ((n, Linked false light object own) ∷ structs) = forced-renamed f structs
forced-renamed f ((n, Unlinked own) ∷ structs) = forced-renamed f structs
forced-renamed f ((n, Pending) ∷ structs) = forced-renamed f structs

-- and each of them is linked
forced-linked : (structs : Table Struct) (x : ℕ) → IsTrue (is_in x (forced_objects structs)) → IsTrue (is_in x (filter_map (λ (entry : ℕ × Struct). object_of entry.1) structs))
forced-linked [] x t = t
forced-linked ((n, Linked true light object own) ∷ structs) x t = elim (cases_Bool (own == 0)) [
  | inl e ↦ is_in-tail x object _ (forced-linked structs x (subst (λ (b : Bool). IsTrue (is_in x (cons_option (if b then None else Some object) (forced_objects structs)))) e t))
  | inr e ↦ elim (is_in-cases x object (forced_objects structs) (subst (λ (b : Bool). IsTrue (is_in x (cons_option (if b then None else Some object) (forced_objects structs)))) e t)) [
    | inl same ↦ subst (λ (k : ℕ). IsTrue (is_in k (object ∷ filter_map (λ (entry : ℕ × Struct). object_of entry.1) structs))) (sym same) (is_in-head object _)
    | inr u ↦ is_in-tail x object _ (forced-linked structs x u)
  ]
]
forced-linked ((n, Linked false light object own) ∷ structs) x t = is_in-tail x object _ (forced-linked structs x t)
forced-linked ((n, Unlinked own) ∷ structs) x t = forced-linked structs x t
forced-linked ((n, Pending) ∷ structs) x t = forced-linked structs x t

module _ {stage : Stage} {now : HeapParts} {moving : Moving} {spot : Spot} (s : Standing stage now moving spot) where
  forced-named : forced_objects stage.store.structs ≡ map spot.placing.name (forced_objects now.links.structs)
  forced-named = ap forced_objects s.middle.mid.links_are.named ∙ forced-renamed spot.placing.name now.links.structs

  pub forced_may : MayFollow stage spot (forced_objects now.links.structs)
  forced_may x t =
      let name : ℕ → ℕ = spot.placing.name in
      let b : IsTrue (is_in (name x) (forced_objects stage.store.structs)) = subst (λ (xs : List ℕ). IsTrue (is_in (name x) xs)) (sym forced-named) (is_in-named name x (forced_objects now.links.structs) t) in (
        s.middle.mid.words.moving.stay x (s.linked x (forced-linked now.links.structs x t)),
        root_may stage (name x) (in-right (name x) _ _ (in-right (name x) (pinned_births stage.store) _ (in-right (name x) (map (λ (entry : ℕ × ℕ). entry.0) stage.store.chosen) _
            (in-right (name x) (flat_map (λ (entry : ℕ × List ℕ). entry.1) stage.store.queues) _ b)))),
      )

  pub forced_followed : {new : HeapParts} {more : Moving} → FollowedPlaces stage now new moving more spot (forced_objects now.links.structs) → FollowedForced stage now new moving more spot
  forced_followed f = record {
    after = f.after;
    standing = f.standing;
    grows = f.grows;
    adds = f.adds;
    owes_same = f.owes_same;
    held_same = f.held_same;
    found = λ x t un.
        let n = named-by spot.placing.name x (forced_objects now.links.structs) (subst (λ (xs : List ℕ). IsTrue (is_in x xs)) forced-named t) in
        subst (λ (b : ℕ). IsTrue (is_in b f.after.placing.found)) (sym n.is) (f.found n.place n.there (subst (λ (b : ℕ). IsTrue (is_unsettled stage.store b)) n.is un));
    only = f.only;
  }

pub can_follow_forced : (now : HeapParts) (moving : Moving) (places : List ℕ) (c : CanFollowLists now moving) → places ≡ forced_objects now.links.structs → CanFollowPlaces now moving places
can_follow_forced now moving places c is = record { stage = c.stage; spot = c.spot; standing = c.standing; may = subst (MayFollow c.stage c.spot) (sym is) (forced_may c.standing) }

-- elements of a list by their numbers
pub get_in : (xs : List ℕ) (k : ℕ) → k < length xs → IsTrue (is_in (slice_index_or xs k 0) xs)
get_in [] k l = absurd (omega (arith, l))
get_in (x ∷ xs) zero l = is_in-head x xs
get_in (x ∷ xs) (suc k) l = is_in-tail (slice_index_or xs k 0) x xs (get_in xs k (let long : length (x ∷ xs) ≡ suc (length xs) = refl in omega (arith, l, long)))

pub take_more : (xs : List ℕ) (k : ℕ) → k < length xs → take (k + 1) xs ≡ take k xs ++ slice_index_or xs k 0 ∷ []
take_more xs k l = ap (λ (n : ℕ). take n xs) (let e : k + 1 ≡ suc k = omega arith in e) ∙ take-suc xs k 0 l

pub take_all : (xs : List ℕ) (k : ℕ) → k ≡ length xs → take k xs ≡ xs
take_all xs k e = ap (λ (n : ℕ). take n xs) e ∙ take-length xs
