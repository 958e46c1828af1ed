-- Visits over places are visits of the store, and the parts stand for it afterwards.
use Rattle.std.proofs.Common.{◌≡◌, ℕ, IsTrue, List, [], ◌∷◌, ◌++◌, map, append-nil, append_assoc, refl, sym, ap, ◌∙◌, subst, inl, inr}
use Rattle.std.specs.Prelude.{IsFalse}
use Rattle.std.proofs.lemmas.List.{map-append}
use Rattle.object_model.proofs.Members.{is_in-head, is_in-tail, is_in-cases, is_in-nil, in-either}
use Rattle.text_model.specs.declared.line.Phase.{Phase}
use Rattle.text_model.specs.declared.line.Phase.TheVariants.{Marking}
use Rattle.store_model.specs.Store.{Store}
use Rattle.object_model.specs.Object.{object_at}
use Rattle.object_model.specs.Sets.{is_in}
use Rattle.store_model.specs.Roots.{referents_in}
use Rattle.store_model.specs.Marking.{with_visited}
use Rattle.store_model.specs.MarkingOrder.{IsInOrder, settled_of, Visits, NoVisit, Passed, Visit}
use Rattle.remember_cards.specs.Remembered.{is_held_of}
use Rattle.heap_parts.specs.Parts.{HeapParts}
use Rattle.heap_parts.specs.Places.{old_places, AreAmong}
use Rattle.heap_parts.specs.Order.{IsGrayOf}
use Rattle.heap_parts.specs.Headers.{is_marked}
use Rattle.heap_parts.specs.StandsFor.{PartsStandFor}
use Rattle.frame_laws.proofs.PlaceLaws.{old-is_in}
use Rattle.heap_phases.specs.Visiting.{old_refs, with_gray, with_visit, PlaceVisits, NoPlace, PassesPlace, VisitsPlace}
use Rattle.store_model.proofs.MarkVisit.{order-visited, StepOrder, order-passed}
use Rattle.heap_phases.proofs.VisitStands.{visit_stands, visit_places}
use Rattle.store_model.proofs.VisitSound.{visited_too}
use Rattle.heap_phases.proofs.VisitRefs.{refs_queued, ref_place}

-- the parts stand for the store, with these places and names
pub record AtPlaces (heap : HeapParts) (store : Store) (places : List ℕ) (name : ℕ → ℕ) : Type 0 where
  pub stands : PartsStandFor heap store
  pub places_are : stands.places ≡ places
  pub name_is : stands.name ≡ name

pub record VisitsTo (heap : HeapParts) (store : Store) (places : List ℕ) (name : ℕ → ℕ) (ps : List ℕ) (new : HeapParts) : Type 0 where
  pub at : AtPlaces new (with_visited store (map name ps)) places name
  pub visits : Visits store.kept store.settled store.visited (map name heap.gray) (map name ps) (store.visited ++ map name ps) (map name new.gray)
  pub there : AreAmong places ps
  pub phase : new.phase ≡ Marking
  pub remembered : new.remembered ≡ heap.remembered
  pub setup : new.setup ≡ heap.setup

pub with-gray-at : (heap : HeapParts) (store : Store) (s : PartsStandFor heap store) (gray : List ℕ) → heap.phase ≡ Marking → AreAmong (old_places s.places) gray
    → IsInOrder store.kept store.settled store.visited (map s.name gray) (is_held_of heap.remembered s.name) store.unreached → AtPlaces (with_gray heap gray) store s.places s.name
with-gray-at heap store s gray marking among order = record {
  stands = record {
    places = s.places;
    name = s.name;
    husks = s.husks;
    waiting = s.waiting;
    words = s.words;
    headers = s.headers;
    young_flags = s.young_flags;
    visited = s.visited;
    remembered = s.remembered;
    births = s.births;
    slots = s.slots;
    pins = s.pins;
    finalizers = s.finalizers;
    links = s.links;
    homes = s.homes;
    gray = among;
    gray_phase = subst (λ (ph : Phase). IsGrayOf ph gray) (sym marking) tt;
    sums = s.sums;
    husk_list = s.husk_list;
    counts = s.counts;
    ungapped = s.ungapped;
    units = s.units;
    made = s.made;
    order = order;
    sound = s.sound;
  };
  places_are = refl;
  name_is = refl;
}

pub visits_stand : (heap : HeapParts) (store : Store) (s : PartsStandFor heap store) (ps : List ℕ) (new : HeapParts) → heap.phase ≡ Marking
    → StepOrder store.kept store.settled store.visited (map s.name heap.gray) (is_held_of heap.remembered s.name) store.unreached
    → PlaceVisits heap ps new → VisitsTo heap store s.places s.name ps new
visits_stand heap store s ps new marking order (NoPlace _) = record {
  at = subst (λ (vs : List ℕ). AtPlaces heap (record store { visited = vs }) s.places s.name) (sym (append-nil store.visited)) (record { stands = s; places_are = refl; name_is = refl });
  visits = subst (λ (vs : List ℕ). Visits store.kept store.settled store.visited (map s.name heap.gray) [] vs (map s.name heap.gray)) (sym (append-nil store.visited))
      (NoVisit store.visited (map s.name heap.gray));
  there = λ q t. absurd (is_in-nil q t);
  phase = marking;
  remembered = refl;
  setup = refl;
}
visits_stand heap store s ps new marking order (PassesPlace _ p rest _ _ e flag more) =
    let listed : map s.name heap.gray ≡ s.name p ∷ map s.name rest = ap (map s.name) e in
    let old : IsTrue (is_in p (old_places s.places)) = s.gray p (subst (λ (qs : List ℕ). IsTrue (is_in p qs)) (sym e) (is_in-head p rest)) in
    let visited : IsTrue (is_in (s.name p) store.visited) =
    sym (s.visited.each p old ∙ ap (λ (ph : Phase). is_marked ph store.visited s.name heap.setup.settings.page s.waiting p) marking) ∙ flag in
    let before : StepOrder store.kept store.settled store.visited (s.name p ∷ map s.name rest) (is_held_of heap.remembered s.name) store.unreached =
    subst (λ (gs : List ℕ). StepOrder store.kept store.settled store.visited gs (is_held_of heap.remembered s.name) store.unreached) listed order in
    let after = order-passed store.kept store.settled (is_held_of heap.remembered s.name) store.unreached store.visited (map s.name rest) (s.name p) visited before in
    let at = with-gray-at heap store s rest marking (λ q t. s.gray q (subst (λ (qs : List ℕ). IsTrue (is_in q qs)) (sym e) (is_in-tail q p rest t))) after.order in
    let next : VisitsTo (with_gray heap rest) store at.stands.places at.stands.name ps new =
    visits_stand (with_gray heap rest) store at.stands ps new marking
    (subst (λ (f : ℕ → ℕ). StepOrder store.kept store.settled store.visited (map f rest) (is_held_of heap.remembered f) store.unreached) (sym at.name_is) after) more in
    let same : VisitsTo (with_gray heap rest) store s.places s.name ps new =
    subst (λ (f : ℕ → ℕ). VisitsTo (with_gray heap rest) store s.places f ps new) at.name_is
    (subst (λ (qs : List ℕ). VisitsTo (with_gray heap rest) store qs at.stands.name ps new) at.places_are next) in
    record {
      at = same.at;
      visits = subst (λ (gs : List ℕ). Visits store.kept store.settled store.visited gs (map s.name ps) (store.visited ++ map s.name ps) (map s.name new.gray)) (sym listed)
          (Passed store.visited (map s.name rest) (map s.name ps) (store.visited ++ map s.name ps) (map s.name new.gray) (s.name p) visited same.visits);
      there = same.there;
      phase = same.phase;
      remembered = same.remembered;
      setup = same.setup;
    }
visits_stand heap store s _ new marking order (VisitsPlace _ p rest ps _ e flag more) =
    let x : ℕ = s.name p in
    let listed : map s.name heap.gray ≡ s.name p ∷ map s.name rest = ap (map s.name) e in
    let old : IsTrue (is_in p (old_places s.places)) = s.gray p (subst (λ (qs : List ℕ). IsTrue (is_in p qs)) (sym e) (is_in-head p rest)) in
    let here : IsTrue (is_in p s.places) = (old-is_in s.places p old).0 in
    let unvisited : IsFalse (is_in (s.name p) store.visited) =
    sym (s.visited.each p old ∙ ap (λ (ph : Phase). is_marked ph store.visited s.name heap.setup.settings.page s.waiting p) marking) ∙ flag in
    let before : StepOrder store.kept store.settled store.visited (s.name p ∷ map s.name rest) (is_held_of heap.remembered s.name) store.unreached =
    subst (λ (gs : List ℕ). StepOrder store.kept store.settled store.visited gs (is_held_of heap.remembered s.name) store.unreached) listed order in
    let queued : map s.name (rest ++ old_refs heap p) ≡ map s.name rest ++ settled_of store.settled (referents_in (object_at store.kept (s.name p))) =
    map-append s.name rest (old_refs heap p) ∙ ap (λ (more : List ℕ). map s.name rest ++ more) (sym (refs_queued heap store s p here)) in
    let after : StepOrder store.kept store.settled (store.visited ++ s.name p ∷ []) (map s.name (rest ++ old_refs heap p)) (is_held_of heap.remembered s.name) store.unreached =
    subst (λ (gs : List ℕ). StepOrder store.kept store.settled (store.visited ++ s.name p ∷ []) gs (is_held_of heap.remembered s.name) store.unreached) (sym queued)
    (order-visited store.kept store.settled (is_held_of heap.remembered s.name) store.unreached s.sound.settled s.sound.unreached_cut_off store.visited (map s.name rest) (s.name p) before) in
    let among : AreAmong (old_places s.places) (rest ++ old_refs heap p) = λ q t. elim (in-either q rest (old_refs heap p) t) [
      | inl u ↦ s.gray q (subst (λ (qs : List ℕ). IsTrue (is_in q qs)) (sym e) (is_in-tail q p rest u))
      | inr u ↦ ref_place heap store s p q here u
    ] in
    let reached : IsFalse (is_in (s.name p) store.unreached) = before.order.gray_reached (s.name p) (is_in-head (s.name p) (map s.name rest)) in
    let mid : HeapParts = with_visit heap p (rest ++ old_refs heap p) in
    let stands : PartsStandFor (with_visit heap p (rest ++ old_refs heap p)) (visited_too store (s.name p)) = visit_stands heap store p (rest ++ old_refs heap p) s marking old reached among after.order in
    let kinds = visit_places heap store p (rest ++ old_refs heap p) s marking old reached among after.order in
    let places_are : stands.places ≡ s.places = kinds.0 in
    let name_is : stands.name ≡ s.name = kinds.1 in
    let next : VisitsTo (with_visit heap p (rest ++ old_refs heap p)) (visited_too store (s.name p)) stands.places stands.name ps new =
    visits_stand (with_visit heap p (rest ++ old_refs heap p)) (visited_too store (s.name p)) stands ps new marking
    (subst (λ (f : ℕ → ℕ). StepOrder store.kept store.settled (store.visited ++ s.name p ∷ []) (map f (rest ++ old_refs heap p)) (is_held_of heap.remembered f) store.unreached) (sym name_is) after) more in
    let same : VisitsTo (with_visit heap p (rest ++ old_refs heap p)) (visited_too store (s.name p)) s.places s.name ps new =
    subst (λ (f : ℕ → ℕ). VisitsTo (with_visit heap p (rest ++ old_refs heap p)) (visited_too store (s.name p)) s.places f ps new) name_is
    (subst (λ (qs : List ℕ). VisitsTo (with_visit heap p (rest ++ old_refs heap p)) (visited_too store (s.name p)) qs stands.name ps new) places_are next) in
    let all : (store.visited ++ s.name p ∷ []) ++ map s.name ps ≡ store.visited ++ (s.name p ∷ map s.name ps) = append_assoc store.visited (s.name p ∷ []) (map s.name ps) in
    record {
      at = subst (λ (vs : List ℕ). AtPlaces new (record store { visited = vs }) s.places s.name) all same.at;
      visits = subst (λ (gs : List ℕ). Visits store.kept store.settled store.visited gs (map s.name (p ∷ ps)) (store.visited ++ map s.name (p ∷ ps)) (map s.name new.gray)) (sym listed)
          (Visit store.visited (map s.name rest) (map s.name ps) (store.visited ++ map s.name (p ∷ ps)) (map s.name new.gray) (s.name p) unvisited
          (subst (λ (vs : List ℕ). Visits store.kept store.settled (store.visited ++ s.name p ∷ []) (map s.name rest ++ settled_of store.settled (referents_in (object_at store.kept (s.name p)))) (map s.name ps) vs (map s.name new.gray)) all
          (subst (λ (gs : List ℕ). Visits store.kept store.settled (store.visited ++ s.name p ∷ []) gs (map s.name ps) ((store.visited ++ s.name p ∷ []) ++ map s.name ps) (map s.name new.gray)) queued same.visits)));
      there = λ q t. elim (is_in-cases q p ps t) [ inl is ↦ subst (λ (k : ℕ). IsTrue (is_in k s.places)) (sym is) here | inr u ↦ same.there q u ];
      phase = same.phase;
      remembered = same.remembered;
      setup = same.setup;
    }
