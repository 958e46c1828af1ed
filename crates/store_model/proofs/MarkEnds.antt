-- The start of marking, and its end.
use Rattle.std.specs.Prelude.{◌≡◌, ℕ, Bool, true, false, ◌&&◌, ◌||◌, IsTrue, IsFalse, is_some, List, [], Option, Some, None, refl, slice_get}
use Rattle.std.proofs.Common.{arith, subst, ⊎_elim}
use Rattle.object_model.specs.Sets.{is_in}
use Rattle.object_model.specs.Object.{Object, object_at}
use Rattle.store_model.specs.Store.{Store}
use Rattle.store_model.specs.Roots.{pinned_births, is_kept, referents_in, roots_of}
use Rattle.store_model.specs.Reach.{refers, IsReachedFrom}
use Rattle.object_model.specs.Fields.{refs_of}
use Rattle.store_model.specs.Sound.{AreKept, AreNoneOf, AreCutOff}
use Rattle.store_model.specs.Marking.{IsMarked}
use Rattle.store_model.specs.MarkingOrder.{IsItem, YoungHeld, HeldSettled, IsInOrder, VisitsQueued, RootsQueued, settled_of, Visits}
use Rattle.store_model.proofs.MarkSets.{from-filter}
use Rattle.store_model.proofs.FieldChanges.{referent-item}
use Rattle.std.proofs.lemmas.Bool.{cases_Bool, false≢true}
use Rattle.object_model.proofs.Members.{and_first}
use Rattle.store_model.proofs.Rounds.{LeadsTo-least}
use Rattle.store_model.proofs.MarkVisit.{order-visits, roots-visits, order-roots, StepOrder}

none : {X : Type 0} (x : ℕ) → IsTrue (is_in x []) → X
none x h = absurd (false≢true h)

-- at the start nothing is visited, and the settled roots are gray
pub order-start : (kept : List Object) (settled roots : List ℕ) (remembered : ℕ → ℕ → Bool) (unreached : List ℕ)
    → YoungHeld kept settled remembered → HeldSettled settled remembered → AreNoneOf roots unreached
    → IsInOrder kept settled [] (settled_of settled roots) remembered unreached
order-start kept settled roots remembered unreached young held apart = record {
  young = young;
  owed = λ x i y v e. none x v;
  held_settled = held;
  gray_settled = λ y g. (from-filter (λ z. is_in z settled) y roots g).1;
  visited_settled = λ x v. none x v;
  gray_reached = λ y g. apart y (from-filter (λ z. is_in z settled) y roots g).0;
  visited_reached = λ x v. none x v;
}

-- outside marking nothing is visited or gray
pub order-outside : (kept : List Object) (settled : List ℕ) (remembered : ℕ → ℕ → Bool)
    → YoungHeld kept settled remembered → HeldSettled settled remembered → IsInOrder kept settled [] [] remembered []
order-outside kept settled remembered young held = record {
  young = young;
  owed = λ x i y v e. none x v;
  held_settled = held;
  gray_settled = λ y g. none y g;
  visited_settled = λ x v. none x v;
  gray_reached = λ y g. none y g;
  visited_reached = λ x v. none x v;
}

nothing_gray : (a : Bool) → IsTrue (a || false) → IsTrue a
nothing_gray true h = refl
nothing_gray false h = h

pub kept-referrer : (kept : List Object) (x y : ℕ) → IsTrue (is_in y (referents_in (object_at kept x))) → IsTrue (is_kept kept x)
kept-referrer kept x y = go (object_at kept x)
  where
    go : (o : Option Object) → IsTrue (is_in y (referents_in o)) → IsTrue (is_some o)
    go None h = absurd (false≢true h)
    go (Some o) h = refl

-- with nothing gray, after the roots were queued again
module _ (kept : List Object) (settled roots visited : List ℕ) (queued : VisitsQueued kept settled visited []) (roots_queued : RootsQueued settled roots visited [])
    (unsettled_empty : (x i y : ℕ) → IsTrue (is_kept kept x) → IsFalse (is_in x settled) → IsItem kept x i y → ⊥) where
  pub closed-end : (x y : ℕ) → IsTrue (is_in x visited) → IsTrue (refers kept x y) → IsTrue (is_in y settled) → IsTrue (is_in y visited)
  closed-end x y v r t = let f : (i : ℕ) × IsItem kept x i y = referent-item kept x y (and_first (is_in y (referents_in (object_at kept x))) (is_kept kept y) r) in
      nothing_gray (is_in y visited) (queued x f.0 y v f.1 t)

  pub reached-end : (y : ℕ) → IsReachedFrom kept roots y → IsTrue (is_in y settled) → IsTrue (is_in y visited)
  reached-end = LeadsTo-least (λ x. is_in x roots && is_kept kept x) (refers kept) (λ y. IsTrue (is_in y settled) → IsTrue (is_in y visited))
      (λ x h t. nothing_gray (is_in x visited) (roots_queued x (and_first (is_in x roots) (is_kept kept x) h) t))
      (λ x y p r t. let m : IsTrue (is_in y (referents_in (object_at kept x))) = and_first (is_in y (referents_in (object_at kept x))) (is_kept kept y) r in
      ⊎_elim
      (λ s. closed-end x y (p s) r t)
      (λ u. let f : (i : ℕ) × IsItem kept x i y = referent-item kept x y m in absurd (unsettled_empty x f.0 y (kept-referrer kept x y m) u f.1))
      (cases_Bool (is_in x settled)))

-- what is unsettled is pinned, and what is pinned has no references
pub pinned-empty : (kept : List Object) (settled pinned : List ℕ) → ((x : ℕ) → IsTrue (is_kept kept x) → IsFalse (is_in x settled) → IsTrue (is_in x pinned))
    → ((x : ℕ) → IsTrue (is_in x pinned) → refs_of (object_at kept x) ≡ []) → (x i y : ℕ) → IsTrue (is_kept kept x) → IsFalse (is_in x settled) → IsItem kept x i y → ⊥
pinned-empty kept settled pinned unsettled empty x i y k u e = no_item (subst (λ r. slice_get r i ≡ Some (Some y)) (empty x (unsettled x k u)) e)
  where
    no_item : slice_get [] i ≡ Some (Some y) → ⊥
    no_item h = grind arith

-- a store is marked where a step's last visits left nothing gray
pub marked : (store : Store) → VisitsQueued store.kept store.settled store.visited [] → RootsQueued store.settled (roots_of store) store.visited []
    → ((x : ℕ) → IsTrue (is_kept store.kept x) → IsFalse (is_in x store.settled) → IsTrue (is_in x (pinned_births store)))
    → ((x : ℕ) → IsTrue (is_in x (pinned_births store)) → refs_of (object_at store.kept x) ≡ [])
    → IsMarked store
marked store queued roots_queued unsettled empty = record {
  reached = reached-end store.kept store.settled (roots_of store) store.visited queued roots_queued (pinned-empty store.kept store.settled (pinned_births store) unsettled empty);
  closed = closed-end store.kept store.settled (roots_of store) store.visited queued roots_queued (pinned-empty store.kept store.settled (pinned_births store) unsettled empty);
}

-- a whole last step: visits until nothing is gray, the roots queued again, and visits until nothing is gray
pub last-step : (kept : List Object) (settled roots : List ℕ) (remembered : ℕ → ℕ → Bool) (unreached visited gray births visited2 births2 visited3 : List ℕ)
    → AreKept kept settled → AreCutOff kept unreached → AreNoneOf roots unreached
    → Visits kept settled visited gray births visited2 [] → Visits kept settled visited2 (settled_of settled roots) births2 visited3 []
    → StepOrder kept settled visited gray remembered unreached
    → StepOrder kept settled visited3 [] remembered unreached × RootsQueued settled roots visited3 []
last-step kept settled roots remembered unreached visited gray births visited2 births2 visited3 settled_kept cut_off apart first second s =
    let mid : StepOrder kept settled visited2 [] remembered unreached = order-visits kept settled remembered unreached settled_kept cut_off visited gray births visited2 [] first s in
    let queued : StepOrder kept settled visited2 (settled_of settled roots) remembered unreached × RootsQueued settled roots visited2 (settled_of settled roots) = order-roots kept settled remembered unreached settled_kept cut_off roots visited2 [] apart mid in
    (order-visits kept settled remembered unreached settled_kept cut_off visited2 (settled_of settled roots) births2 visited3 [] second queued.0, roots-visits kept settled remembered unreached settled_kept cut_off roots visited2 (settled_of settled roots) births2 visited3 [] second queued.1)
