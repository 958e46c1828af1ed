-- A marking step by visits is one of the store: it goes on, or it ends marking.
use Rattle.std.proofs.Common.{◌≡◌, ℕ, ◌<◌, Bool, true, false, IsTrue, List, [], ◌∷◌, ◌++◌, map, length, append_assoc, refl, sym, ap, ◌∙◌, subst}
use Rattle.std.specs.Prelude.{IsFalse, ◌-◌, not, ◌&&◌, take, nat_le}
use Rattle.std.specs.List.{list_all}
use Rattle.text_model.specs.declared.line.Line.{Line}
use Rattle.text_model.specs.declared.line.Line.TheVariants.{Stepped, Visited}
use Rattle.text_model.specs.declared.line.Phase.TheVariants.{Marking, Sweeping}
use Rattle.object_model.specs.declared.settings.Settings.{Settings}
use Rattle.object_model.specs.Sets.{is_in}
use Rattle.store_model.specs.Store.{Store, is_settled}
use Rattle.object_model.specs.Object.{object_at}
use Rattle.object_model.specs.Fields.{refs_of}
use Rattle.store_model.specs.Roots.{pinned_births, is_kept, roots_of}
use Rattle.store_model.specs.Sound.{AreKept, AreNoneOf, AreCutOff}
use Rattle.store_model.specs.Marking.{IsMarked, MarkingStep, GoesOn, EndOfMarking, visited_words, with_visited}
use Rattle.store_model.specs.MarkingOrder.{settled_of, Visits, IsItem, is_known}
use Rattle.object_model.proofs.Members.{and_first, and_second, and_both, in-left, in-right}
use Rattle.store_model.proofs.MarkVisit.{order-visits, order-roots, StepOrder}
use Rattle.store_model.proofs.MarkVisitList.{visited-all, unvisited-all, distinct-visits, allowed-visits}
use Rattle.object_model.proofs.Distinct.{distinct_append}
use Rattle.store_model.proofs.MarkEnds.{marked, last-step}

all-append : (test : ℕ → Bool) (xs ys : List ℕ) → IsTrue (list_all test xs) → IsTrue (list_all test ys) → IsTrue (list_all test (xs ++ ys))
all-append test [] ys a b = b
all-append test (x ∷ xs) ys a b = and_both (test x) (list_all test (xs ++ ys)) (and_first (test x) (list_all test xs) a) (all-append test xs ys (and_second (test x) (list_all test xs) a) b)

module _ (settings : Settings) (store : Store) (remembered : ℕ → ℕ → Bool) (settled_kept : AreKept store.kept store.settled) (cut_off : AreCutOff store.kept store.unreached) where
  abbrev may : ℕ → Bool
  may b = is_settled store.settled b && (not (is_in b store.visited) && not (is_in b store.unreached))

  pub step_goes_on : (gray births visited2 gray2 : List ℕ) → StepOrder store.kept store.settled store.visited gray remembered store.unreached
      → Visits store.kept store.settled store.visited gray births visited2 gray2 → visited_words store.kept (take (length births - 1) births) < settings.increment
      → nat_le settings.increment (visited_words store.kept births) ≡ true
      → MarkingStep settings store (Stepped Marking Marking ∷ map (λ b. Visited b) births) (record store { visited = visited2 })
  step_goes_on gray births visited2 gray2 s v few enough = record {
    births = births;
    can = record {
      unvisited = allowed-visits store.kept store.settled remembered store.unreached settled_kept cut_off store.visited store.visited gray births visited2 gray2 (λ y h. h) v s;
      differ = distinct-visits store.kept store.settled remembered store.unreached settled_kept cut_off store.visited gray births visited2 gray2 v;
      few = few;
    };
    goes_on = subst (λ (b : Bool). GoesOn b settings (with_visited store births) (map (λ b. Visited b) births) (Stepped Marking Marking ∷ map (λ b. Visited b) births) (record store { visited = visited2 })) (sym enough)
        (refl, ap (λ (w : List ℕ). record store { visited = w }) (visited-all store.kept store.settled remembered store.unreached settled_kept cut_off store.visited gray births visited2 gray2 v));
  }

  -- where the list is empty after the second queueing of the roots, all was visited
  pub marked_after : (gray births visited2 births2 visited3 : List ℕ) → AreNoneOf (roots_of store) store.unreached
      → ((x : ℕ) → IsTrue (is_kept store.kept x) → IsFalse (is_in x store.settled) → IsTrue (is_in x (pinned_births store))) → ((x : ℕ) → IsTrue (is_in x (pinned_births store)) → refs_of (object_at store.kept x) ≡ [])
      → StepOrder store.kept store.settled store.visited gray remembered store.unreached
      → Visits store.kept store.settled store.visited gray births visited2 [] → Visits store.kept store.settled visited2 (settled_of store.settled (roots_of store)) births2 visited3 []
      → IsMarked (with_visited store (births ++ births2))
  marked_after gray births visited2 births2 visited3 apart unsettled empty s v w =
      let mid : StepOrder store.kept store.settled visited2 [] remembered store.unreached = order-visits store.kept store.settled remembered store.unreached settled_kept cut_off store.visited gray births visited2 [] v s in
      let done = last-step store.kept store.settled (roots_of store) remembered store.unreached store.visited gray births visited2 births2 visited3 settled_kept cut_off apart v w s in
      let first : visited2 ≡ store.visited ++ births = visited-all store.kept store.settled remembered store.unreached settled_kept cut_off store.visited gray births visited2 [] v in
      let all : visited3 ≡ store.visited ++ (births ++ births2) = visited-all store.kept store.settled remembered store.unreached settled_kept cut_off visited2 (settled_of store.settled (roots_of store)) births2 visited3 [] w
      ∙ (ap (λ (z : List ℕ). z ++ births2) first ∙ append_assoc store.visited births births2) in
      marked (with_visited store (births ++ births2))
      (subst (λ (z : List ℕ). (x i y : ℕ) → IsTrue (is_in x z) → IsItem store.kept x i y → IsTrue (is_in y store.settled) → IsTrue (is_known z [] y)) all done.0.queued)
      (subst (λ (z : List ℕ). (x : ℕ) → IsTrue (is_in x (roots_of store)) → IsTrue (is_in x store.settled) → IsTrue (is_known z [] x)) all done.1) unsettled empty

  pub step_ends : (gray births visited2 births2 visited3 : List ℕ) (rest : List Line) (new : Store)
      → AreNoneOf (roots_of store) store.unreached
      → ((x : ℕ) → IsTrue (is_kept store.kept x) → IsFalse (is_in x store.settled) → IsTrue (is_in x (pinned_births store))) → ((x : ℕ) → IsTrue (is_in x (pinned_births store)) → refs_of (object_at store.kept x) ≡ [])
      → StepOrder store.kept store.settled store.visited gray remembered store.unreached
      → Visits store.kept store.settled store.visited gray births visited2 [] → Visits store.kept store.settled visited2 (settled_of store.settled (roots_of store)) births2 visited3 []
      → visited_words store.kept (take (length (births ++ births2) - 1) (births ++ births2)) < settings.increment
      → nat_le settings.increment (visited_words store.kept (births ++ births2)) ≡ false
      → (IsMarked (with_visited store (births ++ births2)) → EndOfMarking settings (with_visited store (births ++ births2)) rest new)
      → MarkingStep settings store (Stepped Marking Sweeping ∷ (map (λ b. Visited b) (births ++ births2) ++ rest)) new
  step_ends gray births visited2 births2 visited3 rest new apart unsettled empty s v w few short ends =
      let mid : StepOrder store.kept store.settled visited2 [] remembered store.unreached = order-visits store.kept store.settled remembered store.unreached settled_kept cut_off store.visited gray births visited2 [] v s in
      let again = order-roots store.kept store.settled remembered store.unreached settled_kept cut_off (roots_of store) visited2 [] apart mid in
      let done = last-step store.kept store.settled (roots_of store) remembered store.unreached store.visited gray births visited2 births2 visited3 settled_kept cut_off apart v w s in
      let first : visited2 ≡ store.visited ++ births = visited-all store.kept store.settled remembered store.unreached settled_kept cut_off store.visited gray births visited2 [] v in
      let all : visited3 ≡ store.visited ++ (births ++ births2) = visited-all store.kept store.settled remembered store.unreached settled_kept cut_off visited2 (settled_of store.settled (roots_of store)) births2 visited3 [] w
      ∙ (ap (λ (z : List ℕ). z ++ births2) first ∙ append_assoc store.visited births births2) in
      let grown : (y : ℕ) → IsTrue (is_in y store.visited) → IsTrue (is_in y visited2) = λ y h. subst (λ (z : List ℕ). IsTrue (is_in y z)) (sym first) (in-left y store.visited births h) in
      record {
        births = births ++ births2;
        can = record {
          unvisited = all-append may births births2
              (allowed-visits store.kept store.settled remembered store.unreached settled_kept cut_off store.visited store.visited gray births visited2 [] (λ y h. h) v s)
              (allowed-visits store.kept store.settled remembered store.unreached settled_kept cut_off store.visited visited2 (settled_of store.settled (roots_of store)) births2 visited3 [] grown w again.0);
          differ = distinct_append births births2
              (distinct-visits store.kept store.settled remembered store.unreached settled_kept cut_off store.visited gray births visited2 [] v)
              (distinct-visits store.kept store.settled remembered store.unreached settled_kept cut_off visited2 (settled_of store.settled (roots_of store)) births2 visited3 [] w)
              (λ x h. unvisited-all store.kept store.settled remembered store.unreached settled_kept cut_off visited2 (settled_of store.settled (roots_of store)) births2 visited3 [] w x
              (subst (λ (z : List ℕ). IsTrue (is_in x z)) (sym first) (in-right x store.visited births h)));
          few = few;
        };
        goes_on = subst (λ (b : Bool). GoesOn b settings (with_visited store (births ++ births2)) (map (λ b. Visited b) (births ++ births2)) (Stepped Marking Sweeping ∷ (map (λ b. Visited b) (births ++ births2) ++ rest)) new) (sym short) (
          rest,
          ends (marked (with_visited store (births ++ births2))
              (subst (λ (z : List ℕ). (x i y : ℕ) → IsTrue (is_in x z) → IsItem store.kept x i y → IsTrue (is_in y store.settled) → IsTrue (is_known z [] y)) all done.0.queued)
              (subst (λ (z : List ℕ). (x : ℕ) → IsTrue (is_in x (roots_of store)) → IsTrue (is_in x store.settled) → IsTrue (is_known z [] x)) all done.1) unsettled empty),
          refl,
        );
      }
