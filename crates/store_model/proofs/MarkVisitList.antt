-- What visits visit may be visited.
use Rattle.std.specs.List.{list_all, IsDistinct}
use Rattle.std.specs.Prelude.{◌≡◌, ℕ, Bool, true, false, not, ◌&&◌, ◌==◌, IsTrue, IsFalse, List, [], ◌∷◌, ◌++◌, refl, nat_eq}
use Rattle.std.proofs.Common.{sym, ◌∙◌, subst, append_assoc, append-nil, ⊎_elim}
use Rattle.object_model.specs.Sets.{is_in}
use Rattle.object_model.specs.Object.{Object, object_at}
use Rattle.store_model.specs.Roots.{referents_in}
use Rattle.store_model.specs.Sound.{AreKept, AreCutOff}
use Rattle.store_model.specs.MarkingOrder.{settled_of, Visits, NoVisit, Passed, Visit}
use Rattle.store_model.proofs.MarkSets.{is_false, equal, in-one}
use Rattle.std.proofs.lemmas.Bool.{false≢true}
use Rattle.object_model.proofs.Members.{and_both, or_cases, not_both, in-left, in-right}
use Rattle.store_model.proofs.MarkVisit.{order-visited, StepOrder, order-passed}
use Rattle.object_model.proofs.Distinct.{all_differ}

module _ (kept : List Object) (settled : List ℕ) (remembered : ℕ → ℕ → Bool) (unreached : List ℕ) (settled_kept : AreKept kept settled) (cut_off : AreCutOff kept unreached) where
  -- the births join the visited, in order
  pub visited-all : (visited gray births visited2 gray2 : List ℕ) → Visits kept settled visited gray births visited2 gray2 → visited2 ≡ visited ++ births
  visited-all visited gray births visited2 gray2 (NoVisit _ _) = sym (append-nil visited)
  visited-all visited gray births visited2 gray2 (Passed _ rest _ _ _ x v more) = visited-all visited rest births visited2 gray2 more
  visited-all visited gray births visited2 gray2 (Visit _ rest later _ _ x v more) = visited-all (visited ++ x ∷ []) (rest ++ settled_of settled (referents_in (object_at kept x))) later visited2 gray2 more ∙ append_assoc visited (x ∷ []) later

  -- none of them was visited before
  pub unvisited-all : (visited gray births visited2 gray2 : List ℕ) → Visits kept settled visited gray births visited2 gray2 → (y : ℕ) → IsTrue (is_in y visited) → IsFalse (is_in y births)
  unvisited-all visited gray births visited2 gray2 (NoVisit _ _) y v = refl
  unvisited-all visited gray births visited2 gray2 (Passed _ rest _ _ _ x w more) y v = unvisited-all visited rest births visited2 gray2 more y v
  unvisited-all visited gray births visited2 gray2 (Visit _ rest later _ _ x w more) y v =
      is_false (is_in y (x ∷ later)) (λ t. ⊎_elim
      (λ e. not_both (is_in x visited) (subst (λ z. IsTrue (is_in z visited)) (equal y x e) v) w)
      (λ l. not_both (is_in y later) l (unvisited-all (visited ++ x ∷ []) (rest ++ settled_of settled (referents_in (object_at kept x))) later visited2 gray2 more y (in-left y visited (x ∷ []) v)))
      (or_cases (x == y) (is_in y later) t))

  pub distinct-visits : (visited gray births visited2 gray2 : List ℕ) → Visits kept settled visited gray births visited2 gray2 → IsDistinct nat_eq births
  unfolding IsDistinct
  distinct-visits visited gray births visited2 gray2 (NoVisit _ _) = tt
  distinct-visits visited gray births visited2 gray2 (Passed _ rest _ _ _ x w more) = distinct-visits visited rest births visited2 gray2 more
  distinct-visits visited gray births visited2 gray2 (Visit _ rest later _ _ x w more) = (
    all_differ x later (unvisited-all (visited ++ x ∷ []) (rest ++ settled_of settled (referents_in (object_at kept x))) later visited2 gray2 more x (in-right x visited (x ∷ []) (in-one x))),
    distinct-visits (visited ++ x ∷ []) (rest ++ settled_of settled (referents_in (object_at kept x))) later visited2 gray2 more,
  )

  -- each of them may be visited: it is settled, was not visited before any of these, and is not unreached
  pub allowed-visits : (before visited gray births visited2 gray2 : List ℕ) → ((y : ℕ) → IsTrue (is_in y before) → IsTrue (is_in y visited)) → Visits kept settled visited gray births visited2 gray2
      → StepOrder kept settled visited gray remembered unreached → IsTrue (list_all (λ b. is_in b settled && (not (is_in b before) && not (is_in b unreached))) births)
  allowed-visits before visited gray births visited2 gray2 grows (NoVisit _ _) s = refl
  allowed-visits before visited gray births visited2 gray2 grows (Passed _ rest _ _ _ x w more) s = allowed-visits before visited rest births visited2 gray2 grows more (order-passed kept settled remembered unreached visited rest x w s)
  allowed-visits before visited gray births visited2 gray2 grows (Visit _ rest later _ _ x w more) s =
      and_both (is_in x settled && (not (is_in x before) && not (is_in x unreached))) (list_all (λ b. is_in b settled && (not (is_in b before) && not (is_in b unreached))) later)
      (three (is_in x settled) (is_in x before) (is_in x unreached) (s.order.gray_settled x front) (is_false (is_in x before) (λ b. not_both (is_in x visited) (grows x b) w)) (s.order.gray_reached x front))
      (allowed-visits before (visited ++ x ∷ []) (rest ++ settled_of settled (referents_in (object_at kept x))) later visited2 gray2 (λ y b. in-left y visited (x ∷ []) (grows y b)) more (order-visited kept settled remembered unreached settled_kept cut_off visited rest x s))
    where
      front : IsTrue (is_in x (x ∷ rest))
      front = in-left x (x ∷ []) rest (in-one x)

      three : (a b c : Bool) → IsTrue a → IsFalse b → IsFalse c → IsTrue (a && (not b && not c))
      three true false false p q r = refl
      three true true c p q r = absurd (false≢true (sym q))
      three true false true p q r = absurd (false≢true (sym r))
      three false b c p q r = absurd (false≢true p)
