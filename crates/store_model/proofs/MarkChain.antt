-- Laws of visits that a loop and its caller want.
use Rattle.std.specs.Prelude.{ℕ, ◌==◌, ◌⊎◌, IsTrue, List, [], ◌∷◌, ◌++◌}
use Rattle.std.proofs.Common.{inl, inr, ⊎_elim}
use Rattle.object_model.specs.Sets.{is_in}
use Rattle.object_model.specs.Object.{Object, object_at}
use Rattle.store_model.specs.Roots.{referents_in}
use Rattle.store_model.specs.MarkingOrder.{settled_of, Visits, NoVisit, Passed, Visit}
use Rattle.store_model.proofs.MarkSets.{same, from-filter}
use Rattle.object_model.proofs.Members.{or_first, or_second, in-either}

module _ (kept : List Object) (settled : List ℕ) where
  -- one chain of visits after another
  pub visits-then : (visited gray births visited2 gray2 births2 visited3 gray3 : List ℕ) → Visits kept settled visited gray births visited2 gray2 → Visits kept settled visited2 gray2 births2 visited3 gray3
      → Visits kept settled visited gray (births ++ births2) visited3 gray3
  visits-then visited gray births visited2 gray2 births2 visited3 gray3 (NoVisit _ _) w = w
  visits-then visited gray births visited2 gray2 births2 visited3 gray3 (Passed _ rest _ _ _ x v more) w = Passed visited rest (births ++ births2) visited3 gray3 x v (visits-then visited rest births visited2 gray2 births2 visited3 gray3 more w)
  visits-then visited gray births visited2 gray2 births2 visited3 gray3 (Visit _ rest later _ _ x v more) w =
      Visit visited rest (later ++ births2) visited3 gray3 x v (visits-then (visited ++ x ∷ []) (rest ++ settled_of settled (referents_in (object_at kept x))) later visited2 gray2 births2 visited3 gray3 more w)

  -- afterwards the list holds nothing but what it held before and settled referents of what was visited
  pub gray-from-visits : (y : ℕ) (visited gray births visited2 gray2 : List ℕ) → Visits kept settled visited gray births visited2 gray2 → IsTrue (is_in y gray2)
      → IsTrue (is_in y gray) ⊎ ((x : ℕ) × IsTrue (is_in x births) × IsTrue (is_in y (referents_in (object_at kept x))) × IsTrue (is_in y settled))
  gray-from-visits y visited gray births visited2 gray2 (NoVisit _ _) h = inl h
  gray-from-visits y visited gray births visited2 gray2 (Passed _ rest _ _ _ x v more) h = ⊎_elim (λ r. inl (or_second (x == y) (is_in y rest) r)) (λ n. inr n) (gray-from-visits y visited rest births visited2 gray2 more h)
  gray-from-visits y visited gray births visited2 gray2 (Visit _ rest later _ _ x v more) h =
      ⊎_elim
      (λ g. ⊎_elim
      (λ r. inl (or_second (x == y) (is_in y rest) r))
      (λ q. let f : IsTrue (is_in y (referents_in (object_at kept x))) × IsTrue (is_in y settled) = from-filter (λ z. is_in z settled) y (referents_in (object_at kept x)) q in inr (x, or_first (x == x) (is_in x later) (same x), f.0, f.1))
      (in-either y rest (settled_of settled (referents_in (object_at kept x))) g))
      (λ n. inr (n.0, or_second (x == n.0) (is_in n.0 later) n.1, n.2, n.3))
      (gray-from-visits y (visited ++ x ∷ []) (rest ++ settled_of settled (referents_in (object_at kept x))) later visited2 gray2 more h)
