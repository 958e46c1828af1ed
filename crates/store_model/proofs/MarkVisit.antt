-- Visits keep marking in order.
use Rattle.std.specs.Prelude.{ℕ, Bool, ◌==◌, IsTrue, IsFalse, List, [], ◌∷◌, ◌++◌}
use Rattle.std.proofs.Common.{sym, inl, inr, subst, ⊎_elim}
use Rattle.object_model.specs.Sets.{is_in}
use Rattle.object_model.specs.Object.{Object, object_at}
use Rattle.store_model.specs.Roots.{referents_in}
use Rattle.store_model.specs.Sound.{AreKept, AreNoneOf, AreCutOff}
use Rattle.store_model.specs.MarkingOrder.{IsItem, IsInOrder, is_known, VisitsQueued, RootsQueued, settled_of, Visits, NoVisit, Passed, Visit}
use Rattle.store_model.proofs.MarkSets.{equal, only, in-one, in-filter, from-filter}
use Rattle.store_model.proofs.FieldChanges.{item-referent}
use Rattle.std.proofs.lemmas.Bool.{cases_Bool}
use Rattle.object_model.proofs.Members.{or_cases, or_first, or_second, not_both, in-left, in-right, in-either}

-- what holds all through a marking step, but for what never changes in it
pub record StepOrder (kept : List Object) (settled visited gray : List ℕ) (remembered : ℕ → ℕ → Bool) (unreached : List ℕ) : Type 0 where
  pub order : IsInOrder kept settled visited gray remembered unreached
  pub queued : VisitsQueued kept settled visited gray

module _ (kept : List Object) (settled : List ℕ) (remembered : ℕ → ℕ → Bool) (unreached : List ℕ) where
  -- the front of the queue is passed over, since it was visited
  known-passed : (visited rest : List ℕ) (x y : ℕ) → IsTrue (is_in x visited) → IsTrue (is_known visited (x ∷ rest) y) → IsTrue (is_known visited rest y)
  known-passed visited rest x y v h = ⊎_elim
      (λ o. or_first (is_in y visited) (is_in y rest) o)
      (λ g. ⊎_elim (λ e. or_first (is_in y visited) (is_in y rest) (subst (λ z. IsTrue (is_in z visited)) (sym (equal y x e)) v)) (λ r. or_second (is_in y visited) (is_in y rest) r) (or_cases (x == y) (is_in y rest) g))
      (or_cases (is_in y visited) (is_in y (x ∷ rest)) h)

  pub order-passed : (visited rest : List ℕ) (x : ℕ) → IsTrue (is_in x visited) → StepOrder kept settled visited (x ∷ rest) remembered unreached → StepOrder kept settled visited rest remembered unreached
  order-passed visited rest x v s = record {
    order = record {
      young = s.order.young;
      owed = λ z i y w e. ⊎_elim (λ k. inl (known-passed visited rest x y v k)) (λ h. inr h) (s.order.owed z i y w e);
      held_settled = s.order.held_settled;
      gray_settled = λ y g. s.order.gray_settled y (or_second (x == y) (is_in y rest) g);
      visited_settled = s.order.visited_settled;
      gray_reached = λ y g. s.order.gray_reached y (or_second (x == y) (is_in y rest) g);
      visited_reached = s.order.visited_reached;
    };
    queued = λ z i y w e t. known-passed visited rest x y v (s.queued z i y w e t);
  }

  -- the front is visited, and more is queued
  known-visited : (visited rest more : List ℕ) (x y : ℕ) → IsTrue (is_known visited (x ∷ rest) y) → IsTrue (is_known (visited ++ x ∷ []) (rest ++ more) y)
  known-visited visited rest more x y h = ⊎_elim
      (λ o. or_first (is_in y (visited ++ x ∷ [])) (is_in y (rest ++ more)) (in-left y visited (x ∷ []) o))
      (λ g. ⊎_elim
      (λ e. or_first (is_in y (visited ++ x ∷ [])) (is_in y (rest ++ more)) (subst (λ z. IsTrue (is_in z (visited ++ x ∷ []))) (sym (equal y x e)) (in-right x visited (x ∷ []) (in-one x))))
      (λ r. or_second (is_in y (visited ++ x ∷ [])) (is_in y (rest ++ more)) (in-left y rest more r))
      (or_cases (x == y) (is_in y rest) g))
      (or_cases (is_in y visited) (is_in y (x ∷ rest)) h)

  abbrev more_of : ℕ → List ℕ
  more_of x = settled_of settled (referents_in (object_at kept x))

  module _ (settled_kept : AreKept kept settled) (cut_off : AreCutOff kept unreached) where
    pub order-visited : (visited rest : List ℕ) (x : ℕ) → StepOrder kept settled visited (x ∷ rest) remembered unreached
        → StepOrder kept settled (visited ++ x ∷ []) (rest ++ settled_of settled (referents_in (object_at kept x))) remembered unreached
    order-visited visited rest x s = record {
      order = record {
        young = s.order.young;
        owed = λ z i y w e. ⊎_elim
            (λ t. inl (queued z i y w e t))
            (λ u. inr (⊎_elim (λ t. absurd (not_both (is_in y settled) t u)) (λ h. h) (s.order.young z i y (visited_settled z w) e)))
            (cases_Bool (is_in y settled));
        held_settled = s.order.held_settled;
        gray_settled = λ y g. ⊎_elim
            (λ r. s.order.gray_settled y (or_second (x == y) (is_in y rest) r))
            (λ m. (from-filter (λ z. is_in z settled) y (referents_in (object_at kept x)) m).1)
            (in-either y rest (more_of x) g);
        visited_settled = visited_settled;
        gray_reached = λ y g. ⊎_elim
            (λ r. s.order.gray_reached y (or_second (x == y) (is_in y rest) r))
            (λ m. cut_off x (settled_kept x settled_front) (s.order.gray_reached x front) y (from-filter (λ z. is_in z settled) y (referents_in (object_at kept x)) m).0)
            (in-either y rest (more_of x) g);
        visited_reached = λ z w. ⊎_elim (λ o. s.order.visited_reached z o) (λ n. subst (λ q. IsFalse (is_in q unreached)) (sym (only z x n)) (s.order.gray_reached x front)) (in-either z visited (x ∷ []) w);
      };
      queued = queued;
    }
      where
        front : IsTrue (is_in x (x ∷ rest))
        front = in-left x (x ∷ []) rest (in-one x)

        settled_front : IsTrue (is_in x settled)
        settled_front = s.order.gray_settled x front

        visited_settled : (z : ℕ) → IsTrue (is_in z (visited ++ x ∷ [])) → IsTrue (is_in z settled)
        visited_settled z w = ⊎_elim (λ o. s.order.visited_settled z o) (λ n. subst (λ q. IsTrue (is_in q settled)) (sym (only z x n)) settled_front) (in-either z visited (x ∷ []) w)

        queued : VisitsQueued kept settled (visited ++ x ∷ []) (rest ++ more_of x)
        queued z i y w e t = ⊎_elim
            (λ o. known-visited visited rest (more_of x) x y (s.queued z i y o e t))
            (λ n. or_second (is_in y (visited ++ x ∷ [])) (is_in y (rest ++ more_of x)) (in-right y rest (more_of x) (in-filter (λ q. is_in q settled) y (referents_in (object_at kept x)) (item-referent kept x i y (subst (λ q. IsItem kept q i y) (only z x n) e)) t)))
            (in-either z visited (x ∷ []) w)

    -- any number of visits
    pub order-visits : (visited gray births visited2 gray2 : List ℕ) → Visits kept settled visited gray births visited2 gray2
        → StepOrder kept settled visited gray remembered unreached → StepOrder kept settled visited2 gray2 remembered unreached
    order-visits visited gray births visited2 gray2 (NoVisit _ _) s = s
    order-visits visited gray births visited2 gray2 (Passed _ rest _ _ _ x v more) s = order-visits visited rest births visited2 gray2 more (order-passed visited rest x v s)
    order-visits visited gray births visited2 gray2 (Visit _ rest later _ _ x v more) s = order-visits (visited ++ x ∷ []) (rest ++ settled_of settled (referents_in (object_at kept x))) later visited2 gray2 more (order-visited visited rest x s)

    -- what was known stays so
    pub known-visits : (y : ℕ) (visited gray births visited2 gray2 : List ℕ) → Visits kept settled visited gray births visited2 gray2 → IsTrue (is_known visited gray y) → IsTrue (is_known visited2 gray2 y)
    known-visits y visited gray births visited2 gray2 (NoVisit _ _) k = k
    known-visits y visited gray births visited2 gray2 (Passed _ rest _ _ _ x v more) k = known-visits y visited rest births visited2 gray2 more (known-passed visited rest x y v k)
    known-visits y visited gray births visited2 gray2 (Visit _ rest later _ _ x v more) k = known-visits y (visited ++ x ∷ []) (rest ++ settled_of settled (referents_in (object_at kept x))) later visited2 gray2 more (known-visited visited rest (settled_of settled (referents_in (object_at kept x))) x y k)

    pub roots-visits : (roots visited gray births visited2 gray2 : List ℕ) → Visits kept settled visited gray births visited2 gray2 → RootsQueued settled roots visited gray → RootsQueued settled roots visited2 gray2
    roots-visits roots visited gray births visited2 gray2 v r x root t = known-visits x visited gray births visited2 gray2 v (r x root t)

    -- the roots are queued
    pub order-roots : (roots visited gray : List ℕ) → AreNoneOf roots unreached → StepOrder kept settled visited gray remembered unreached
        → StepOrder kept settled visited (gray ++ settled_of settled roots) remembered unreached × RootsQueued settled roots visited (gray ++ settled_of settled roots)
    order-roots roots visited gray apart s = (
      record {
        order = record {
          young = s.order.young;
          owed = λ z i y w e. ⊎_elim (λ k. inl (grows y k)) (λ h. inr h) (s.order.owed z i y w e);
          held_settled = s.order.held_settled;
          gray_settled = λ y g. ⊎_elim (λ r. s.order.gray_settled y r) (λ m. (from-filter (λ z. is_in z settled) y roots m).1) (in-either y gray (settled_of settled roots) g);
          visited_settled = s.order.visited_settled;
          gray_reached = λ y g. ⊎_elim (λ r. s.order.gray_reached y r) (λ m. apart y (from-filter (λ z. is_in z settled) y roots m).0) (in-either y gray (settled_of settled roots) g);
          visited_reached = s.order.visited_reached;
        };
        queued = λ z i y w e t. grows y (s.queued z i y w e t);
      },
      λ x root t. or_second (is_in x visited) (is_in x (gray ++ settled_of settled roots)) (in-right x gray (settled_of settled roots) (in-filter (λ z. is_in z settled) x roots root t)),
    )
      where
        grows : (y : ℕ) → IsTrue (is_known visited gray y) → IsTrue (is_known visited (gray ++ settled_of settled roots) y)
        grows y k = ⊎_elim (λ o. or_first (is_in y visited) (is_in y (gray ++ settled_of settled roots)) o) (λ g. or_second (is_in y visited) (is_in y (gray ++ settled_of settled roots)) (in-left y gray (settled_of settled roots) g)) (or_cases (is_in y visited) (is_in y gray) k)
