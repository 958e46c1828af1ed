-- An object is revived: what it reaches is told by a test, and leaves the lists of a cycle.
use Rattle.std.proofs.Common.{◌≡◌, ℕ, Bool, true, false, IsTrue, List, [], ◌∷◌, ◌++◌, Option, Some, None, refl, sym, ap, ◌∙◌, inl, inr}
use Rattle.std.specs.Prelude.{IsFalse, not, ◌&&◌, filter}
use Rattle.std.proofs.lemmas.Bool.{cases_Bool}
use Rattle.object_model.specs.Sets.{is_in}
use Rattle.object_model.specs.Object.{Object, object_at}
use Rattle.store_model.specs.Roots.{is_kept, referents_in}
use Rattle.store_model.specs.Reach.{refers}
use Rattle.store_model.specs.Sound.{AreFieldsKept, AreCutOff}
use Rattle.store_model.specs.MarkingOrder.{AreAllIn}
use Rattle.store_model.proofs.SoundLaws.{CanBeRoot}
use Rattle.store_model.proofs.RootLaws.{Relieves}
use Rattle.store_model.proofs.Rounds.{Leads-append, is_in-filter, revived_by, tells_revived}
use Rattle.object_model.proofs.Members.{and_first, and_second, and_both}

not-true : (b : Bool) → not b ≡ true → b ≡ false
not-true true e = absurd (let no : ⊥ = cc in no)
not-true false e = refl

without-less : (revived : ℕ → Bool) (xs : List ℕ) → AreAllIn (filter (λ x. not (revived x)) xs) xs
without-less revived xs x t = and_second (not (revived x)) (is_in x xs) (sym (is_in-filter (λ y. not (revived y)) x xs) ∙ t)

without-in : (revived : ℕ → Bool) (xs : List ℕ) (x : ℕ) → IsTrue (is_in x xs) → revived x ≡ false → IsTrue (is_in x (filter (λ y. not (revived y)) xs))
without-in revived xs x t f = is_in-filter (λ y. not (revived y)) x xs ∙ and_both (not (revived x)) (is_in x xs) (ap not f) t

-- what is left when what an object reaches leaves
without-cut : (kept : List Object) (revived : ℕ → Bool) (dead : List ℕ) → ((x y : ℕ) → IsTrue (revived x) → IsTrue (is_in y (referents_in (object_at kept x))) → IsTrue (revived y))
    → AreCutOff kept dead → AreCutOff kept (filter (λ x. not (revived x)) dead)
without-cut kept revived dead closed cut x k f y t =
    elim (cases_Bool (is_in y (filter (λ z. not (revived z)) dead))) [
      | inr e ↦ e
      | inl e ↦
          let was : IsTrue (is_in y dead) = without-less revived dead y e in
          let not_revived : IsTrue (not (revived y)) = and_first (not (revived y)) (is_in y dead) (sym (is_in-filter (λ z. not (revived z)) y dead) ∙ e) in
          elim (cases_Bool (is_in x dead)) [
            | inr out ↦ absurd (let no_more = cut x k out y t in let no : ⊥ = cc in no)
            | inl in_dead ↦ elim (cases_Bool (revived x)) [
              | inl r ↦ absurd (let yes = closed x y r t in let f2 = not-true (revived y) not_revived in let no : ⊥ = cc in no)
              | inr r ↦ absurd (let yes = without-in revived dead x in_dead r in let no : ⊥ = cc in no)
            ]
          ]
    ]

-- An object is revived: what it reaches leaves the unreached and the doomed.
pub relieves_revived : (kept : List Object) (birth : Option ℕ) (unreached doomed : List ℕ) → AreFieldsKept kept
    → Relieves kept unreached doomed (filter (λ x. not (revived_by kept birth x)) unreached) (filter (λ x. not (revived_by kept birth x)) doomed)
relieves_revived kept birth unreached doomed fields =
    let revived : ℕ → Bool = revived_by kept birth in
    let closed : (x y : ℕ) → IsTrue (revived x) → IsTrue (is_in y (referents_in (object_at kept x))) → IsTrue (revived y) =
    λ x y r t. revived-step kept birth x y r t (fields.references x y t) in record {
      unreached_less = without-less revived unreached;
      doomed_less = without-less revived doomed;
      unreached_cut = without-cut kept revived unreached closed;
      doomed_cut = without-cut kept revived doomed closed;
      within = λ all x t. without-in revived unreached x (all x (without-less revived doomed x t))
          (not-true (revived x) (and_first (not (revived x)) (is_in x doomed) (sym (is_in-filter (λ z. not (revived z)) x doomed) ∙ t)));
    }
  where
    revived-step : (kept : List Object) (birth : Option ℕ) (x y : ℕ) → IsTrue (revived_by kept birth x) → IsTrue (is_in y (referents_in (object_at kept x))) → IsTrue (is_kept kept y)
        → IsTrue (revived_by kept birth y)
    revived-step kept None x y r t k = r
    revived-step kept (Some b) x y r t k =
        let reach = (tells_revived kept (Some b) x).0 r in
        (tells_revived kept (Some b) y).1 (
          reach.0,
          reach.1 ++ y ∷ [],
          Leads-append (refers kept) b reach.1 x (y ∷ []) y reach.2
              (and_both (is_in y (referents_in (object_at kept x))) (is_kept kept y) t k, refl),
        )

-- the object itself may be a root then
pub can_revived : (kept : List Object) (b : ℕ) (unreached doomed : List ℕ) → IsTrue (is_kept kept b)
    → CanBeRoot kept (filter (λ x. not (revived_by kept (Some b) x)) unreached) (filter (λ x. not (revived_by kept (Some b) x)) doomed) b
can_revived kept b unreached doomed k =
    let revived : ℕ → Bool = revived_by kept (Some b) in
    let itself : IsTrue (revived b) = (tells_revived kept (Some b) b).1 (k, [], refl) in
    let gone : (xs : List ℕ) → IsFalse (is_in b (filter (λ x. not (revived x)) xs)) = λ xs.
    is_in-filter (λ x. not (revived x)) b xs ∙ ap (λ (r : Bool). not r && is_in b xs) itself in
    record { is_there = k; reached = gone unreached; retained = gone doomed }
