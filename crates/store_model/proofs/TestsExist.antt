-- Each store has tests of what is reached, retained and saved, and of which births reach which.
use Rattle.std.proofs.Common.{ℕ, Bool, IsTrue, List, ◌++◌, map, refl, subst, inl, inr}
use Rattle.std.specs.Prelude.{◌==◌, ◌&&◌}
use Rattle.std.proofs.lemmas.Bool.{eq-eqb}
use Rattle.std.proofs.lemmas.Bool.Decides.{eqb_tells}
use Rattle.object_model.proofs.Members.{and_first, and_second, and_both}
use Rattle.object_model.specs.declared.settings.Settings.{Settings}
use Rattle.object_model.specs.Object.{Object, object_at}
use Rattle.store_model.specs.Store.{Store}
use Rattle.object_model.specs.Sets.{is_in}
use Rattle.store_model.specs.Roots.{is_kept, roots_of, registered_births, referents_in}
use Rattle.store_model.specs.Reach.{Leads, Reaches, refers, is_registered, Tells, LeadsTo}
use Rattle.store_model.specs.Marking.{is_dying, is_white}
use Rattle.store_model.specs.Sound.{IsSound}
use Rattle.store_model.proofs.Rounds.{led_test, led_tells, kept-births}

-- a test of what starts lead to
pub record LedTest (start : ℕ → Bool) (step : ℕ → ℕ → Bool) : Type 0 where
  pub test : ℕ → Bool
  pub tells : Tells test (LeadsTo start step)

led : (start : ℕ → Bool) (step : ℕ → ℕ → Bool) (all : List ℕ) → ((x : ℕ) → IsTrue (start x) → IsTrue (is_in x all)) → ((x y : ℕ) → IsTrue (step x y) → IsTrue (is_in y all)) → LedTest start step
led start step all starts steps = record { test = led_test start step all; tells = led_tells start step all starts steps }

-- what starts that are kept lead to by references
pub kept_test : (kept : List Object) (start : ℕ → Bool) → ((x : ℕ) → IsTrue (start x) → IsTrue (is_kept kept x)) → LedTest start (refers kept)
kept_test kept start there = led start (refers kept) (map (λ o. o.birth) kept) (λ x t. kept-births kept x (there x t))
    (λ x y t. kept-births kept y (and_second (is_in y (referents_in (object_at kept x))) (is_kept kept y) t))

pub reached_test : (store : Store) → LedTest (λ x. is_in x (roots_of store) && is_kept store.kept x) (refers store.kept)
reached_test store = kept_test store.kept (λ x. is_in x (roots_of store) && is_kept store.kept x) (λ x t. and_second (is_in x (roots_of store)) (is_kept store.kept x) t)

pub retained_test : (store : Store) → LedTest (λ x. is_in x (roots_of store ++ registered_births store) && is_kept store.kept x) (refers store.kept)
retained_test store = kept_test store.kept (λ x. is_in x (roots_of store ++ registered_births store) && is_kept store.kept x)
    (λ x t. and_second (is_in x (roots_of store ++ registered_births store)) (is_kept store.kept x) t)

pub saved_test : (settings : Settings) (store : Store) → IsSound settings store → LedTest (is_dying store) (refers store.kept)
saved_test settings store sound = kept_test store.kept (is_dying store) (λ x t. sound.registered x (and_first (is_registered store x) (is_white store x) t))

-- which births reach which, where the first is kept
pub reach_test : (kept : List Object) (x : ℕ) → LedTest (λ z. (z == x) && is_kept kept z) (refers kept)
reach_test kept x = kept_test kept (λ z. (z == x) && is_kept kept z) (λ z t. and_second (z == x) (is_kept kept z) t)

abbrev pub reaches : List Object → ℕ → ℕ → Bool
reaches kept x = (reach_test kept x).test

pub reaches_tells : (kept : List Object) (x y : ℕ) → (IsTrue (reaches kept x y) → Reaches kept x y) × (Reaches kept x y → IsTrue (reaches kept x y))
reaches_tells kept x y = (
  λ t. (let l = ((reach_test kept x).tells y).0 t in
      from l.0 l.2 (and_first (l.0 == x) (is_kept kept l.0) l.1) (and_second (l.0 == x) (is_kept kept l.0) l.1) l.3),
  λ r. ((reach_test kept x).tells y).1 (x, and_both (x == x) (is_kept kept x) (eq-eqb x x refl) r.0, r.1, r.2),
)
  where
    from : (z : ℕ) (path : List ℕ) → IsTrue (z == x) → IsTrue (is_kept kept z) → Leads (refers kept) z path y → Reaches kept x y
    from z path is there leads = elim (eqb_tells z x) [
      | inl e ↦ subst (λ (k : ℕ). Reaches kept k y) e.1 (there, path, leads)
      | inr e ↦ absurd (let other = e.0 in let no : ⊥ = cc in no)
    ]
