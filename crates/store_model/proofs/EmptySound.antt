-- The empty store is sound.
use Rattle.std.proofs.Common.{◌≡◌, ℕ, zero, suc, IsTrue, List, [], replicate, Option, None, refl, subst, arith}
use Rattle.std.specs.Prelude.{filter_map}
use Rattle.std.specs.List.{IsDistinct}
use Rattle.std.proofs.lemmas.List.Elements.{All-nil}
use Rattle.object_model.proofs.Members.{is_in-nil}
use Rattle.object_model.specs.declared.settings.Settings.{Settings}
use Rattle.store_model.specs.Store.{empty_store}
use Rattle.object_model.specs.Sets.{is_in}
use Rattle.store_model.specs.Roots.{roots_of}
use Rattle.store_model.specs.Sound.{IsSound}

pub none : (x : ℕ) {A : Type 0} → IsTrue (is_in x []) → A
none x t = absurd (is_in-nil x t)

no-births : (roots : ℕ) → filter_map (λ (s : Option ℕ). s) (replicate roots None) ≡ []
no-births zero = refl
no-births (suc roots) = no-births roots

no-roots : (settings : Settings) → roots_of (empty_store settings) ≡ []
no-roots settings = rw (no-births settings.roots) refl

-- the empty store is sound
pub empty_sound : (settings : Settings) → IsSound settings (empty_store settings)
unfolding IsDistinct
empty_sound settings = record {
  fields = record { references = λ x y t. none y t; targets = λ x t e. absurd (let no : ⊥ = cc in no) };
  settled = λ x t. none x t;
  roots = λ x t. none x (subst (λ (xs : List ℕ). IsTrue (is_in x xs)) (no-roots settings) t);
  registered = λ x t. none x t;
  pins = record {
    differ = tt;
    few = omega arith;
    counted = All-nil _;
    unsettled = λ x t. none x t;
    no_references = λ x t. none x t;
    no_target = λ x t. none x t;
  };
  queues_rise = (λ i j d below within. absurd (let no : ⊥ = omega (arith, within) in no));
  once = tt;
  waiting = λ x t. none x t;
  roots_reached = λ x t. refl;
  unreached_cut_off = λ x k f y t. refl;
  unreached_born = λ x t. none x t;
  roots_retained = λ x t. refl;
  registered_retained = λ x t. refl;
  doomed_cut_off = λ x k f y t. refl;
  doomed_born = λ x t. none x t;
  phase = (refl, refl, record { no_visited = refl; no_unreached = refl });
  links = record {
    rises = (λ i j d below within. absurd (let no : ⊥ = omega (arith, within) in no));
    objects = λ n x e. absurd (let no : ⊥ = cc in no);
    one_p_link = λ n m x e f. absurd (let no : ⊥ = cc in no);
    dead_once = tt;
    dead_pending = λ n t. none n t;
    pending_dead = λ n e. absurd (let no : ⊥ = cc in no);
    in_range = λ n s e. absurd (let no : ⊥ = cc in no);
  };
  births = record {
    next_above = omega arith;
    homes_rise = (λ i j d below within. absurd (let no : ⊥ = omega (arith, within) in no));
    born = λ x t. none x t;
    differ = tt;
    homes_differ = λ x y p e f. absurd (let no : ⊥ = cc in no);
    housed = λ x p e. absurd (let no : ⊥ = cc in no);
  };
}
