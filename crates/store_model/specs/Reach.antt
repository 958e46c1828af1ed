-- Reachability by paths.
use Rattle.std.specs.Prelude.{◌≡◌, ℕ, Bool, ◌&&◌, IsTrue, ◌↔◌, List, [], ◌∷◌, ◌++◌, map, filter}
use Rattle.object_model.specs.Sets.{is_in}
use Rattle.object_model.specs.Object.{Object, object_at}
use Rattle.store_model.specs.Store.{Store}
use Rattle.store_model.specs.Roots.{is_kept, roots_of, registered_births, referents_in}

-- the test holds of just the births of which this is so
abbrev pub Tells : (ℕ → Bool) → (ℕ → Type 0) → Type 0
Tells test P = (x : ℕ) → IsTrue (test x) ↔ P x

-- the objects whose births pass the test
abbrev pub objects_where : List Object → (ℕ → Bool) → List Object
objects_where kept test = filter (λ object. test object.birth) kept

-- their births, by rising birth where the objects are
abbrev pub births_where : List Object → (ℕ → Bool) → List ℕ
births_where kept test = map (λ object. object.birth) (objects_where kept test)

-- whether it is a root
abbrev pub is_root : Store → ℕ → Bool
is_root store x = is_in x (roots_of store)

-- whether it is registered
abbrev pub is_registered : Store → ℕ → Bool
is_registered store x = is_in x (registered_births store)

-- whether the object of x is kept and refers to y, which is kept
abbrev pub refers : List Object → ℕ → ℕ → Bool
refers kept x y = is_in y (referents_in (object_at kept x)) && is_kept kept y

-- the path leads on from x, by steps of the given kind, and ends at y
abbrev pub Leads : (ℕ → ℕ → Bool) → ℕ → List ℕ → ℕ → Type 0
Leads step x [] y = x ≡ y
Leads step x (z ∷ path) y = IsTrue (step x z) × Leads step z path y

-- some start leads on to y
abbrev pub LeadsTo : (ℕ → Bool) → (ℕ → ℕ → Bool) → ℕ → Type 0
LeadsTo start step y = (x : ℕ) × IsTrue (start x) × (path : List ℕ) × Leads step x path y

-- a path of kept objects, each among the references of the one before
abbrev pub Reaches : List Object → ℕ → ℕ → Type 0
Reaches kept x y = IsTrue (is_kept kept x) × (path : List ℕ) × Leads (refers kept) x path y

-- one of these births reaches it
abbrev pub IsReachedFrom : List Object → List ℕ → ℕ → Type 0
IsReachedFrom kept births = LeadsTo (λ x. is_in x births && is_kept kept x) (refers kept)

-- a root reaches it
abbrev pub IsReached : Store → ℕ → Type 0
IsReached store = IsReachedFrom store.kept (roots_of store)

-- a root or a registered object reaches it
abbrev pub IsRetained : Store → ℕ → Type 0
IsRetained store = IsReachedFrom store.kept (roots_of store ++ registered_births store)
