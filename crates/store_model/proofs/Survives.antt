-- What a minor collection lets stay.
use Rattle.std.proofs.Common.{◌≡◌, ℕ, ◌⊎◌, Bool, true, false, IsTrue, List, [], ◌∷◌, Option, Some, None, refl, sym, ap, ◌∙◌, subst, inl, inr}
use Rattle.std.specs.Prelude.{not, ◌&&◌, ◌||◌, is_some}
use Rattle.std.specs.List.{list_any}
use Rattle.std.proofs.lemmas.Bool.{cases_Bool, eq-eqb}
use Rattle.std.proofs.lemmas.Bool.Decides.{eqb_tells}
use Rattle.object_model.proofs.Members.{is_in-head, is_in-tail, is_in-cases, is_in-nil, and_both, or_first, or_second}
use Rattle.object_model.specs.Object.{Object, referents, object_at}
use Rattle.store_model.specs.Store.{Store, is_settled}
use Rattle.object_model.specs.Sets.{is_in}
use Rattle.store_model.specs.Roots.{is_kept, roots_of, registered_births, referents_in}
use Rattle.store_model.specs.Reach.{Tells, refers, births_where, is_root, is_registered}
use Rattle.store_model.specs.MinorCollection.{vanishes, is_unsettled, is_entry, refers_unsettled, has_settled_referrer, Survives}
use Rattle.store_model.proofs.Rounds.{LeadsTo-start, LeadsTo-step}

pub stay-settled : (kept settled survives : Bool) → IsTrue settled → IsTrue (not ((kept && not settled) && not survives))
stay-settled true true survives t = refl
stay-settled false true survives t = refl
stay-settled kept false survives t = absurd (let no : ⊥ = cc in no)

pub stay-survives : (unsettled survives : Bool) → IsTrue survives → IsTrue (not (unsettled && not survives))
stay-survives true true t = refl
stay-survives false true t = refl
stay-survives unsettled false t = absurd (let no : ⊥ = cc in no)

pub stay-either : (kept settled survives : Bool) → IsTrue kept → IsTrue (not ((kept && not settled) && not survives)) → IsTrue settled ⊎ IsTrue survives
stay-either true true survives k t = inl refl
stay-either true false true k t = inr refl
stay-either true false false k t = absurd (let no : ⊥ = cc in no)
stay-either false settled survives k t = absurd (let no : ⊥ = cc in no)

-- what refers to something is there
referent-kept : (o : Option Object) (y : ℕ) → IsTrue (is_in y (referents_in o)) → IsTrue (is_some o)
referent-kept None y t = absurd (is_in-nil y t)
referent-kept (Some o) y t = refl

-- an object that refers to another is one of those that do
any-kept : (test : Object → Bool) (kept : List Object) (x : ℕ) (o : Object) → object_at kept x ≡ Some o → IsTrue (test o) → IsTrue (list_any test kept)
any-kept test [] x o e t = absurd (let no : ⊥ = cc in no)
any-kept test (k ∷ kept) x o e t = elim (eqb_tells x k.birth) [
  | inl same ↦
      let found : Some k ≡ Some o = (let f : object_at (k ∷ kept) x ≡ Some k = rw same.0 refl in sym f) ∙ e in
      or_first (test k) (list_any test kept) (subst (λ (z : Object). IsTrue (test z)) (sym (let inj : k ≡ o = cc in inj)) t)
  | inr other ↦ or_second (test k) (list_any test kept) (any-kept test kept x o ((let f : object_at kept x ≡ object_at (k ∷ kept) x = rw other.0 refl in f) ∙ e) t)
]

pub found-birth : (kept : List Object) (x : ℕ) (o : Object) → object_at kept x ≡ Some o → o.birth ≡ x
found-birth [] x o e = absurd (let no : ⊥ = cc in no)
found-birth (k ∷ kept) x o e = elim (eqb_tells x k.birth) [
  | inl same ↦
      let found : Some k ≡ Some o = (let f : object_at (k ∷ kept) x ≡ Some k = rw same.0 refl in sym f) ∙ e in
      ap (λ (z : Object). z.birth) (sym (let inj : k ≡ o = cc in inj)) ∙ sym same.1
  | inr other ↦ found-birth kept x o ((let f : object_at kept x ≡ object_at (k ∷ kept) x = rw other.0 refl in f) ∙ e)
]

pub referrer-found : (store : Store) (x y : ℕ) (found : Option Object) → object_at store.kept x ≡ found → IsTrue (is_in y (referents_in found)) → IsTrue (is_settled store.settled x) → IsTrue (has_settled_referrer store y)
referrer-found store x y None e t s = absurd (is_in-nil y t)
referrer-found store x y (Some o) e t s =
    any-kept (λ (object : Object). is_settled store.settled object.birth && is_in y (referents object)) store.kept x o e
    (and_both (is_settled store.settled o.birth) (is_in y (referents o)) (subst (λ (b : ℕ). IsTrue (is_settled store.settled b)) (sym (found-birth store.kept x o e)) s) t)

module _ (store : Store) (survives : ℕ → Bool) (tells : Tells survives (Survives store)) where
  decide-settled : (x : ℕ) → (IsTrue (is_in x store.settled) → IsTrue (not (vanishes store survives x))) → (is_in x store.settled ≡ false → IsTrue (not (vanishes store survives x))) → IsTrue (not (vanishes store survives x))
  decide-settled x a b = elim (cases_Bool (is_in x store.settled)) [ inl t ↦ a t | inr f ↦ b f ]

  pub settled_stays : (x : ℕ) → IsTrue (is_in x store.settled) → IsTrue (not (vanishes store survives x))
  settled_stays x t = stay-settled (is_kept store.kept x) (is_in x store.settled) (survives x) t

  entry-stays : (x : ℕ) → IsTrue (is_kept store.kept x) → IsTrue (is_root store x || (is_registered store x || has_settled_referrer store x)) → IsTrue (not (vanishes store survives x))
  entry-stays x k t = decide-settled x (λ s. settled_stays x s)
      (λ f. let unsettled : IsTrue (is_unsettled store x) = rw (k, f) refl in
      stay-survives (is_unsettled store x) (survives x)
      ((tells x).1 (LeadsTo-start (is_entry store (has_settled_referrer store)) (refers_unsettled store) x
      (and_both (is_unsettled store x) _ unsettled t))))

  pub root_stays : (x : ℕ) → IsTrue (is_kept store.kept x) → IsTrue (is_in x (roots_of store)) → IsTrue (not (vanishes store survives x))
  root_stays x k t = entry-stays x k (or_first (is_root store x) (is_registered store x || has_settled_referrer store x) t)

  pub registered_stays : (x : ℕ) → IsTrue (is_kept store.kept x) → IsTrue (is_in x (registered_births store)) → IsTrue (not (vanishes store survives x))
  registered_stays x k t = entry-stays x k (or_second (is_root store x) (is_registered store x || has_settled_referrer store x) (or_first (is_registered store x) (has_settled_referrer store x) t))

  -- what a staying object refers to stays
  pub referent_stays : (x y : ℕ) → IsTrue (is_kept store.kept y) → IsTrue (not (vanishes store survives x)) → IsTrue (is_in y (referents_in (object_at store.kept x))) → IsTrue (not (vanishes store survives y))
  referent_stays x y k s t = elim (stay-either (is_kept store.kept x) (is_in x store.settled) (survives x) (referent-kept (object_at store.kept x) y t) s) [
    | inl settled ↦ entry-stays y k (or_second (is_root store y) (is_registered store y || has_settled_referrer store y)
        (or_second (is_registered store y) (has_settled_referrer store y) (referrer-found store x y (object_at store.kept x) refl t settled)))
    | inr survived ↦ decide-settled y (λ u. settled_stays y u) (λ f.
        let unsettled : IsTrue (is_unsettled store y) = rw (k, f) refl in
        stay-survives (is_unsettled store y) (survives y) ((tells y).1
        (LeadsTo-step (is_entry store (has_settled_referrer store)) (refers_unsettled store) x y ((tells x).0 survived)
        (and_both (refers store.kept x y) (is_unsettled store y) (and_both (is_in y (referents_in (object_at store.kept x))) (is_kept store.kept y) t k) unsettled))))
  ]

-- a birth among those that pass
pub in_where : (kept : List Object) (test : ℕ → Bool) (x : ℕ) → IsTrue (is_in x (births_where kept test)) → IsTrue (is_kept kept x) × IsTrue (test x)
in_where [] test x t = absurd (is_in-nil x t)
in_where (o ∷ os) test x t = elim (cases_Bool (test o.birth)) [
  | inl p ↦ elim (is_in-cases x o.birth (births_where os test) (rw p at t)) [
    | inl e ↦ (rw (eq-eqb x o.birth e) refl, subst (λ (b : ℕ). IsTrue (test b)) (sym e) p)
    | inr u ↦ let more = in_where os test x u in (later-kept x o os more.0, more.1)
  ]
  | inr p ↦ let more = in_where os test x (rw p at t) in (later-kept x o os more.0, more.1)
]
  where
    later-kept : (y : ℕ) (k : Object) (ks : List Object) → IsTrue (is_kept ks y) → IsTrue (is_kept (k ∷ ks) y)
    later-kept y k ks u = elim (eqb_tells y k.birth) [ inl e ↦ rw e.0 refl | inr e ↦ rw e.0 u ]

pub where_in : (kept : List Object) (test : ℕ → Bool) (x : ℕ) → IsTrue (is_kept kept x) → IsTrue (test x) → IsTrue (is_in x (births_where kept test))
where_in [] test x k t = absurd (let no : ⊥ = cc in no)
where_in (o ∷ os) test x k t = elim (eqb_tells x o.birth) [
  | inl e ↦ let p : test o.birth ≡ true = subst (λ (b : ℕ). IsTrue (test b)) e.1 t in
      rw p (let P : ℕ → Type 0 = λ b. IsTrue (is_in x (b ∷ births_where os test)) in subst P e.1 (is_in-head x (births_where os test)))
  | inr e ↦
      let more = where_in os test x (rw e.0 at k) t in
      elim (cases_Bool (test o.birth)) [ inl p ↦ rw p (is_in-tail x o.birth (births_where os test) more) | inr p ↦ rw p more ]
]
