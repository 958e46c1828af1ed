-- What stands among entries that pass a test.
use Rattle.std.proofs.Common.{◌≡◌, ℕ, Bool, true, false, [], ◌∷◌, Some, refl, sym, ap, ◌∙◌, inl, inr}
use Rattle.std.proofs.lemmas.Bool.{cases_Bool}
use Rattle.std.proofs.lemmas.Bool.Decides.{eqb_tells}
use Rattle.type_table.specs.Table.{Table, value_at, entries_where}

-- what is found among some entries was among all, and its key passes
pub found_where : {X : Type 0} → (test : ℕ → Bool) (table : Table X) (key : ℕ) (value : X) → value_at (entries_where test table) key ≡ Some value
    → (value_at table key ≡ Some value) × (test key ≡ true)
found_where test [] key value e = absurd (let no : ⊥ = cc in no)
found_where test (entry ∷ table) key value e = elim (eqb_tells key entry.0) [
  | inl same ↦ elim (cases_Bool (test entry.0)) [
    | inl t ↦ (let f : value_at (entry ∷ table) key ≡ value_at (entries_where test (entry ∷ table)) key = rw (t, same.0) refl in f ∙ e, ap test same.1 ∙ t)
    | inr f ↦ absurd (
        let more = found_where test table key value (let g : value_at (entries_where test table) key ≡ value_at (entries_where test (entry ∷ table)) key = rw f refl in g ∙ e) in
        let clash : true ≡ false = sym more.1 ∙ (ap test same.1 ∙ f) in let no : ⊥ = cc in no)
  ]
  | inr other ↦
      let more = found_where test table key value (elim (cases_Bool (test entry.0)) [
        | inl t ↦ let g : value_at (entries_where test table) key ≡ value_at (entries_where test (entry ∷ table)) key = rw (t, other.0) refl in g ∙ e
        | inr f ↦ let g : value_at (entries_where test table) key ≡ value_at (entries_where test (entry ∷ table)) key = rw f refl in g ∙ e
      ]) in
      (let f : value_at (entry ∷ table) key ≡ value_at table key = rw other.0 refl in f ∙ more.0, more.1)
]

pub kept_where : {X : Type 0} → (test : ℕ → Bool) (table : Table X) (key : ℕ) → test key ≡ true → value_at (entries_where test table) key ≡ value_at table key
kept_where test [] key t = refl
kept_where test (entry ∷ table) key t = elim (eqb_tells key entry.0) [
  | inl same ↦ let here : test entry.0 ≡ true = ap test (sym same.1) ∙ t in rw (here, same.0) refl
  | inr other ↦ elim (cases_Bool (test entry.0)) [
    | inl p ↦ rw (p, other.0) (kept_where test table key t)
    | inr p ↦ rw (p, other.0) (kept_where test table key t)
  ]
]
