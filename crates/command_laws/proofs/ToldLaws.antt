-- What is told by places is told by births: membership in lists, and P links.
use Rattle.std.proofs.Common.{◌≡◌, ℕ, Bool, IsTrue, List, [], ◌∷◌, map, Some, None, refl, sym, ap, ap₂, ◌∙◌, subst, inl, inr, arith}
use Rattle.std.specs.Prelude.{option_and_then, ◌==◌, ◌&&◌, ◌||◌}
use Rattle.std.proofs.lemmas.Bool.{cases_Bool, eq-eqb, ne_eqb}
use Rattle.std.proofs.lemmas.Bool.Decides.{eqb_tells, nat_tests}
use Rattle.object_model.proofs.Members.{is_in-head, is_in-tail}
use Rattle.type_table.specs.Table.{Table, KeysRise, value_at}
use Rattle.type_table.proofs.TableLaws.{KeysRise-tail}
use Rattle.store_model.specs.Store.{Struct, Linked, Unlinked, Pending}
use Rattle.object_model.specs.Sets.{is_in}
use Rattle.store_model.specs.StructChecks.{is_p_link_of}
use Rattle.store_model.specs.Structs.{object_of, p_link_of, with_object, with_objects}
use Rattle.store_model.proofs.StructLaws.{behind-first, first-value}

-- names that differ on places
abbrev pub OneNamed : (ℕ → ℕ) → List ℕ → Type 0
OneNamed name places = (p q : ℕ) → IsTrue (is_in p places) → IsTrue (is_in q places) → name p ≡ name q → p ≡ q

same-named : (name : ℕ → ℕ) (places : List ℕ) (p q : ℕ) → OneNamed name places → IsTrue (is_in p places) → IsTrue (is_in q places) → (name q == name p) ≡ (q == p)
same-named name places p q one t u = elim (eqb_tells q p) [
  | inl e ↦ eq-eqb (name q) (name p) (ap name e.1) ∙ sym e.0
  | inr e ↦ ne_eqb (name q) (name p) (λ z. e.1 (one q p u t z)) ∙ sym e.0
]

-- the name of a place is among those of some places where the place is
pub in-named : (name : ℕ → ℕ) (places : List ℕ) (p : ℕ) (ps : List ℕ) → OneNamed name places → IsTrue (is_in p places) → ((q : ℕ) → IsTrue (is_in q ps) → IsTrue (is_in q places))
    → is_in (name p) (map name ps) ≡ is_in p ps
in-named name places p [] one t there = refl
in-named name places p (q ∷ ps) one t there =
    ap₂ (λ (a b : Bool). a || b) (same-named name places p q one t (there q (is_in-head q ps))) (in-named name places p ps one t (λ r u. there r (is_in-tail r q ps u)))

p-named : (name : ℕ → ℕ) (places : List ℕ) (p : ℕ) (t : Struct) → OneNamed name places → IsTrue (is_in p places) → ((q : ℕ) → object_of t ≡ Some q → IsTrue (is_in q places))
    → is_p_link_of (Some (name p)) (with_object name t) ≡ is_p_link_of (Some p) t
p-named name places p (Linked link light o own) one t there = ap (λ (b : Bool). link && b) (same-named name places o p one (there o refl) t)
p-named name places p (Unlinked own) one t there = refl
p-named name places p Pending one t there = refl

-- the structure that has a P link with an object
pub p_link-named : (name : ℕ → ℕ) (places : List ℕ) (p : ℕ) (structs : Table Struct) → OneNamed name places → IsTrue (is_in p places) → KeysRise structs
    → ((n q : ℕ) → option_and_then object_of (value_at structs n) ≡ Some q → IsTrue (is_in q places))
    → p_link_of (with_objects name structs) (name p) ≡ p_link_of structs p
p_link-named name places p [] one t rises there = refl
p_link-named name places p (entry ∷ structs) one t rises there =
    let here = p-named name places p entry.1 one t (λ q e. there entry.0 q (ap (option_and_then object_of) (first-value entry structs) ∙ e)) in
    let more = p_link-named name places p structs one t (KeysRise-tail entry structs rises) (λ n q e. elim (eqb_tells n entry.0) [
      | inl same ↦ absurd (let none : value_at structs n ≡ None = subst (λ (k : ℕ). value_at structs k ≡ None) (sym same.1) (behind-first entry structs rises) in
          let nothing : option_and_then object_of (value_at structs n) ≡ None = ap (option_and_then object_of) none in let no : ⊥ = cc in no)
      | inr differ ↦ there n q (ap (option_and_then object_of) (let same : value_at (entry ∷ structs) n ≡ value_at structs n = (let ne = differ.1 in grind (arith, nat_tests)) in same) ∙ e)
    ]) in
    elim (cases_Bool (is_p_link_of (Some p) entry.1)) [
      | inl linked ↦ rw (here, linked) refl
      | inr free ↦ rw (here, free) more
    ]
