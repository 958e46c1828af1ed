-- Some of the objects remain, and the others are gone.
use Rattle.std.proofs.Common.{◌≡◌, ℕ, ◌+◌, ◌<◌, ◌⊎◌, Bool, true, IsTrue, List, [], ◌∷◌, map, filter, refl, sym, ap, ◌∙◌, subst, inl, inr}
use Rattle.std.proofs.lemmas.Bool.{cases_Bool}
use Rattle.type_table.specs.declared.info.TypeInfo.{TypeInfo}
use Rattle.type_table.specs.Table.{Table}
use Rattle.object_model.specs.Object.{Object}
use Rattle.object_model.specs.Sets.{is_in}
use Rattle.object_model.specs.ObjectWords.{layout_at, object_from}
use Rattle.object_model.specs.Holds.{HoldsObjects, IsPointer}
use Rattle.object_model.proofs.Members.{is_in-head, is_in-tail, filter-part, filter-member}
use Rattle.object_view.proofs.LayoutLaws.{birth-from}

-- the objects whose births pass are those whose places pass by name
filter-reads : (f : ℕ → Object) (name : ℕ → ℕ) (test : ℕ → Bool) (ps : List ℕ) → ((q : ℕ) → IsTrue (is_in q ps) → (f q).birth ≡ name q)
    → filter (λ object. test object.birth) (map f ps) ≡ map f (filter (λ p. test (name p)) ps)
filter-reads f name test [] births = refl
filter-reads f name test (p ∷ ps) births =
    let rest = filter-reads f name test ps (λ q t. births q (is_in-tail q p ps t)) in
    let here : test (f p).birth ≡ test (name p) = ap test (births p (is_in-head p ps)) in
    elim (cases_Bool (test (name p))) [
      | inl t ↦ rw (here ∙ t, t) (ap (λ xs. f p ∷ xs) rest)
      | inr e ↦ rw (here ∙ e, e) rest
    ]

-- members of what passes a test

-- some of the places, with what references have then
pub part_holds : {types : Table TypeInfo} {w name : ℕ → ℕ} {met places : List ℕ} {kept : List Object} (less remain : List ℕ)
    → HoldsObjects types w met places name kept → ((q : ℕ) → IsTrue (is_in q remain) → IsTrue (is_in q places))
    → ((p j : ℕ) → IsTrue (is_in p remain) → j < (layout_at types w p).pointer_count → IsPointer less (w ((layout_at types w p).ref_start + j)))
    → HoldsObjects types w less remain name (map (object_from types name w) remain)
part_holds less remain h part closed = record {
  reads = refl;
  typed = λ p t. h.typed p (part p t);
  header = λ p t. h.header p (part p t);
  above = λ p t. h.above p (part p t);
  named = λ p t. h.named p (part p t);
  apart = λ p q b t u c d. h.apart p q b (part p t) (part q u) c d;
  differ = λ p q t u is. h.differ p q (part p t) (part q u) is;
  closed = closed;
}

-- Of the objects those remain whose births pass the test.
pub filter_holds : {types : Table TypeInfo} {w name : ℕ → ℕ} {met places : List ℕ} {kept : List Object} (less : List ℕ) (test : ℕ → Bool)
    → HoldsObjects types w met places name kept
    → ((q j : ℕ) → IsTrue (is_in q places) → test (name q) ≡ true → j < (layout_at types w q).pointer_count → IsPointer less (w ((layout_at types w q).ref_start + j)))
    → HoldsObjects types w less (filter (λ p. test (name p)) places) name (filter (λ object. test object.birth) kept)
filter_holds {types = types} {w = w} {name = name} {places = places} less test h closed =
    let passes : ℕ → Bool = λ p. test (name p) in let remain : List ℕ = filter passes places in
    let P : List Object → Type 0 = λ ks. HoldsObjects types w less remain name ks in
    subst P (sym (ap (filter (λ object. test object.birth)) h.reads ∙ filter-reads (object_from types name w) name test places (λ q t. birth-from types name w q ∙ sym (h.named q t))))
    (part_holds less remain h (λ q t. (filter-part passes places q t).0)
    (λ q j t l. let part = filter-part passes places q t in closed q j part.0 part.1 l))

still-pointer : (test : ℕ → Bool) (places : List ℕ) (x : ℕ) → (x ≡ 0) ⊎ (IsTrue (is_in x places) × (test x ≡ true)) → IsPointer (filter test places) x
still-pointer test places x (inl e) = inl e
still-pointer test places x (inr t) = inr (filter-member test places x t.0 t.1)

-- The end of a collection: all references and targets of what remains lead to what remains.
pub remain_holds : {types : Table TypeInfo} {w name : ℕ → ℕ} {met places : List ℕ} {kept : List Object} (test : ℕ → Bool)
    → HoldsObjects types w met places name kept
    → ((q j : ℕ) → IsTrue (is_in q places) → test (name q) ≡ true → j < (layout_at types w q).pointer_count
    → (w ((layout_at types w q).ref_start + j) ≡ 0)
    ⊎ (IsTrue (is_in (w ((layout_at types w q).ref_start + j)) places) × (test (name (w ((layout_at types w q).ref_start + j))) ≡ true)))
    → HoldsObjects types w (filter (λ p. test (name p)) places) (filter (λ p. test (name p)) places) name (filter (λ object. test object.birth) kept)
remain_holds {w = w} {name = name} {places = places} test h closed =
    let passes : ℕ → Bool = λ p. test (name p) in
    filter_holds (filter passes places) test h (λ q j t e l. still-pointer passes places _ (closed q j t e l))
