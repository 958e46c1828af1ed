-- How many words objects have of which all but a few are small.
use Rattle.std.proofs.Common.{◌≡◌, ◌≢◌, ℕ, ◌+◌, ◌*◌, ◌≤◌, ◌⊎◌, true, IsTrue, List, [], ◌∷◌, map, filter, length, Option, Some, None, refl, sym, ap, inl, inr, arith}
use Rattle.std.specs.Prelude.{not, ◌==◌, filter_map}
use Rattle.std.proofs.lemmas.Bool.{cases_Bool, ne_eqb, eq-eqb}
use Rattle.std.proofs.lemmas.Bool.Decides.{eqb_tells}
use Rattle.std.proofs.lemmas.List.Sums.{sum_by-cons}
use Rattle.object_model.specs.Object.{Object, object_at, words_of, kept_words}
use Rattle.object_model.specs.Sets.{is_in}
use Rattle.object_model.proofs.Members.{is_in-cases, is_in-nil, filter-member}
use Rattle.store_model.specs.Sound.{RiseBetween}

-- a list without a number
abbrev without : ℕ → List ℕ → List ℕ
without x xs = filter (λ y. not (y == x)) xs

fewer : (x : ℕ) (xs : List ℕ) → length (without x xs) ≤ length xs
fewer x [] = omega arith
fewer x (y ∷ xs) = let more = fewer x xs in elim (cases_Bool (y == x)) [ inl e ↦ rw e (omega (arith, more)) | inr e ↦ rw e (omega (arith, more)) ]

one_fewer : (x : ℕ) (xs : List ℕ) → IsTrue (is_in x xs) → length (without x xs) + 1 ≤ length xs
one_fewer x [] t = absurd (is_in-nil x t)
one_fewer x (y ∷ xs) t = elim (cases_Bool (y == x)) [
  | inl e ↦ let less = fewer x xs in rw e (omega (arith, less))
  | inr e ↦ elim (is_in-cases x y xs t) [
    | inl same ↦ absurd (let yes : (y == x) ≡ true = eq-eqb y x (sym same) in let no : ⊥ = cc in no)
    | inr later ↦ let less = one_fewer x xs later in rw e (omega (arith, less))
  ]
]

-- each object has at most 5 words, but for those of these births, which have at most 703
pub record AreFew (births : List ℕ) (os : List Object) : Type 0 where
  pub each : (x : ℕ) (o : Object) → object_at os x ≡ Some o → (words_of o ≤ 5) ⊎ ((words_of o ≤ 703) × IsTrue (is_in x births))

found_from : (least next : ℕ) (os : List Object) → RiseBetween least (map (λ object. object.birth) os) next → (x : ℕ) (o : Object) → object_at os x ≡ Some o → least ≤ x
found_from least next [] rise x o e = absurd (let no : ⊥ = cc in no)
found_from least next (p ∷ os) rise x o e = elim (eqb_tells x p.birth) [
  | inl same ↦ omega (arith, same.1, rise.0)
  | inr other ↦ let more = found_from (p.birth + 1) next os rise.1 x o (rw other.0 at e) in omega (arith, more, rise.0)
]

module _ (births : List ℕ) (o : Object) (os : List Object) (later : (x : ℕ) (p : Object) → object_at os x ≡ Some p → o.birth + 1 ≤ x) (few : AreFew births (o ∷ os)) where
  behind : (x : ℕ) (p : Object) → object_at os x ≡ Some p → (x ≢ o.birth) × (object_at (o ∷ os) x ≡ Some p)
  behind x p e =
      let up = later x p e in
      let other : x ≢ o.birth = λ same. let no : ⊥ = omega (arith, up, same) in no in
      (other, rw (ne_eqb x o.birth other) e)

  few_behind : AreFew births os
  few_behind = record { each = λ x p e. few.each x p (behind x p e).1 }

  -- the first has many words, and none behind it has its birth
  fewer_behind : AreFew (without o.birth births) os
  fewer_behind = record {
    each = λ x p e. let b = behind x p e in elim (few.each x p b.1) [
      | inl small ↦ inl small
      | inr large ↦ inr (large.0, filter-member (λ y. not (y == o.birth)) births x large.1 (ap not (ne_eqb x o.birth b.0)))
    ];
  }

  first : (words_of o ≤ 5) ⊎ ((words_of o ≤ 703) × IsTrue (is_in o.birth births))
  first = few.each o.birth o (rw (eq-eqb o.birth o.birth refl) refl)

pub few_words : (births : List ℕ) (least next : ℕ) (os : List Object) → RiseBetween least (map (λ object. object.birth) os) next → AreFew births os
    → kept_words os ≤ 5 * length os + 703 * length births
few_words births least next [] rise few = omega arith
few_words births least next (o ∷ os) rise few =
    let later : (x : ℕ) (p : Object) → object_at os x ≡ Some p → o.birth + 1 ≤ x = found_from (o.birth + 1) next os rise.1 in
    let all = sum_by-cons words_of o os in
    let small = few_words births (o.birth + 1) next os rise.1 (few_behind births o os later few) in
    let large = few_words (without o.birth births) (o.birth + 1) next os rise.1 (fewer_behind births o os later few) in
    elim (first births o os later few) [
      | inl is ↦ omega (arith, all, small, is)
      | inr is ↦ let less = one_fewer o.birth births is.1 in omega (arith, all, large, is.0, less)
    ]

-- what slots hold is at most as much as there are slots
pub few_held : (slots : List (Option ℕ)) → length (filter_map (λ slot. slot) slots) ≤ length slots
few_held [] = omega arith
few_held (None ∷ slots) = let more = few_held slots in omega (arith, more)
few_held (Some x ∷ slots) = let more = few_held slots in omega (arith, more)

-- births that rise from 1 on are fewer than the next one
pub few_births : (least next : ℕ) (os : List Object) → RiseBetween least (map (λ object. object.birth) os) next → length os + least ≤ next
few_births least next [] rise = omega (arith, rise)
few_births least next (o ∷ os) rise = let more = few_births (o.birth + 1) next os rise.1 in omega (arith, more, rise.0)
