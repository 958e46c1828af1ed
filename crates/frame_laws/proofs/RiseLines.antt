-- Births that are told by rising birth: what code sorted is what the store lists.
use Rattle.std.proofs.Common.{◌≡◌, ℕ, suc, ◌+◌, ◌≤◌, ◌<◌, ◌⊎◌, false, IsTrue, List, [], ◌∷◌, map, refl, sym, ap, ◌∙◌, subst, inl, inr, arith, length, get_or, nat_eq}
use Rattle.std.specs.Prelude.{◌==◌}
use Rattle.std.proofs.lemmas.Bool.{cases_Bool, ne_eqb}
use Rattle.std.proofs.lemmas.Bool.Decides.{eqb_tells, nat_tests}
use Rattle.object_model.proofs.Members.{is_in-head, is_in-tail, is_in-cases, is_in-nil}
use Rattle.object_model.specs.Sets.{is_in}
use Rattle.parts_model.specs.Places.{RiseBetween}
use Rattle.frame_laws.proofs.Births.{rise-bounds, rise-differ, rise-lower}
use Rattle.type_table.specs.Table.{Table, KeysRise}
use Rattle.type_table.proofs.TableLaws.{KeysRise-tail, KeysRise-cons, first_key_below}
use Rattle.std.proofs.lemmas.List.Elements.{All-nil, All-head, All-tail, All-cons}
use Rattle.std.specs.List.{IsDistinct, AllByRecursion, All}
use Rattle.std.specs.List.Sorted.{IsPermutation, IsNonDecreasing}
use Rattle.std.proofs.lemmas.List.Sorted.{IsPermutation-sym, IsPermutation-trans, list_any-IsPermutation}
use Rattle.std.proofs.lemmas.Map.Keys.{IsDistinct-IsPermutation}

out-below : (x least next : ℕ) (xs : List ℕ) → x < least → RiseBetween least xs next → is_in x xs ≡ false
out-below x least next xs l rise = elim (cases_Bool (is_in x xs)) [
  | inl t ↦ absurd (let b = rise-bounds least next x xs rise t in let low = b.0 in let no : ⊥ = omega (arith, low, l) in no)
  | inr f ↦ f
]

-- two rising lists with the same members are one
pub rise_unique : (least next : ℕ) (xs ys : List ℕ) → RiseBetween least xs next → RiseBetween least ys next → ((x : ℕ) → is_in x xs ≡ is_in x ys) → xs ≡ ys
rise_unique least next [] [] a b same = refl
rise_unique least next [] (y ∷ ys) a b same = absurd (is_in-nil y (same y ∙ is_in-head y ys))
rise_unique least next (x ∷ xs) [] a b same = absurd (is_in-nil x (sym (same x) ∙ is_in-head x xs))
rise_unique least next (x ∷ xs) (y ∷ ys) a b same =
    let first : x ≡ y = heads (is_in-cases x y ys (sym (same x) ∙ is_in-head x xs)) (is_in-cases y x xs (same y ∙ is_in-head y ys)) in
    let rest : xs ≡ ys = rise_unique (x + 1) next xs ys a.1 (subst (λ (k : ℕ). RiseBetween (k + 1) ys next) (sym first) b.1) (λ z. later z first) in
    ap (λ (k : ℕ). k ∷ xs) first ∙ ap (λ (zs : List ℕ). y ∷ zs) rest
  where
    heads : (x ≡ y) ⊎ IsTrue (is_in x ys) → (y ≡ x) ⊎ IsTrue (is_in y xs) → x ≡ y
    heads (inl e) q = e
    heads (inr t) (inl e) = sym e
    heads (inr t) (inr u) = absurd (
        let l = (rise-bounds (y + 1) next x ys b.1 t).0 in let m = (rise-bounds (x + 1) next y xs a.1 u).0 in let no : ⊥ = omega (arith, l, m) in no)

    later : (z : ℕ) → x ≡ y → is_in z xs ≡ is_in z ys
    later z first = elim (eqb_tells x z) [
      | inl e ↦ out-below z (x + 1) next xs (omega (arith, e.1)) a.1 ∙ sym (out-below z (y + 1) next ys (omega (arith, e.1, first)) b.1)
      | inr e ↦
          let l : is_in z (x ∷ xs) ≡ is_in z xs = rw e.0 refl in
          let r : is_in z (y ∷ ys) ≡ is_in z ys = rw (ne_eqb y z (λ q. e.1 (first ∙ q))) refl in
          sym l ∙ (same z ∙ r)
    ]

-- a member stands at an index
pub record StandsIn (x : ℕ) (xs : List ℕ) : Type 0 where
  pub index : ℕ
  pub below : index < length xs
  pub is : get_or xs index 0 ≡ x

stands-in : (x : ℕ) (xs : List ℕ) → IsTrue (is_in x xs) → StandsIn x xs
stands-in x [] t = absurd (is_in-nil x t)
stands-in x (y ∷ ys) t = elim (is_in-cases x y ys t) [
  | inl e ↦ record { index = 0; below = omega arith; is = sym e }
  | inr u ↦ let m = stands-in x ys u in record { index = suc m.index; below = (let b = m.below in omega (arith, b)); is = m.is }
]

tail-sorted : (x : ℕ) (xs : List ℕ) → IsNonDecreasing (x ∷ xs) → IsNonDecreasing xs
tail-sorted x xs s i j d le lt = s (suc i) (suc j) d (omega (arith, le)) (omega (arith, lt))

sorted-rise : (least next : ℕ) (xs : List ℕ) → IsNonDecreasing xs → IsDistinct nat_eq xs → ((x : ℕ) → IsTrue (is_in x xs) → (least ≤ x) × (x < next)) → least ≤ next → RiseBetween least xs next
unfolding IsDistinct
sorted-rise least next [] s d bounds l = l
sorted-rise least next (x ∷ xs) s d bounds l =
    let here = bounds x (is_in-head x xs) in let low = here.0 in let high = here.1 in (
      low,
      sorted-rise (x + 1) next xs (tail-sorted x xs s) d.1
          (λ y t. let m = stands-in y xs t in let up = s 0 (suc m.index) 0 (omega arith) (let b = m.below in omega (arith, b)) in let at = m.is in
          let apart = differs x xs d.0 y t in let top = (bounds y (is_in-tail y x xs t)).1 in (less x y (omega (arith, up, at)) apart, top)) (omega (arith, high)),
    )
  where
    differs : (x : ℕ) (xs : List ℕ) → AllByRecursion (λ y. nat_eq x y ≡ false) xs → (y : ℕ) → IsTrue (is_in y xs) → nat_eq x y ≡ false
    differs x [] all y t = absurd (is_in-nil y t)
    differs x (z ∷ zs) all y t = elim (is_in-cases y z zs t) [ inl e ↦ ap (nat_eq x) e ∙ all.0 | inr u ↦ differs x zs all.1 y u ]

    less : (x y : ℕ) → x ≤ y → nat_eq x y ≡ false → x + 1 ≤ y
    less x y l e = grind (arith, nat_tests)

-- births that were sorted are those that the store lists by rising birth
pub sorted_births : (next : ℕ) (births sorted listed : List ℕ) → IsPermutation births sorted → IsNonDecreasing sorted → IsPermutation births listed → RiseBetween 1 listed next → 1 ≤ next → sorted ≡ listed
sorted_births next births sorted listed a s b rise l =
    let moved : IsPermutation sorted listed = IsPermutation-trans sorted births listed (IsPermutation-sym births sorted a) b in
    let same : (x : ℕ) → is_in x sorted ≡ is_in x listed = λ x. list_any-IsPermutation (λ (y : ℕ). y == x) sorted listed moved in
    let differ : IsDistinct nat_eq sorted = IsDistinct-IsPermutation nat_eq (λ x y. grind (arith, nat_tests)) listed sorted (IsPermutation-sym sorted listed moved) (rise-differ 1 next listed rise) in
    rise_unique 1 next sorted listed (sorted-rise 1 next sorted s differ (λ x t. rise-bounds 1 next x listed rise (sym (same x) ∙ t)) l) rise same

-- tables by rising birth

keys-above : {X : Type 0} (table : Table X) (k next : ℕ) → RiseBetween (k + 1) (map (λ e. e.0) table) next → All (λ later. k < later.0) table
keys-above [] k next rise = All-nil (λ later. k < later.0)
keys-above (f ∷ table) k next rise =
    let low = rise.0 in
    All-cons (λ later. k < later.0) f table (omega (arith, low)) (keys-above table k next (rise-lower (k + 1) (f.0 + 1) next (map (λ e. e.0) table) (omega (arith, low)) rise.1))

pub keys_rise : {X : Type 0} (table : Table X) (least next : ℕ) → RiseBetween least (map (λ e. e.0) table) next → KeysRise table
keys_rise [] least next rise = λ i j d below within. absurd (let no : ⊥ = omega (arith, within) in no)
keys_rise (e ∷ table) least next rise = KeysRise-cons e table (keys-above table e.0 next rise.1) (keys_rise table (e.0 + 1) next rise.1)

key-above : {X : Type 0} (k : ℕ) (table : Table X) → All (λ later. k < later.0) table → (x : ℕ) → IsTrue (is_in x (map (λ e. e.0) table)) → k < x
key-above k [] all x t = absurd (is_in-nil x t)
key-above k (f ∷ table) all x t = elim (is_in-cases x f.0 (map (λ e. e.0) table) t) [
  | inl is ↦ let l = All-head (λ later. k < later.0) f table all in omega (arith, is, l)
  | inr u ↦ key-above k table (All-tail (λ later. k < later.0) f table all) x u
]

pub keys_between : {X : Type 0} (table : Table X) (least next : ℕ) → KeysRise table → ((x : ℕ) → IsTrue (is_in x (map (λ e. e.0) table)) → (least ≤ x) × (x < next)) → least ≤ next
    → RiseBetween least (map (λ e. e.0) table) next
keys_between [] least next rises bounds l = l
keys_between (e ∷ table) least next rises bounds l =
    let here = bounds e.0 (is_in-head e.0 (map (λ e. e.0) table)) in let low = here.0 in let high = here.1 in (
      low,
      keys_between table (e.0 + 1) next (KeysRise-tail e table rises)
          (λ x t. (let up = key-above e.0 table (first_key_below e table rises) x t in omega (arith, up), (bounds x (is_in-tail x e.0 (map (λ e. e.0) table) t)).1)) (omega (arith, high)),
    )
