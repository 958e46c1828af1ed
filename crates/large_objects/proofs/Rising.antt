-- Extents that lie one after another.
use Rattle.std.proofs.Common.{inl, inr, ◌≡◌, ◌≢◌, ℕ, ◌+◌, ◌<◌, ◌≤◌, min, Bool, false, List, [], ◌∷◌, ◌++◌, length, refl, ap, ◌∙◌, arith}
use Rattle.std.specs.Prelude.{filter}
use Rattle.std.specs.BTreeMap.{insert_entry, is_at}
use Rattle.std.specs.Map.{remove_entry}
use Rattle.std.specs.Ordering.{nat_cmp}
use Rattle.std.proofs.lemmas.Bool.Decides.{nat_tests}
use Rattle.std.proofs.lemmas.Bool.{cases_Bool, cases_eq}
use Rattle.heap_space.specs.Extents.{Extent, Each, IsApart, AreApart, begins_between}
use Rattle.heap_space.proofs.ExtentLaws.{Each-map, Each-join}
use Rattle.large_objects.proofs.Same.{Splits}
use Rattle.large_objects.specs.Blocks.{AreRising, places_of, begin_elsewhere, without_place}

-- rising extents are apart
pub AreApart-rising : (xs : List Extent) → AreRising xs → AreApart xs
AreApart-rising [] r = tt
AreApart-rising (x ∷ xs) r = (Each-map (λ y. x.0 + x.1 ≤ y.0) (IsApart x) (λ y h. inl h) xs r.0, AreApart-rising xs r.1)

-- one more behind them
pub AreRising-append : (xs : List Extent) (a n : ℕ) → AreRising xs → Each (λ x. x.0 + x.1 ≤ a) xs → AreRising (xs ++ (a, n) ∷ [])
AreRising-append [] a n r below = (tt, tt)
AreRising-append (x ∷ xs) a n r below =
    (Each-join (λ y. x.0 + x.1 ≤ y.0) xs ((a, n) ∷ []) r.0 (below.0, tt), AreRising-append xs a n r.1 below.1)

-- fewer of them
pub Each-filter : (P : Extent → Type 0) (t : Extent → Bool) (xs : List Extent) → Each P xs → Each P (filter t xs)
Each-filter P t [] all = tt
Each-filter P t (x ∷ xs) all = elim (cases_Bool (t x)) [
  | inl h ↦ rw h (all.0, Each-filter P t xs all.1)
  | inr h ↦ rw h (Each-filter P t xs all.1)
]

pub AreRising-filter : (t : Extent → Bool) (xs : List Extent) → AreRising xs → AreRising (filter t xs)
AreRising-filter t [] r = tt
AreRising-filter t (x ∷ xs) r = elim (cases_Bool (t x)) [
  | inl h ↦ rw h (Each-filter (λ y. x.0 + x.1 ≤ y.0) t xs r.0, AreRising-filter t xs r.1)
  | inr h ↦ rw h (AreRising-filter t xs r.1)
]

-- as the entries of a map

pub insert-last : (xs : List Extent) (a n : ℕ) → Each (λ x. x.0 < a) xs → insert_entry nat_cmp xs a n ≡ xs ++ (a, n) ∷ []
insert-last [] a n below = refl
insert-last (x ∷ xs) a n below = let first = below.0 in grind (arith, nat_tests, insert-last xs a n below.1)

-- where none begins at a, all are left
pub elsewhere-all : (xs : List Extent) (a : ℕ) → Each (λ x. x.0 ≢ a) xs → begin_elsewhere a xs ≡ xs
elsewhere-all [] a other = refl
elsewhere-all (x ∷ xs) a other = let first = other.0 in grind (arith, nat_tests, elsewhere-all xs a other.1)

pub remove-elsewhere : (xs : List Extent) (a : ℕ) → AreRising xs → Each (λ x. 2 ≤ x.1) xs
    → remove_entry (is_at (nat_cmp a)) xs ≡ begin_elsewhere a xs
remove-elsewhere [] a r wide = refl
remove-elsewhere (x ∷ xs) a r wide = elim (cases_eq x.0 a) [
  | inl e ↦ (let some = wide.0 in
      let tail = elsewhere-all xs a (Each-map (λ y. x.0 + x.1 ≤ y.0) (λ y. y.0 ≢ a) (λ y h. λ same. omega (arith, same)) xs r.0) in
      grind (arith, nat_tests, tail))
  | inr n ↦ grind (arith, nat_tests, remove-elsewhere xs a r.1 wide.1)
]

-- which of them wait

pub waiting-append : (from end a n : ℕ) (xs : List Extent) → Each (λ x. x.0 < a) xs
    → filter (begins_between from (min end a)) (xs ++ (a, n) ∷ []) ≡ filter (begins_between from end) xs
waiting-append from end a n [] below = grind (arith, nat_tests)
waiting-append from end a n (x ∷ xs) below = let first = below.0 in grind (arith, nat_tests, waiting-append from end a n xs below.1)

pub places-elsewhere : (from end a : ℕ) (xs : List Extent)
    → places_of (filter (begins_between from end) (begin_elsewhere a xs)) ≡ without_place a (places_of (filter (begins_between from end) xs))
places-elsewhere from end a [] = refl
places-elsewhere from end a (x ∷ xs) = grind (arith, nat_tests, places-elsewhere from end a xs)

pub waiting-all : (end : ℕ) (xs : List Extent) → Each (λ x. x.0 < end) xs → filter (begins_between 0 end) xs ≡ xs
waiting-all end [] below = refl
waiting-all end (x ∷ xs) below = let first = below.0 in grind (arith, nat_tests, waiting-all end xs below.1)

-- the first of them
pub record IsFirst (from end a : ℕ) (xs : List Extent) : Type 0 where
  pub words : ℕ
  pub splits : Splits (a, words) xs
  pub low : from ≤ a
  pub high : a < end

first-later : (from end a : ℕ) (x : Extent) (xs : List Extent) → IsFirst from end a xs → IsFirst from end a (x ∷ xs)
first-later from end a x xs f = record {
  words = f.words;
  splits = record { front = x ∷ f.splits.front; back = f.splits.back; is = ap (λ (ys : List Extent). x ∷ ys) f.splits.is };
  low = f.low;
  high = f.high;
}

pub waiting-first : (from end a : ℕ) (xs : List Extent) (rest : List ℕ)
    → places_of (filter (begins_between from end) xs) ≡ a ∷ rest → IsFirst from end a xs
waiting-first from end a [] rest e = cc
waiting-first from end a (x ∷ xs) rest e = elim (cases_Bool (begins_between from end x)) [
  | inl h ↦ (let f = rw h at e in let here : x.0 ≡ a = cc in
      record {
        words = x.1;
        splits = record { front = []; back = xs; is = ap (λ (b : ℕ). let y : Extent = (b, x.1) in y ∷ xs) here };
        low = grind (arith, nat_tests);
        high = grind (arith, nat_tests);
      })
  | inr h ↦ (let f = rw h at e in first-later from end a x xs (waiting-first from end a xs rest f))
]

-- a later start makes no difference to those behind it
waiting-behind : (from to end : ℕ) (xs : List Extent) → Each (λ y. (from ≤ y.0) × (to ≤ y.0)) xs
    → filter (begins_between to end) xs ≡ filter (begins_between from end) xs
waiting-behind from to end [] all = refl
waiting-behind from to end (x ∷ xs) all = let one = all.0.0 in let two = all.0.1 in grind (arith, nat_tests, waiting-behind from to end xs all.1)

-- those that wait behind the first
pub waiting-rest : (from end a : ℕ) (xs : List Extent) (rest : List ℕ) → AreRising xs → Each (λ x. 2 ≤ x.1) xs
    → places_of (filter (begins_between from end) xs) ≡ a ∷ rest → places_of (filter (begins_between (a + 1) end) xs) ≡ rest
waiting-rest from end a [] rest r wide e = cc
waiting-rest from end a (x ∷ xs) rest r wide e = elim (cases_Bool (begins_between from end x)) [
  | inl h ↦ (let f = rw h at e in let here : x.0 ≡ a = cc in let more : places_of (filter (begins_between from end) xs) ≡ rest = cc in
      let low : from ≤ x.0 = grind (arith, nat_tests) in
      let passed : begins_between (a + 1) end x ≡ false = grind (arith, nat_tests) in
      let some = wide.0 in
      rw passed (ap places_of (waiting-behind from (a + 1) end xs (Each-map (λ y. x.0 + x.1 ≤ y.0) (λ y. (from ≤ y.0) × (a + 1 ≤ y.0)) (λ y l. (omega arith, omega arith)) xs r.0)) ∙ more))
  | inr h ↦ (let f = rw h at e in let first = waiting-first from end a xs rest f in
      let low = first.low in let high = first.high in
      let passed : begins_between (a + 1) end x ≡ false = grind (arith, nat_tests) in
      rw passed (waiting-rest from end a xs rest r.1 wide.1 f))
]

-- a block at a does not wait from the next place on
pub waiting-passed : (a end : ℕ) (xs : List Extent)
    → filter (begins_between (a + 1) end) (begin_elsewhere a xs) ≡ filter (begins_between (a + 1) end) xs
waiting-passed a end [] = refl
waiting-passed a end (x ∷ xs) = grind (arith, nat_tests, waiting-passed a end xs)

pub length-places : (xs : List Extent) → length (places_of xs) ≡ length xs
length-places [] = refl
length-places (x ∷ xs) = omega (arith, length-places xs)
