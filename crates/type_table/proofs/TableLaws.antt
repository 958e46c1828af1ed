-- What a table has at each key after a change, how long it is then, and that its keys go on rising.
use Rattle.std.proofs.Common.{◌≡◌, ℕ, suc, ◌+◌, ◌<◌, Bool, true, false, cond, not, ◌==◌, nat_lt, IsTrue, [], ◌∷◌, length, Option, Some, None, refl, arith}
use Rattle.std.specs.List.{All}
use Rattle.std.proofs.lemmas.Bool.Decides.{nat_tests}
use Rattle.std.proofs.lemmas.List.Elements.{All-nil, All-cons, All-head, All-tail, All-weaker}
use Rattle.std.proofs.lemmas.List.Kept.{AllPairs-cons, AllPairs-filter}
use Rattle.type_table.specs.Table.{Table, KeysRise, value_at, with_value, entries_where, without_key}

-- a second test of the same number changes nothing
tested_twice : {A : Type 0} (b : Bool) (x y z : A) → cond b x z ≡ cond b x (cond b y z)
tested_twice true x y z = refl
tested_twice false x y z = refl

-- two tests that do not pass together may be tried in either order
tests_swapped : {A : Type 0} (a b : Bool) → (IsTrue a → IsTrue b → ⊥) → (x y z : A) → cond a x (cond b y z) ≡ cond b y (cond a x z)
tests_swapped true true apart x y z = absurd (apart refl refl)
tests_swapped true false apart x y z = refl
tests_swapped false b apart x y z = refl

-- no number is both of two that differ
not_both : (key entry q : ℕ) → (key == entry) ≡ false → IsTrue (q == entry) → IsTrue (q == key) → ⊥
not_both key entry q differ is_entry is_key = grind (arith, nat_tests)

module _ {X : Type 0} where
  -- what stands at each key once a value was written
  pub value_at-with_value : (table : Table X) (key q : ℕ) (value : X) → value_at (with_value table key value) q ≡ cond (q == key) (Some value) (value_at table q)
  value_at-with_value [] key q value = refl
  value_at-with_value (entry ∷ table) key q value =
      elim (key == entry.0) as (λ b. (key == entry.0) ≡ b → value_at (cond b ((key, value) ∷ table) (cond (nat_lt key entry.0) ((key, value) ∷ (entry ∷ table)) (entry ∷ with_value table key value))) q ≡ cond (q == key) (Some value) (cond (q == entry.0) (Some entry.1) (value_at table q))) [
        | true ↦ λ is_key. let same : key ≡ entry.0 = grind (arith, nat_tests) in rw same (tested_twice (q == entry.0) (Some value) (Some entry.1) (value_at table q))
        | false ↦ λ differ. elim (nat_lt key entry.0) as (λ b. value_at (cond b ((key, value) ∷ (entry ∷ table)) (entry ∷ with_value table key value)) q ≡ cond (q == key) (Some value) (cond (q == entry.0) (Some entry.1) (value_at table q))) [
          | true ↦ refl
          | false ↦ rw (value_at-with_value table key q value) (tests_swapped (q == entry.0) (q == key) (not_both key entry.0 q differ) (Some entry.1) (Some value) (value_at table q))
        ]
      ] refl

  -- the key has the value that was written
  pub value_at-with_value_same : (table : Table X) (key : ℕ) (value : X) → value_at (with_value table key value) key ≡ Some value
  value_at-with_value_same table key value = grind (arith, nat_tests, value_at-with_value table key key value)

  -- and each other key has what it had
  pub value_at-with_value_other : (table : Table X) (key q : ℕ) (value : X) → (q ≡ key → ⊥) → value_at (with_value table key value) q ≡ value_at table q
  value_at-with_value_other table key q value differ = grind (arith, nat_tests, value_at-with_value table key q value)

  -- what stands at each key once one was taken off
  pub value_at-without_key : (table : Table X) (key q : ℕ) → value_at (without_key table key) q ≡ cond (q == key) None (value_at table q)
  value_at-without_key [] key q = elim (q == key) as (λ b. ◌≡◌ {A = Option X} None (cond b None None)) [ true ↦ refl | false ↦ refl ]
  value_at-without_key (entry ∷ table) key q =
      elim (entry.0 == key) as (λ b. (entry.0 == key) ≡ b → value_at (cond (not b) (entry ∷ without_key table key) (without_key table key)) q ≡ cond (q == key) None (cond (q == entry.0) (Some entry.1) (value_at table q))) [
        | true ↦ λ is_key. let same : entry.0 ≡ key = grind (arith, nat_tests) in rw (same, value_at-without_key table key q) (tested_twice (q == key) None (Some entry.1) (value_at table q))
        | false ↦ λ differ. rw (value_at-without_key table key q) (tests_swapped (q == entry.0) (q == key) (λ is_entry is_key. not_both entry.0 key q differ is_key is_entry) (Some entry.1) None (value_at table q))
      ] refl

  -- a new key makes the table longer by one
  pub length-with_value_new : (table : Table X) (key : ℕ) (value : X) → value_at table key ≡ None → length (with_value table key value) ≡ length table + 1
  length-with_value_new [] key value absent = refl
  length-with_value_new (entry ∷ table) key value absent = grind (arith, nat_tests, length-with_value_new table key value)

  -- what holds of each entry holds of each after a write, if it holds of what is written
  pub All-with_value : (P : ℕ × X → Type 0) (table : Table X) (key : ℕ) (value : X) → P (key, value) → All P table → All P (with_value table key value)
  All-with_value P [] key value here all = All-cons P (key, value) [] here (All-nil P)
  All-with_value P (entry ∷ table) key value here all =
      let rest = All-tail P entry table all in
      elim (key == entry.0) as (λ b. All P (cond b ((key, value) ∷ table) (cond (nat_lt key entry.0) ((key, value) ∷ (entry ∷ table)) (entry ∷ with_value table key value)))) [
        | true ↦ All-cons P (key, value) table here rest
        | false ↦ elim (nat_lt key entry.0) as (λ b. All P (cond b ((key, value) ∷ (entry ∷ table)) (entry ∷ with_value table key value))) [
          | true ↦ All-cons P (key, value) (entry ∷ table) here all
          | false ↦ All-cons P entry (with_value table key value) (All-head P entry table all) (All-with_value P table key value here rest)
        ]
      ]

  -- the first key is below the others
  pub first_key_below : (entry : ℕ × X) (table : Table X) → KeysRise (entry ∷ table) → All (λ later. entry.0 < later.0) table
  first_key_below entry table rises = λ k d within. rises 0 (suc k) d (omega arith) (omega arith)

  -- the keys behind the first rise too
  pub KeysRise-tail : (entry : ℕ × X) (table : Table X) → KeysRise (entry ∷ table) → KeysRise table
  KeysRise-tail entry table rises = λ i j d below within. rises (suc i) (suc j) d (omega arith) (omega arith)

  -- an entry below all others may stand before them
  pub KeysRise-cons : (entry : ℕ × X) (table : Table X) → All (λ later. entry.0 < later.0) table → KeysRise table → KeysRise (entry ∷ table)
  KeysRise-cons entry table below rises = AllPairs-cons (λ earlier later. earlier.0 < later.0) entry table below rises

  -- the keys still rise once a value was written
  pub KeysRise-with_value : (table : Table X) (key : ℕ) (value : X) → KeysRise table → KeysRise (with_value table key value)
  KeysRise-with_value [] key value rises = KeysRise-cons (key, value) [] (All-nil _) rises
  KeysRise-with_value (entry ∷ table) key value rises =
      let below = first_key_below entry table rises in
      let rest = KeysRise-tail entry table rises in
      elim (key == entry.0) as (λ b. (key == entry.0) ≡ b → KeysRise (cond b ((key, value) ∷ table) (cond (nat_lt key entry.0) ((key, value) ∷ (entry ∷ table)) (entry ∷ with_value table key value)))) [
        | true ↦ λ is_key. let same : key ≡ entry.0 = grind (arith, nat_tests) in KeysRise-cons (key, value) table (rw same below) rest
        | false ↦ λ differ. elim (nat_lt key entry.0) as (λ b. nat_lt key entry.0 ≡ b → KeysRise (cond b ((key, value) ∷ (entry ∷ table)) (entry ∷ with_value table key value))) [
          | true ↦ λ lower.
              let first : key < entry.0 = grind (arith, nat_tests) in
              KeysRise-cons (key, value) (entry ∷ table) (All-cons (λ later. key < later.0) entry table first (All-weaker (λ later. entry.0 < later.0) (λ later. key < later.0) (λ later h. omega arith) table below)) rises
          | false ↦ λ not_lower.
              let above : entry.0 < key = grind (arith, nat_tests) in
              KeysRise-cons entry (with_value table key value) (All-with_value (λ later. entry.0 < later.0) table key value above below) (KeysRise-with_value table key value rest)
        ] refl
      ] refl

  -- and once entries were taken off
  pub KeysRise-entries_where : (test : ℕ → Bool) (table : Table X) → KeysRise table → KeysRise (entries_where test table)
  KeysRise-entries_where test table rises = AllPairs-filter (λ earlier later. earlier.0 < later.0) (λ entry. test entry.0) table rises
