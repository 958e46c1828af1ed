-- A finite map from numbers, as the list of its entries whose keys rise.
use Rattle.std.specs.Prelude.{ℕ, ◌<◌, Bool, not, ◌==◌, nat_eq, nat_lt, List, [], ◌∷◌, Option, filter, if◌then◌else◌}
use Rattle.std.specs.List.{AllPairs}
use Rattle.std.specs.Map.{lookup}

-- the entries, each a key with what stands there
abbrev pub Table : Type 0 → Type 0
Table X = List (ℕ × X)

-- each key is below those behind it
abbrev pub KeysRise : {X : Type 0} → Table X → Type 0
KeysRise table = AllPairs (λ entry later. entry.0 < later.0) table

-- what stands at a key, if anything does
abbrev pub value_at : {X : Type 0} → Table X → ℕ → Option X
value_at table key = lookup (nat_eq key) table

-- the table with this value at the key, in place of what stood there
abbrev pub with_value : {X : Type 0} → Table X → ℕ → X → Table X
with_value [] key value = (key, value) ∷ []
with_value (entry ∷ table) key value =
    if key == entry.0 then (key, value) ∷ table else (
    if nat_lt key entry.0 then (key, value) ∷ (entry ∷ table) else
    entry ∷ with_value table key value)

-- the entries whose keys pass the test
abbrev pub entries_where : {X : Type 0} → (ℕ → Bool) → Table X → Table X
entries_where test table = filter (λ entry. test entry.0) table

-- the table without what stands at the key
abbrev pub without_key : {X : Type 0} → Table X → ℕ → Table X
without_key table key = entries_where (λ other. not (other == key)) table
