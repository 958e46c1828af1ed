-- The births of the weak objects that lose their targets.
use Rattle.std.specs.Prelude.{◌≡◌, ℕ, ◌+◌, Bool, if◌then◌else◌, List, [], ◌∷◌, ◌++◌, map, filter}
use Rattle.std.specs.List.Sorted.{IsNonDecreasing, IsPermutation}
use Rattle.type_table.specs.declared.info.TypeInfo.{TypeInfo}
use Rattle.type_table.specs.Table.{Table}
use Rattle.object_model.specs.Sets.{is_in}
use Rattle.weak_lists.specs.Targets.{target_at}

-- the list begins with these
abbrev pub StartsWith : List ℕ → List ℕ → Type 0
StartsWith list front = (rest : List ℕ) × (list ≡ front ++ rest)

-- the members of a list that were not seen before, each once
abbrev pub once_after : List ℕ → List ℕ → List ℕ
once_after seen [] = []
once_after seen (x ∷ xs) = if is_in x seen then once_after seen xs else x ∷ once_after (x ∷ seen) xs

-- the births of those of the weak objects whose targets pass the test, each object once
abbrev pub births_losing : Table TypeInfo → (ℕ → ℕ) → (ℕ → Bool) → List ℕ → List ℕ
births_losing types word gone places =
    map (λ p. word (p + 1)) (filter (λ p. gone (target_at types word p)) (once_after [] places))

-- these births stand in rising order behind those that were there
pub record TellsInOrder (births told tells : List ℕ) : Type 0 where
  pub sorted : List ℕ
  pub just : IsPermutation births sorted
  pub rising : IsNonDecreasing sorted
  pub behind : tells ≡ told ++ sorted
