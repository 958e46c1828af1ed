-- How a step of marking ends.
use Rattle.std.specs.Prelude.{◌≡◌, ℕ, ◌+◌, ◌-◌, ◌<◌, ◌≤◌, List, [], ◌++◌, length, map, sum_by, take}
use Rattle.type_table.specs.declared.info.TypeInfo.{TypeInfo}
use Rattle.type_table.specs.Table.{Table}
use Rattle.heap_space.specs.Places.{word_at}
use Rattle.heap_space.specs.Memory.{Memory}
use Rattle.object_model.specs.ObjectWords.{words_at}
use Rattle.mark_steps.specs.declared.MarkEnd.{MarkEnd}
use Rattle.mark_steps.specs.declared.MarkEnd.TheVariants.{Budget, Empty}
use Rattle.mark_steps.specs.Visits.{PlaceVisits}

-- the list begins with these
abbrev pub StartsWith : List ℕ → List ℕ → Type 0
StartsWith list front = (rest : List ℕ) × (list ≡ front ++ rest)

-- The words of the visited reached the budget with the last of them, or the list ran out before: `words_of` tells an object's words.
abbrev pub EndsBy : (ℕ → ℕ) → ℕ → List ℕ → List ℕ → MarkEnd → Type 0
EndsBy words_of budget ps left Budget = (sum_by words_of (take (length ps - 1) ps) < budget) × (budget ≤ sum_by words_of ps)
EndsBy words_of budget ps left (Empty words) = (left ≡ []) × (words ≡ sum_by words_of ps) × (words < budget)

-- A step of marking: which places it visits, the births that it tells, and how it ends.
pub record Marks (types : Table TypeInfo) (nursery budget : ℕ) (old : Memory) (gray told : List ℕ) (new : Memory) (left tells : List ℕ)
    (end : MarkEnd) : Type 0 where
  pub places : List ℕ
  pub visits : PlaceVisits types nursery old gray places new left
  pub births : tells ≡ told ++ map (λ p. word_at old.blocks (p + 1)) places
  pub ends : EndsBy (words_at types (word_at old.blocks)) budget places left end
