-- The objects of the nursery.
use Rattle.std.specs.Prelude.{◌≡◌, ℕ, ◌+◌, ◌≤◌, Bool, false, IsTrue, List, [], ◌∷◌, flat_map}
use Rattle.std.specs.List.Sorted.{IsPermutation}
use Rattle.type_table.specs.declared.info.TypeInfo.{TypeInfo}
use Rattle.type_table.specs.Table.{Table}
use Rattle.heap_space.specs.Places.{lies_in_one}
use Rattle.heap_space.specs.Memory.{Memory}
use Rattle.nursery_gaps.specs.Ranges.{Range, words_between}
use Rattle.nursery_gaps.specs.Nursery.{Layout as NurseryLayout, IsLaidOut}
use Rattle.object_model.specs.Sets.{is_in}
use Rattle.object_model.specs.ObjectWords.{words_at}

-- objects stand one behind another from a place on, up to an end
abbrev pub IsWalk : Table TypeInfo → (ℕ → ℕ) → ℕ → List ℕ → ℕ → Type 0
IsWalk types word from [] end = from ≡ end
IsWalk types word from (place ∷ places) end = (place ≡ from) × IsWalk types word (from + words_at types word place) places end

-- and so in each range in turn
abbrev pub AreWalks : Table TypeInfo → (ℕ → ℕ) → List Range → List (List ℕ) → Type 0
AreWalks types word [] [] = Unit {0}
AreWalks types word [] (places ∷ walks) = ⊥
AreWalks types word (range ∷ ranges) [] = ⊥
AreWalks types word (range ∷ ranges) (places ∷ walks) =
    IsWalk types word range.0 places (range.0 + range.1) × AreWalks types word ranges walks

-- all places of some walks
abbrev pub walked : List (List ℕ) → List ℕ
walked walks = flat_map (λ places. places) walks

-- The used ranges of the nursery hold just the objects at these places, one behind another in each.
pub record HoldsNursery (nursery : NurseryLayout) (memory : Memory) (types : Table TypeInfo) (word : ℕ → ℕ) (young : List ℕ) : Type 0 where
  pub walks : List (List ℕ)
  pub walk : AreWalks types word nursery.used walks
  pub just : IsPermutation (walked walks) young
  pub inside : (p : ℕ) → IsTrue (is_in p young) → p + words_at types word p ≤ nursery.words + 1
  pub laid_out : IsLaidOut nursery
  pub whole : IsTrue (lies_in_one memory.blocks 1 nursery.words)

-- where no object was pinned, what was handed out lies together from word 1 on
abbrev pub IsUngapped : Bool → NurseryLayout → Type 0
IsUngapped gapped nursery = gapped ≡ false → (nursery.gap ≡ 1) × (nursery.used ≡ words_between 1 nursery.cursor)
