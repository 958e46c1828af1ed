-- Large blocks as extents.
use Rattle.std.specs.Prelude.{◌≡◌, ℕ, ◌+◌, ◌≤◌, ◌==◌, not, List, [], ◌∷◌, ◌++◌, filter, map}
use Rattle.std.specs.List.Sorted.{IsPermutation}
use Rattle.heap_space.specs.Memory.{Memory}
use Rattle.heap_space.specs.Extents.{Extent, Each, extents_between}

-- the extents of the memory's large blocks, by rising place
abbrev pub larges_of : Memory → List Extent
larges_of m = extents_between 1099511627776 9223372036854775808 m

-- the extents lie one after another
abbrev pub AreRising : List Extent → Type 0
AreRising [] = Unit {0}
AreRising (x ∷ xs) = Each (λ y. x.0 + x.1 ≤ y.0) xs × AreRising xs

-- the places of the extents
abbrev pub places_of : List Extent → List ℕ
places_of xs = map (λ x. x.0) xs

-- those that do not begin at a
abbrev pub begin_elsewhere : ℕ → List Extent → List Extent
begin_elsewhere a xs = filter (λ x. not (x.0 == a)) xs

-- the places without a
abbrev pub without_place : ℕ → List ℕ → List ℕ
without_place a xs = filter (λ b. not (b == a)) xs

-- the blocks, by rising place, stand behind what the list had
pub record ListsBlocks (old new live : List Extent) : Type 0 where
  pub found : List Extent
  pub behind : new ≡ old ++ found
  pub same : IsPermutation found live
  pub rising : AreRising found
