-- Members of lists of places, and tests joined.
use Rattle.std.proofs.Common.{List, [], ◌∷◌, ◌++◌}
use Rattle.heap_space.specs.Extents.{Extent, Each, IsApart, AreApart}

-- what holds of each of joined lists
pub each-left : (P : Extent → Type 0) (xs ys : List Extent) → Each P (xs ++ ys) → Each P xs
each-left P [] ys all = tt
each-left P (x ∷ xs) ys all = (all.0, each-left P xs ys all.1)

pub each-right : (P : Extent → Type 0) (xs ys : List Extent) → Each P (xs ++ ys) → Each P ys
each-right P [] ys all = all
each-right P (x ∷ xs) ys all = each-right P xs ys all.1

-- extents of the first of joined lists are apart from those of the second
pub apart-both : (xs ys : List Extent) → AreApart (xs ++ ys) → Each (λ x. Each (IsApart x) ys) xs
apart-both [] ys apart = tt
apart-both (x ∷ xs) ys apart = (each-right (IsApart x) xs ys apart.0, apart-both xs ys apart.1)

pub apart-right : (xs ys : List Extent) → AreApart (xs ++ ys) → AreApart ys
apart-right [] ys apart = apart
apart-right (x ∷ xs) ys apart = apart-right xs ys apart.1
