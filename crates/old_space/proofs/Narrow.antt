-- What stays between two places stays between two that lie between them.
use Rattle.std.proofs.Common.{◌≡◌, ℕ, ◌+◌, ◌≤◌, List, [], ◌∷◌, map, refl, sym, ap, ◌∙◌, arith}
use Rattle.std.specs.Prelude.{filter}
use Rattle.std.proofs.lemmas.Bool.Decides.{nat_tests}
use Rattle.heap_space.specs.Places.{word_at}
use Rattle.heap_space.specs.Memory.{Memory}
use Rattle.heap_space.specs.Extents.{Extent, Each, IsInside, extent_of, begins_between, IsUntouched, KeepsOutside, KeepsWords}
use Rattle.heap_space.proofs.ExtentLaws.{Each-map}

filter-narrow : (low high from end : ℕ) (xs : List Extent) → low ≤ from → end ≤ high
    → filter (begins_between from end) (filter (begins_between low high) xs) ≡ filter (begins_between from end) xs
filter-narrow low high from end [] l h = refl
filter-narrow low high from end (x ∷ xs) l h = grind (arith, nat_tests, filter-narrow low high from end xs l h)

pub narrow : (low high from end : ℕ) (old new : Memory) (live : List Extent) → low ≤ from → end ≤ high
    → IsUntouched low high old new live → IsUntouched from end old new live
narrow low high from end old new live l h u = record {
  blocks =
      sym (filter-narrow low high from end (map extent_of new.blocks) l h)
      ∙ ap (λ (xs : List Extent). filter (begins_between from end) xs) u.blocks
      ∙ filter-narrow low high from end (map extent_of old.blocks) l h;
  words = λ a from-a a-end out. u.words a (omega arith) (omega arith) out;
}

-- the live blocks need not be left out where no word changes
pub whole : (low high : ℕ) (old new : Memory) (live : List Extent) → IsUntouched low high old new [] → IsUntouched low high old new live
whole low high old new live u = record { blocks = u.blocks; words = λ a l h out. u.words a l h tt }

-- what stays outside a part of the places stays outside both parts

pub outside-pages : (old new : Memory) → KeepsOutside 4294967296 1099511627776 old new → KeepsOutside 4294967296 9223372036854775808 old new
outside-pages old new k = record {
  below = k.below;
  above = λ end. narrow 1099511627776 end 9223372036854775808 end old new [] (omega arith) (omega arith) (k.above end);
}

pub outside-larges : (old new : Memory) → KeepsOutside 1099511627776 9223372036854775808 old new
    → KeepsOutside 4294967296 9223372036854775808 old new
outside-larges old new k = record {
  below = narrow 0 1099511627776 0 4294967296 old new [] (omega arith) (omega arith) k.below;
  above = k.above;
}

-- the words of extents outside

pub kept-below : (old new : Memory) (xs : List Extent) → KeepsOutside 1099511627776 9223372036854775808 old new
    → Each (λ x. x.0 + x.1 ≤ 1099511627776) xs → KeepsWords old new xs
kept-below old new xs k low =
    Each-map (λ x. x.0 + x.1 ≤ 1099511627776) (λ x. (a : ℕ) → IsInside x a → word_at new.blocks a ≡ word_at old.blocks a)
    (λ x high a inside. let i = inside.1 in k.below.words a (omega arith) (omega arith) tt) xs low

pub kept-above : (old new : Memory) (xs : List Extent) → KeepsOutside 4294967296 1099511627776 old new
    → Each (λ x. 1099511627776 ≤ x.0) xs → KeepsWords old new xs
kept-above old new xs k high =
    Each-map (λ x. 1099511627776 ≤ x.0) (λ x. (a : ℕ) → IsInside x a → word_at new.blocks a ≡ word_at old.blocks a)
    (λ x low a inside. let i = inside.0 in (k.above (a + 1)).words a (omega arith) (omega arith) tt) xs high
