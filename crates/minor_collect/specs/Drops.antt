-- What is gone is let go of.
use Rattle.std.specs.Prelude.{◌≡◌, ℕ, List}
use Rattle.object_model.specs.Sets.{is_in}
use Rattle.store_model.specs.Links.{cut_links}
use Rattle.heap_parts.specs.Parts.{HeapParts}
use Rattle.minor_collect.specs.Gives.{Giving, GivesSome, AreGone, CanGiveAll, GaveAll}
use Rattle.minor_collect.specs.WeakPass.{PassesWeaks}

-- once targets follow, the homes of what is gone can be given back
abbrev pub CanGiveThen : HeapParts → List ℕ → List ℕ → Type 0
CanGiveThen old dead told_old = (passed : HeapParts) (told_new : List ℕ) → PassesWeaks old passed told_old told_new → CanGiveAll passed dead

-- Targets follow or are cleared, then homes are given back, and then the links with what is gone end.
pub record Drops (old new : HeapParts) (dead told_old told_new : List ℕ) : Type 0 where
  pub passed : HeapParts
  pub gave : HeapParts
  pub passes : PassesWeaks old passed told_old told_new
  pub gives : (giving : Giving) → GivesSome giving passed → AreGone giving dead → GaveAll giving passed gave dead
  pub links : new ≡ record gave { links = cut_links (λ object. is_in object dead) gave.links }
