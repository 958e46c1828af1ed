-- What holds of the fields of a nursery.
use Rattle.std.specs.Prelude.{◌+◌, ◌*◌, ◌≤◌, drop, vec_len}
use Rattle.std.specs.Vec.{vec_capacity}
use Rattle.nursery_gaps.specs.declared.Nursery.TheInside.{Inside}
use Rattle.nursery_gaps.specs.Ranges.{AreRising}

-- the ranges below the current gap and above the cursor rise, and the lists have room for all that may come
pub record IsKept (n : Inside) : Type 0 where
  pub least : 16 ≤ n.words
  pub most : n.words ≤ 1048576
  pub few : n.pins ≤ 1024
  pub lower : AreRising 1 n.gap n.below.items
  pub passed : n.gap ≤ n.cursor
  pub upper : AreRising n.cursor (n.words + 1) (drop n.passed n.pinned.items)
  pub pinned : vec_len n.pinned ≤ n.pins
  pub listed : n.passed ≤ vec_len n.pinned
  pub own : vec_len n.below ≤ 2 * n.passed
  pub room_below : 2 * n.pins ≤ vec_capacity n.below
  pub room_pinned : n.pins ≤ vec_capacity n.pinned
