-- The fields of a nursery through a request.
use Rattle.std.proofs.Common.{◌≡◌, inl, inr, ℕ, ◌+◌, ◌-◌, ◌<◌, ◌≤◌, List, ◌++◌, length, take, drop, ap, ◌∙◌, sym, subst, arith, vec_len, length-append, length-drop, length-take, ◌^◌}
use Rattle.std.specs.Vec.{vec_capacity}
use Rattle.std.proofs.lemmas.Bool.{cases_lt, lt-ltb, le-ltb}
use Rattle.std.proofs.lemmas.List.{drop-drop}
use Rattle.nursery_gaps.specs.declared.Nursery.TheInside.{Inside}
use Rattle.nursery_gaps.specs.Ranges.{Range, words_between}
use Rattle.nursery_gaps.specs.Nursery.{Layout, Fits, FitsLowest, HandsOut, IsLaidOut}
use Rattle.nursery_gaps.specs.Fields.{IsKept}
use Rattle.nursery_gaps.specs.Gaps.{IsFirstGap, HasNoGap}
use Rattle.nursery_gaps.proofs.LayoutLaws.{layout_of, IsSplit, found-lowest, found-inside, not-found, stays-split, stays-hands_out, leaves-split, leaves-hands_out, stands, rest-is}

-- the ranges above the current gap
abbrev pub above_of : Inside → List Range
above_of n = drop n.passed n.pinned.items

-- what a contract sees of the fields
abbrev pub seen : Inside → Layout
seen n = layout_of n.words n.pins n.gap n.cursor n.below.items (above_of n)

pub split-of : (n : Inside) → IsKept n → IsSplit n.words n.gap n.cursor n.below.items (above_of n)
split-of n kept = record { lower = kept.lower; passed = kept.passed; upper = kept.upper }

length-words_between : (from to : ℕ) → length (words_between from to) ≤ 1
length-words_between from to = elim (cases_lt from to) [
  | inl less ↦ rw (lt-ltb from to less) (omega arith)
  | inr more ↦ rw (le-ltb from to more) (omega arith)
]

pub stands-of : (n : Inside) → IsKept n → IsLaidOut (seen n)
stands-of n kept =
    let own : List Range = words_between n.gap n.cursor in
    stands n.words n.pins n.gap n.cursor n.below.items (above_of n) (split-of n kept)
    (omega (
      arith,
      kept.own,
      kept.listed,
      kept.pinned,
      n.below.ok.0,
      n.pinned.ok.0,
      length-words_between n.gap n.cursor,
      length-append (n.below.items ++ own) (above_of n),
      length-append n.below.items own,
      length-drop n.passed n.pinned.items,
    ))

-- the ranges above the current gap as the code takes them
pub above-is : (n : Inside) (ranges : List Range) → ranges ≡ n.pinned.items
    → take (length ranges - n.passed) (drop n.passed ranges) ≡ above_of n
above-is n ranges same = rest-is ranges n.passed ∙ ap (drop n.passed) same

-- a request for some words that finds room: `above` are the ranges above the current gap
pub record Finds (need count place : ℕ) (above : List Range) (old : Inside) : Type 0 where
  pub kept : IsKept old
  pub ranges : above ≡ above_of old
  pub first : IsFirstGap need old.cursor (old.words + 1) above count place

pub finds-of : (need count place : ℕ) (old : Inside) (ranges : List Range) → IsKept old → ranges ≡ old.pinned.items
    → IsFirstGap need old.cursor (old.words + 1) (take (length ranges - old.passed) (drop old.passed ranges)) count place
    → Finds need count place (take (length ranges - old.passed) (drop old.passed ranges)) old
finds-of need count place old ranges kept same first =
    record { kept = kept; ranges = above-is old ranges same; first = first }

Finds-first : (need count place : ℕ) (above : List Range) (old : Inside) → Finds need count place above old
    → IsFirstGap need old.cursor (old.words + 1) (above_of old) count place
Finds-first need count place above old finds =
    subst (λ ranges. IsFirstGap need old.cursor (old.words + 1) ranges count place) finds.ranges finds.first

pub Finds-lowest : (need count place : ℕ) (above : List Range) (old : Inside) → 0 < need → Finds need count place above old
    → FitsLowest (seen old) need place
Finds-lowest need count place above old some finds =
    found-lowest need old.words old.pins old.gap old.cursor count place old.below.items (above_of old) some
    (split-of old finds.kept) (Finds-first need count place above old finds)

-- what is handed out ends in the nursery
pub Finds-fits : (need count place : ℕ) (above : List Range) (old : Inside) → Finds need count place above old
    → place + need < 2 ^ 64
Finds-fits need count place above old finds =
    omega (
      arith,
      finds.kept.most,
      found-inside need old.words old.gap old.cursor count place old.below.items (above_of old) (split-of old finds.kept)
          (Finds-first need count place above old finds),
    )

-- a request that finds no room
pub finds-none : (need : ℕ) (above : List Range) (old : Inside) → 0 < need → IsKept old → above ≡ above_of old
    → HasNoGap need old.cursor (old.words + 1) above → (place : ℕ) → ¬ Fits (seen old) need place
finds-none need above old some kept ranges none place =
    not-found need old.words old.pins old.gap old.cursor old.below.items (above_of old) some (split-of old kept)
    (subst (HasNoGap need old.cursor (old.words + 1)) ranges none) place

-- within the current gap a request moves the cursor alone
abbrev pub stayed : Inside → ℕ → Inside
stayed old need = record old { cursor = old.cursor + need }

pub stays-hands : (need count place : ℕ) (above : List Range) (old : Inside) → count ≡ 0 → Finds need count place above old
    → HandsOut (seen old) need place (seen (stayed old need))
stays-hands need count place above old none finds =
    stays-hands_out need old.words old.pins old.gap old.cursor place old.below.items (above_of old)
    (rw none at (Finds-first need count place above old finds))

pub stays-kept : (need count place : ℕ) (above : List Range) (old : Inside) → count ≡ 0 → Finds need count place above old
    → IsKept (stayed old need)
stays-kept need count place above old none finds =
    let kept = finds.kept in
    let split = stays-split need old.words old.gap old.cursor place old.below.items (above_of old) (split-of old kept)
    (rw none at (Finds-first need count place above old finds))
    in
    record {
      least = kept.least;
      most = kept.most;
      few = kept.few;
      lower = kept.lower;
      passed = split.passed;
      upper = split.upper;
      pinned = kept.pinned;
      listed = kept.listed;
      own = kept.own;
      room_below = kept.room_below;
      room_pinned = kept.room_pinned;
    }

pub stays-fits : (need count place : ℕ) (above : List Range) (old : Inside) → count ≡ 0 → Finds need count place above old
    → old.cursor + need < 2 ^ 64
stays-fits need count place above old none finds =
    let first = rw none at (Finds-first need count place above old finds) in
    omega (arith, Finds-fits need count place above old finds, first.begins)

-- a request that leaves the current gap notes what lies below the one that it goes on to
pub record Leaves (need count place : ℕ) (above : List Range) (old new : Inside) : Type 0 where
  pub finds : Finds need count place above old
  pub some : 0 < count
  pub fields : new ≡ record old { below = new.below; passed = old.passed + count; gap = place; cursor = place + need }
  pub below : new.below.items ≡ old.below.items ++ words_between old.gap old.cursor ++ take count above
  pub counted : vec_len new.below ≤ vec_len old.below + 1 + length (take count above)
  pub room : vec_capacity old.below ≤ vec_capacity new.below

Leaves-below : (need count place : ℕ) (above : List Range) (old new : Inside) → Leaves need count place above old new
    → new.below.items ≡ old.below.items ++ words_between old.gap old.cursor ++ take count (above_of old)
Leaves-below need count place above old new leaves =
    leaves.below ∙ ap (λ ranges. old.below.items ++ words_between old.gap old.cursor ++ take count ranges) leaves.finds.ranges

Leaves-above : (need count place : ℕ) (above : List Range) (old new : Inside) → Leaves need count place above old new
    → above_of new ≡ drop count (above_of old)
Leaves-above need count place above old new leaves =
    ap above_of leaves.fields ∙ sym (drop-drop count old.passed old.pinned.items)

Leaves-seen : (need count place : ℕ) (above : List Range) (old new : Inside) → Leaves need count place above old new
    → layout_of old.words old.pins place (place + need) (old.below.items ++ words_between old.gap old.cursor ++ take count (above_of old))
    (drop count (above_of old)) ≡ seen new
Leaves-seen need count place above old new leaves =
    rw (← Leaves-below need count place above old new leaves, drop-drop count old.passed old.pinned.items) (sym (ap seen leaves.fields))

pub Leaves-hands_out : (need count place : ℕ) (above : List Range) (old new : Inside) → Leaves need count place above old new
    → HandsOut (seen old) need place (seen new)
Leaves-hands_out need count place above old new leaves =
    subst (HandsOut (seen old) need place) (Leaves-seen need count place above old new leaves)
    (leaves-hands_out need old.words old.pins old.gap old.cursor count place old.below.items (above_of old) leaves.some
    (split-of old leaves.finds.kept) (Finds-first need count place above old leaves.finds))

pub Leaves-kept : (need count place : ℕ) (above : List Range) (old new : Inside) → Leaves need count place above old new
    → IsKept new
Leaves-kept need count place above old new leaves =
    let kept = leaves.finds.kept in
    let first = Finds-first need count place above old leaves.finds in
    let split = leaves-split need old.words old.gap old.cursor count place old.below.items (above_of old) (split-of old kept) first in
    let counted : count ≤ vec_len old.pinned - old.passed =
    omega (arith, first.within, length-drop old.passed old.pinned.items, old.pinned.ok.0)
    in
    let words : new.words ≡ old.words = ap (λ n. n.words) leaves.fields in
    let pins : new.pins ≡ old.pins = ap (λ n. n.pins) leaves.fields in
    let pinned : vec_len new.pinned ≡ vec_len old.pinned = ap (λ n. vec_len n.pinned) leaves.fields in
    let room : vec_capacity new.pinned ≡ vec_capacity old.pinned = ap (λ n. vec_capacity n.pinned) leaves.fields in
    let gap : new.gap ≡ place = ap (λ n. n.gap) leaves.fields in
    let cursor : new.cursor ≡ place + need = ap (λ n. n.cursor) leaves.fields in
    let passed : new.passed ≡ old.passed + count = ap (λ n. n.passed) leaves.fields in
    record {
      least = omega (arith, kept.least, words);
      most = omega (arith, kept.most, words);
      few = omega (arith, kept.few, pins);
      lower = rw (gap, Leaves-below need count place above old new leaves) split.lower;
      passed = omega (arith, gap, cursor);
      upper = rw (cursor, words, Leaves-above need count place above old new leaves) split.upper;
      pinned = omega (arith, kept.pinned, pinned, pins);
      listed = omega (arith, kept.listed, passed, pinned, counted);
      own = omega (arith, kept.own, passed, leaves.counted, leaves.some, length-take count above);
      room_below = omega (arith, kept.room_below, pins, leaves.room);
      room_pinned = omega (arith, kept.room_pinned, pins, room);
    }
