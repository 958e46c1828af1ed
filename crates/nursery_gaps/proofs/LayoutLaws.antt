-- What a request finds in a nursery, and what it leaves there.
use Rattle.std.proofs.Common.{◌≡◌, ℕ, ◌+◌, ◌-◌, ◌*◌, ◌<◌, ◌≤◌, true, if◌then◌else◌, List, [], ◌∷◌, ◌++◌, length, take, drop, refl, sym, ap, ◌∙◌, subst, arith, append_assoc, append-nil, length-drop, length-take}
use Rattle.std.proofs.Math.Seq.{take-length}
use Rattle.std.proofs.lemmas.Bool.{eq-eqb, ne_eqb, le-ltb}
use Rattle.std.proofs.lemmas.List.{take-append-drop}
use Rattle.nursery_gaps.specs.Ranges.{Range, is_free, AreRising, words_between}
use Rattle.nursery_gaps.specs.Nursery.{Layout, Fits, FitsLowest, gap_at, HandsOut, IsLaidOut}
use Rattle.nursery_gaps.specs.Gaps.{IsFirstGap, HasNoGap}
use Rattle.nursery_gaps.proofs.GapLaws.{AreRising_le, AreRising-up, AreRising-both, AreRising-parts, AreRising-words_between, end_of-above, next_after_le}
use Rattle.nursery_gaps.proofs.FreeLaws.{is_free-both, is_free-parts, is_free-behind, is_free-before, is_free-words_between, passes}

-- the layout of a nursery with some ranges below its current gap and some above
abbrev pub layout_of : (words pins gap cursor : ℕ) (below above : List Range) → Layout
layout_of words pins gap cursor below above =
    record { words = words; pins = pins; used = below ++ words_between gap cursor ++ above; gap = gap; cursor = cursor }

pub record IsSplit (words gap cursor : ℕ) (below above : List Range) : Type 0 where
  pub lower : AreRising 1 gap below
  pub passed : gap ≤ cursor
  pub upper : AreRising cursor (words + 1) above

-- the ranges above the cursor as those below the place that was found and those above it
found-parts : (n words cursor k place : ℕ) (above : List Range) → AreRising cursor (words + 1) above
    → IsFirstGap n cursor (words + 1) above k place
    → AreRising cursor place (take k above) × AreRising place (words + 1) (drop k above)
found-parts n words cursor k place above upper found =
    let parts = AreRising-parts cursor (words + 1) (take k above) (drop k above)
    (subst (AreRising cursor (words + 1)) (sym (take-append-drop k above)) upper)
    in
    subst (λ at. AreRising cursor at (take k above) × AreRising at (words + 1) (drop k above)) (sym found.begins) parts

pub found-inside : (n words gap cursor k place : ℕ) (below above : List Range) → IsSplit words gap cursor below above
    → IsFirstGap n cursor (words + 1) above k place → place + n ≤ words + 1
found-inside n words gap cursor k place below above split found =
    let parts = found-parts n words cursor k place above split.upper found in
    omega (arith, found.wide, next_after_le place (words + 1) (drop k above) parts.1)

found-free : (n words gap cursor k place : ℕ) (below above : List Range) → IsSplit words gap cursor below above
    → IsFirstGap n cursor (words + 1) above k place → (word : ℕ) → place ≤ word → word < place + n
    → is_free (below ++ words_between gap cursor ++ above) word ≡ true
found-free n words gap cursor k place below above split found word low high =
    let parts = found-parts n words cursor k place above split.upper found in
    let reached : cursor ≤ place = AreRising_le cursor place (take k above) parts.0 in
    is_free-both (below ++ words_between gap cursor) above word
    (is_free-both below (words_between gap cursor) word
    (is_free-behind 1 gap below word split.lower (omega (arith, split.passed)))
    (is_free-words_between gap cursor word (omega arith)))
    (subst (λ ranges. is_free ranges word ≡ true) (take-append-drop k above)
    (is_free-both (take k above) (drop k above) word
    (is_free-behind cursor place (take k above) word parts.0 low)
    (is_free-before place (words + 1) (drop k above) word parts.1 (omega (arith, found.wide)))))

-- where n words fit, the ranges above the cursor are free
fits-above : (n words pins gap cursor other : ℕ) (below above : List Range)
    → Fits (layout_of words pins gap cursor below above) n other
    → (word : ℕ) → other ≤ word → word < other + n → is_free above word ≡ true
fits-above n words pins gap cursor other below above fits word low high =
    (is_free-parts (below ++ words_between gap cursor) above word (fits.free word low high)).1

-- the place that was found is the lowest that fits
pub found-lowest : (n words pins gap cursor k place : ℕ) (below above : List Range) → 0 < n
    → IsSplit words gap cursor below above → IsFirstGap n cursor (words + 1) above k place
    → FitsLowest (layout_of words pins gap cursor below above) n place
found-lowest n words pins gap cursor k place below above some split found =
    let parts = found-parts n words cursor k place above split.upper found in
    record {
      fits = record {
        reached = AreRising_le cursor place (take k above) parts.0;
        inside = found-inside n words gap cursor k place below above split found;
        free = found-free n words gap cursor k place below above split found;
      };
      lowest = λ other fits.
          let above_free : (word : ℕ) → other ≤ word → word < other + n → is_free above word ≡ true =
          fits-above n words pins gap cursor other below above fits
          in
          let ends = passes n cursor other place (take k above) some parts.0 found.narrow fits.reached
          (λ word low high.
          (is_free-parts (take k above) (drop k above) word
          (subst (λ ranges. is_free ranges word ≡ true) (sym (take-append-drop k above)) (above_free word low high))).0)
          in
          omega (arith, found.begins, ends);
    }

-- where no gap has n words, they fit at no place
pub not-found : (n words pins gap cursor : ℕ) (below above : List Range) → 0 < n → IsSplit words gap cursor below above
    → HasNoGap n cursor (words + 1) above
    → (place : ℕ) → ¬ Fits (layout_of words pins gap cursor below above) n place
not-found n words pins gap cursor below above some split none place = λ fits.
    let ends = passes n cursor place (words + 1) above some split.upper none.narrow fits.reached
    (fits-above n words pins gap cursor place below above fits)
    in
    omega (arith, ends, fits.inside, none.short)

-- a request within the current gap
pub stays-split : (n words gap cursor place : ℕ) (below above : List Range) → IsSplit words gap cursor below above
    → IsFirstGap n cursor (words + 1) above 0 place → IsSplit words gap (cursor + n) below above
stays-split n words gap cursor place below above split found = record {
  lower = split.lower;
  passed = omega (arith, split.passed);
  upper = AreRising-up cursor (cursor + n) (words + 1) above (omega (arith, found.begins, found.wide)) split.upper;
}

pub stays-hands_out : (n words pins gap cursor place : ℕ) (below above : List Range) → IsFirstGap n cursor (words + 1) above 0 place
    → HandsOut (layout_of words pins gap cursor below above) n place (layout_of words pins gap (cursor + n) below above)
stays-hands_out n words pins gap cursor place below above found =
    let same : gap_at (layout_of words pins gap cursor below above) place ≡ gap =
    ap (λ test. if test then gap else place) (eq-eqb place cursor found.begins)
    in
    record {
      below = below;
      above = above;
      was = rw (same, found.begins) refl;
      is = rw (same, found.begins) refl;
    }

-- a request that leaves the current gap
pub leaves-split : (n words gap cursor k place : ℕ) (below above : List Range) → IsSplit words gap cursor below above
    → IsFirstGap n cursor (words + 1) above k place
    → IsSplit words place (place + n) (below ++ words_between gap cursor ++ take k above) (drop k above)
leaves-split n words gap cursor k place below above split found =
    let parts = found-parts n words cursor k place above split.upper found in
    record {
      lower = AreRising-both 1 cursor place (below ++ words_between gap cursor) (take k above)
          (AreRising-both 1 gap cursor below (words_between gap cursor) split.lower (AreRising-words_between gap cursor split.passed))
          parts.0;
      passed = omega arith;
      upper = AreRising-up place (place + n) (words + 1) (drop k above) found.wide parts.1;
    }

pub leaves-hands_out : (n words pins gap cursor k place : ℕ) (below above : List Range) → 0 < k
    → IsSplit words gap cursor below above → IsFirstGap n cursor (words + 1) above k place
    → HandsOut (layout_of words pins gap cursor below above) n place
    (layout_of words pins place (place + n) (below ++ words_between gap cursor ++ take k above) (drop k above))
leaves-hands_out n words pins gap cursor k place below above left split found =
    let parts = found-parts n words cursor k place above split.upper found in
    let some : 0 < length (take k above) = omega (arith, length-take k above, found.within) in
    let above_cursor : cursor < place = omega (arith, end_of-above cursor place (take k above) some parts.0, found.begins) in
    let begins : gap_at (layout_of words pins gap cursor below above) place ≡ place =
    ap (λ test. if test then gap else place) (ne_eqb place cursor (λ same. omega arith))
    in
    let none : words_between place place ≡ [] =
    ap (λ test. if test then (place, place - place) ∷ [] else []) (le-ltb place place (omega arith))
    in
    let passed : List Range = below ++ words_between gap cursor in
    record {
      below = passed ++ take k above;
      above = drop k above;
      was = rw (
        begins,
        none,
        append-nil (passed ++ take k above),
        append_assoc passed (take k above) (drop k above),
        take-append-drop k above,
      )
          refl;
      is = rw begins refl;
    }

pub stands : (words pins gap cursor : ℕ) (below above : List Range) → IsSplit words gap cursor below above
    → length (below ++ words_between gap cursor ++ above) ≤ 2 * pins + 1
    → IsLaidOut (layout_of words pins gap cursor below above)
stands words pins gap cursor below above split few = record {
  below = below;
  above = above;
  used = refl;
  lower = split.lower;
  passed = split.passed;
  upper = split.upper;
  few = few;
}

-- the rest of a slice as the code takes it
pub rest-is : (xs : List Range) (k : ℕ) → take (length xs - k) (drop k xs) ≡ drop k xs
rest-is xs k = ap (λ m. take m (drop k xs)) (sym (length-drop k xs)) ∙ take-length (drop k xs)
