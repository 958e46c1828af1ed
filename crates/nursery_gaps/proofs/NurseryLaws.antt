-- What the contracts of a nursery give to the layers above.
use Rattle.std.proofs.Common.{◌≡◌, ℕ, zero, suc, ◌+◌, ◌-◌, ◌<◌, ◌≤◌, Bool, true, false, not, ◌&&◌, nat_lt, nat_le, if◌then◌else◌, inl, inr, List, [], ◌∷◌, ◌++◌, length, sum_by, refl, sym, ap, ◌∙◌, subst, arith, append-nil, length-append}
use Rattle.std.specs.Prelude.{All, AllPairs}
use Rattle.std.proofs.lemmas.Bool.{cases_lt, cases_eq, lt-ltb, le-ltb, eq-eqb, ne_eqb, and_parts, leb-true, ltb-true}
use Rattle.std.proofs.lemmas.Bool.Decides.{nat_tests}
use Rattle.std.proofs.Math.Bool.{and-true}
use Rattle.std.proofs.lemmas.List.{nil_from_length}
use Rattle.nursery_gaps.specs.Ranges.{Range, covers, is_free, AreRising, words_between}
use Rattle.nursery_gaps.specs.Nursery.{Layout, Fits, FitsLowest, gap_at, HandsOut, IsLaidOut, spare_words}
use Rattle.nursery_gaps.proofs.GapLaws.{AreRising_le, AreRising-both, AreRising-words_between}
use Rattle.nursery_gaps.proofs.FreeLaws.{is_free-append, is_free-words_between}
use Rattle.nursery_gaps.proofs.SpareLaws.{spare_words-split}

-- the used ranges lie in the nursery, one after another
pub IsLaidOut-rising : (layout : Layout) → IsLaidOut layout → AreRising 1 (layout.words + 1) layout.used
IsLaidOut-rising layout laid =
    rw laid.used
    (AreRising-both 1 layout.cursor (layout.words + 1) (laid.below ++ words_between layout.gap layout.cursor) laid.above
    (AreRising-both 1 layout.gap layout.cursor laid.below (words_between layout.gap layout.cursor) laid.lower
    (AreRising-words_between layout.gap layout.cursor laid.passed))
    laid.upper)

-- each of them has words, and lies between the two places
pub AreRising-within : (from to : ℕ) (ranges : List Range) → AreRising from to ranges
    → All (λ range. (from ≤ range.0) × (0 < range.1) × (range.0 + range.1 ≤ to)) ranges
AreRising-within from to [] rising k d within = absurd (omega arith)
AreRising-within from to (range ∷ ranges) rising zero d within =
    (rising.0, rising.1, AreRising_le (range.0 + range.1) to ranges rising.2)
AreRising-within from to (range ∷ ranges) rising (suc k) d within =
    let rest = AreRising-within (range.0 + range.1) to ranges rising.2 k d (omega arith) in
    (omega (arith, rest.0, rising.0), rest.1, rest.2)

-- no two of them overlap
pub AreRising-apart : (from to : ℕ) (ranges : List Range) → AreRising from to ranges
    → AllPairs (λ lower upper. lower.0 + lower.1 ≤ upper.0) ranges
AreRising-apart from to [] rising i j d order within = absurd (omega arith)
AreRising-apart from to (range ∷ ranges) rising zero zero d order within = absurd (omega arith)
AreRising-apart from to (range ∷ ranges) rising zero (suc j) d order within =
    (AreRising-within (range.0 + range.1) to ranges rising.2 j d (omega arith)).0
AreRising-apart from to (range ∷ ranges) rising (suc i) zero d order within = absurd (omega arith)
AreRising-apart from to (range ∷ ranges) rising (suc i) (suc j) d order within =
    AreRising-apart (range.0 + range.1) to ranges rising.2 i j d (omega arith) (omega arith)

-- the words that are handed out lie in no range that was used before
pub Fits-outside : (old : Layout) (n place word : ℕ) → Fits old n place → covers (place, n) word ≡ true
    → is_free old.used word ≡ true
Fits-outside old n place word fits inside =
    let parts = and_parts (nat_le place word) (nat_lt word (place + n)) inside in
    fits.free word (leb-true place word parts.0) (ltb-true word (place + n) parts.1)

-- the gap from which words are handed out begins at or below them
gap_at_le : (old : Layout) (place : ℕ) → old.gap ≤ old.cursor → gap_at old place ≤ place
gap_at_le old place passed = elim (cases_eq place old.cursor) [
  | inl same ↦ rw (eq-eqb place old.cursor same) (omega arith)
  | inr other ↦ rw (ne_eqb place old.cursor other) (omega arith)
]

is_free-words_between-is : (gap place word : ℕ)
    → is_free (words_between gap place) word ≡ not (nat_le gap word && nat_lt word place)
is_free-words_between-is gap place word = elim (cases_lt gap place) [
  | inl less ↦
      let ends : gap + (place - gap) ≡ place = omega arith in
      rw (lt-ltb gap place less, ends) (and-true (not (nat_le gap word && nat_lt word place)))
  | inr more ↦ rw (le-ltb gap place more) (grind (arith, nat_tests))
]

-- n more words of a gap are used by just these
is_free-grown : (gap place n word : ℕ) → gap ≤ place
    → is_free (words_between gap (place + n)) word ≡ (is_free (words_between gap place) word && not (covers (place, n) word))
is_free-grown gap place n word order =
    rw (is_free-words_between-is gap (place + n) word, is_free-words_between-is gap place word) (grind (arith, nat_tests))

regroup : (a b c d : Bool) → (a && (b && d) && c) ≡ (a && b && c && d)
regroup false b c d = refl
regroup true false c d = refl
regroup true true true true = refl
regroup true true true false = refl
regroup true true false true = refl
regroup true true false false = refl

-- just the words that are handed out are used afterwards and were not before
pub HandsOut-free : (old new : Layout) (n place word : ℕ) → IsLaidOut old → HandsOut old n place new
    → is_free new.used word ≡ (is_free old.used word && not (covers (place, n) word))
HandsOut-free old new n place word laid handed =
    let gap : ℕ = gap_at old place in
    let parts : (end : ℕ) → is_free (handed.below ++ words_between gap end ++ handed.above) word
    ≡ (is_free handed.below word && is_free (words_between gap end) word && is_free handed.above word) =
    λ end. is_free-append (handed.below ++ words_between gap end) handed.above word
    ∙ ap (λ test. test && is_free handed.above word) (is_free-append handed.below (words_between gap end) word)
    in
    ap (λ layout. is_free layout.used word) handed.is ∙ parts (place + n)
    ∙ ap (λ test. is_free handed.below word && test && is_free handed.above word)
    (is_free-grown gap place n word (gap_at_le old place laid.passed))
    ∙ regroup (is_free handed.below word) (is_free (words_between gap place) word) (is_free handed.above word)
    (not (covers (place, n) word))
    ∙ ap (λ test. test && not (covers (place, n) word))
    (sym (parts place) ∙ ap (λ used. is_free used word) (sym handed.was))

-- in a nursery with one used range at most, right below the cursor, all words from the cursor on are free
pub Fits-ungapped : (old : Layout) (n : ℕ) → old.used ≡ words_between old.gap old.cursor → old.cursor + n ≤ old.words + 1
    → Fits old n old.cursor
Fits-ungapped old n alone room = record {
  reached = omega arith;
  inside = room;
  free = λ word low high. rw alone (is_free-words_between old.gap old.cursor word low);
}

-- and what is handed out there is added to that range
pub HandsOut-ungapped : (old new : Layout) (n : ℕ) → old.used ≡ words_between old.gap old.cursor
    → HandsOut old n old.cursor new
    → new ≡ record old { used = words_between old.gap (old.cursor + n); cursor = old.cursor + n }
HandsOut-ungapped old new n alone handed =
    let own : List Range = words_between old.gap old.cursor in
    let same : gap_at old old.cursor ≡ old.gap =
    ap (λ test. if test then old.gap else old.cursor) (eq-eqb old.cursor old.cursor refl)
    in
    let was : own ≡ handed.below ++ own ++ handed.above =
    sym alone ∙ handed.was ∙ ap (λ gap. handed.below ++ words_between gap old.cursor ++ handed.above) same
    in
    let counted : length own ≡ length handed.below + length own + length handed.above =
    ap length was ∙ length-append (handed.below ++ own) handed.above
    ∙ ap (λ count. count + length handed.above) (length-append handed.below own)
    in
    let none_below : handed.below ≡ [] = nil_from_length handed.below (omega arith) in
    let none_above : handed.above ≡ [] = nil_from_length handed.above (omega arith) in
    handed.is ∙ rw (none_below, none_above, same, append-nil) refl

pub hands_out-ungapped : (old new : Layout) (n place : ℕ) → old.used ≡ words_between old.gap old.cursor
    → old.cursor + n ≤ old.words + 1 → FitsLowest old n place → HandsOut old n place new
    → (place ≡ old.cursor)
    × (new ≡ record old { used = words_between old.gap (old.cursor + n); cursor = old.cursor + n })
hands_out-ungapped old new n place alone room lowest handed =
    let same : place ≡ old.cursor =
    omega (arith, lowest.fits.reached, lowest.lowest old.cursor (Fits-ungapped old n alone room))
    in
    (same, HandsOut-ungapped old new n alone (subst (λ at. HandsOut old n at new) same handed))

-- the words that are spare are those from the cursor on but for the used ranges above it
pub spare-sum : (layout : Layout) (laid : IsLaidOut layout)
    → spare_words layout + sum_by (λ range. range.1) laid.above ≡ layout.words + 1 - layout.cursor
spare-sum layout laid =
    rw laid.used
    (spare_words-split layout.words layout.pins layout.gap layout.cursor laid.below laid.above
    (record { lower = laid.lower; passed = laid.passed; upper = laid.upper }))
