-- What a collection can count: objects are fewer than births, and their words no more than the nursery had.
use Rattle.std.proofs.Common.{◌≡◌, ℕ, suc, ◌+◌, ◌<◌, ◌≤◌, Bool, IsTrue, List, [], ◌∷◌, map, length, refl, ap, inl, inr, arith}
use Rattle.std.specs.Prelude.{sum_by, filter, not, ◌^◌}
use Rattle.std.proofs.lemmas.Bool.{cases_Bool}
use Rattle.std.proofs.lemmas.List.Sums.{sum_by-cons}
use Rattle.object_model.specs.Sets.{is_in}
use Rattle.object_model.specs.ObjectWords.{words_at}
use Rattle.object_model.proofs.Members.{is_in-nil, is_in-cases}
use Rattle.heap_parts.specs.Parts.{HeapParts, word_in}
use Rattle.heap_parts.specs.Places.{is_young, RiseBetween, young_places, old_places}
use Rattle.frame_laws.proofs.PlaceLaws.{placed_words}
use Rattle.minor_collect.specs.Calls.{Stage, Spot, Middle}

rise-length : (least next : ℕ) (births : List ℕ) → RiseBetween least births next → least + length births ≤ next
rise-length least next [] rise = omega (arith, rise)
rise-length least next (b ∷ births) rise = let more = rise-length (b + 1) next births rise.1 in let long : length (b ∷ births) ≡ suc (length births) = refl in omega (arith, more, rise.0, long)

filter-length : (test : ℕ → Bool) (xs : List ℕ) → length (filter test xs) ≤ length xs
filter-length test [] = omega arith
filter-length test (x ∷ xs) =
    let more = filter-length test xs in let long : length (x ∷ xs) ≡ suc (length xs) = refl in
    elim (cases_Bool (test x)) [
      | inl e ↦ let first : length (filter test (x ∷ xs)) ≡ suc (length (filter test xs)) = rw e refl in omega (arith, more, first, long)
      | inr e ↦ let first : length (filter test (x ∷ xs)) ≡ length (filter test xs) = rw e refl in omega (arith, more, first, long)
    ]

map-length : (f : ℕ → ℕ) (xs : List ℕ) → length (map f xs) ≡ length xs
map-length f [] = refl
map-length f (x ∷ xs) = ap suc (map-length f xs)

pub sum_member : (f : ℕ → ℕ) (xs : List ℕ) (p : ℕ) → IsTrue (is_in p xs) → f p ≤ sum_by f xs
sum_member f [] p t = absurd (is_in-nil p t)
sum_member f (x ∷ xs) p t = let first = sum_by-cons f x xs in elim (is_in-cases p x xs t) [
  | inl e ↦ (let same : f p ≡ f x = ap f e in omega (arith, first, same))
  | inr u ↦ let more = sum_member f xs p u in omega (arith, first, more)
]

module _ {stage : Stage} {now : HeapParts} {spot : Spot} (middle : Middle stage now spot []) where
  -- objects that moved are fewer than births
  pub objects_few : spot.moved.objects + 1 < 2 ^ 63
  objects_few =
      let many = rise-length 1 stage.start.next (map spot.placing.name spot.placing.places) middle.mid.rise in
      let same = map-length spot.placing.name spot.placing.places in
      let part = filter-length (λ place. not (is_young place)) spot.placing.places in
      omega (arith, many, same, part, middle.mid.carried.counted, stage.stands.births.next_high)

  -- and have, with those that are in the nursery still, just its words
  pub words_moved : spot.moved.words + sum_by (words_at stage.start.setup.types (word_in now)) (young_places spot.placing.places) ≡ stage.start.unsettled
  words_moved =
      let here = placed_words (map spot.placing.name (old_places spot.placing.places)) middle.mid.words.objects refl in
      let first = placed_words stage.store.settled stage.stands.words.objects stage.stands.births.settled_are in
      omega (arith, here.all, first.all, first.unsettled, first.settled_are, stage.stands.sums.unsettled_are, middle.mid.moved_words)

  pub words_few : (p : ℕ) → IsTrue (is_in p (young_places spot.placing.places)) → spot.moved.words + words_at stage.start.setup.types (word_in now) p ≤ 16777216
  words_few p t =
      let one = sum_member (words_at stage.start.setup.types (word_in now)) (young_places spot.placing.places) p t in
      omega (arith, one, words_moved, stage.stands.sums.within, stage.stands.made.ranges.2.2.1)
