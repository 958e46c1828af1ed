-- A step of marking, as the code does it: visits, the roots queued again, and more visits.
use Rattle.std.proofs.Common.{◌≡◌, ℕ, suc, ◌+◌, ◌<◌, Bool, List, [], ◌∷◌, ◌++◌, length, take, length-append, refl, sym, ap, ap₂, ◌∙◌, subst, inr, arith}
use Rattle.std.specs.Prelude.{◌-◌}
use Rattle.std.proofs.lemmas.List.{map-append}
use Rattle.std.proofs.lemmas.List.Sums.{sum_by-append, sum_by-take-le}
use Rattle.object_model.specs.ObjectWords.{words_at}
use Rattle.mark_steps.specs.declared.MarkEnd.{MarkEnd}
use Rattle.mark_steps.specs.declared.MarkEnd.TheVariants.{Budget, Empty}
use Rattle.text_model.specs.declared.line.Phase.TheVariants.{Marking}
use Rattle.heap_parts.specs.Parts.{HeapParts, word_in}
use Rattle.heap_parts.specs.Places.{AreAmong}
use Rattle.heap_phases.specs.Steps.{CanStep, CanQueue}
use Rattle.heap_phases.specs.Budget.{CanMark, MarksPlaces, VisitsTwice, VisitsWithin, IsFew, words_of_places, births_of, is_budget}
use Rattle.heap_phases.specs.Visiting.{with_gray, old_roots}
use Rattle.heap_phases.proofs.MarkCalls.{can_mark}
use Rattle.heap_phases.proofs.StartCalls.{can_queue, none_chosen_marking}
use Rattle.heap_phases.proofs.MarkingSteps.{take-among}
use Rattle.heap_phases.proofs.MarksAgain.{first_visits, queued_at, words_again, births_again, second_visits}

-- all but the last of two lists
but-last : (ps qs : List ℕ) → 0 < length qs → take (length (ps ++ qs) - 1) (ps ++ qs) ≡ ps ++ take (length qs - 1) qs
but-last [] qs some = refl
but-last (p ∷ ps) qs some =
    let more = but-last ps qs some in
    let size = length-append ps qs in
    let n : length (p ∷ (ps ++ qs)) - 1 ≡ suc (length (ps ++ qs) - 1) = omega (arith, size, some) in
    ap (λ (k : ℕ). take k (p ∷ (ps ++ qs))) n ∙ ap (λ (xs : List ℕ). p ∷ xs) more

under-all : (all both first rest words same increment : ℕ) → all ≡ both → both ≡ first + rest → first ≡ words → same ≡ rest → same < increment - words → all < increment
under-all all both first rest words same increment a b c d e = omega arith

module _ (heap : HeapParts) (can : CanStep heap) (marking : heap.phase ≡ Marking) (mid : HeapParts) (told : List ℕ) (words : ℕ)
    (f : MarksPlaces heap.setup.settings.increment heap mid [] told (Empty words)) where
  abbrev queued : HeapParts
  queued = with_gray mid (old_roots mid)

  pub queued_is : with_gray mid (mid.gray ++ old_roots mid) ≡ queued
  queued_is = ap (λ (gs : List ℕ). with_gray mid (gs ++ old_roots mid)) f.ends.0

  -- the roots may be queued, and then visited
  pub may_queue : CanQueue mid
  may_queue = can_queue mid _ (first_visits heap can.store can.collected marking f.places mid f.visits f.ends.0).at.stands (none_chosen_marking heap can.store can.collected.stands marking)

  pub may_mark : CanMark (with_gray mid (mid.gray ++ old_roots mid))
  may_mark = subst CanMark (sym queued_is) (can_mark queued _ (queued_at heap can.store can.collected marking f.places mid f.visits f.ends.0).stands)

  module _ (new : HeapParts) (tells : List ℕ) (end : MarkEnd) (again : MarksPlaces (heap.setup.settings.increment - words) (with_gray mid (mid.gray ++ old_roots mid)) new told tells end) where
    pub g : MarksPlaces (heap.setup.settings.increment - words) queued new told tells end
    g = subst (λ (h : HeapParts). MarksPlaces (heap.setup.settings.increment - words) h new told tells end) queued_is again

    there : AreAmong can.collected.stands.places g.places
    there = (second_visits heap can.store can.collected marking f.places mid f.visits f.ends.0 g.places new g.visits).there

    pub births : tells ≡ births_of heap (f.places ++ g.places)
    births = g.births ∙ (ap₂ (λ (xs ys : List ℕ). xs ++ ys) f.births (births_again heap can.store can.collected marking f.places mid f.visits f.ends.0 g.places there)
        ∙ sym (map-append (λ p. word_in heap (p + 1)) f.places g.places))

    same-words : (n : ℕ) → words_of_places queued (take n g.places) ≡ words_of_places heap (take n g.places)
    same-words n = words_again heap can.store can.collected marking f.places mid f.visits f.ends.0 (take n g.places) (take-among can.collected.stands.places n g.places there)

    all-words : words_of_places heap (f.places ++ g.places) ≡ words + words_of_places queued g.places
    all-words =
        let joined = sum_by-append (words_at heap.setup.types (word_in heap)) f.places g.places in
        let same = words_again heap can.store can.collected marking f.places mid f.visits f.ends.0 g.places there in
        omega (arith, joined, same, f.ends.1)

    abbrev pub twice : IsFew heap (f.places ++ g.places) → VisitsTwice heap new tells
    twice few = record { first = f.places; second = g.places; mid = mid; visits = f.visits; ran_empty = f.ends.0; again = g.visits; births_are = births; few = few }

  ends : (new : HeapParts) (tells : List ℕ) (end : MarkEnd) → MarksPlaces (heap.setup.settings.increment - words) (with_gray mid (mid.gray ++ old_roots mid)) new told tells end
      → VisitsWithin heap new tells (is_budget end)
  ends new tells Budget again =
      let h = g new tells Budget again in
      let all = all-words new tells Budget again in
      let under = f.ends.2 in
      let enough = h.ends.1 in
      let some : 0 < length h.places = not-empty h.places (omega (arith, enough, under)) in
      let last = same-words new tells Budget again (length h.places - 1) in
      let joined = sum_by-append (words_at heap.setup.types (word_in heap)) f.places (take (length h.places - 1) h.places) in
      let cut : words_of_places heap (take (length (f.places ++ h.places) - 1) (f.places ++ h.places)) ≡ words_of_places heap (f.places ++ take (length h.places - 1) h.places) =
      ap (words_of_places heap) (but-last f.places h.places some) in
      let few : IsFew heap (f.places ++ h.places) = under-all _ _ _ _ _ _ _ cut joined (sym f.ends.1) last h.ends.0 in
      inr (twice new tells Budget again few, omega (arith, all, enough, under))
    where
      not-empty : (qs : List ℕ) → 0 < words_of_places queued qs → 0 < length qs
      not-empty [] l = l
      not-empty (q ∷ qs) l = omega arith
  ends new tells (Empty more) again =
      let h = g new tells (Empty more) again in
      let all = all-words new tells (Empty more) again in
      let under = f.ends.2 in
      let is = h.ends.1 in let less = h.ends.2 in
      let part = sum_by-take-le (words_at heap.setup.types (word_in heap)) (f.places ++ h.places) (length (f.places ++ h.places) - 1) in
      (twice new tells (Empty more) again (omega (arith, all, under, is, less, part)), h.ends.0, omega (arith, all, under, is, less))

  pub visit_ends : (mid2 new : HeapParts) (tells : List ℕ) (end : MarkEnd) (goes_on : Bool) → mid2 ≡ with_gray mid (mid.gray ++ old_roots mid)
      → MarksPlaces (heap.setup.settings.increment - words) mid2 new told tells end → goes_on ≡ is_budget end → VisitsWithin heap new tells goes_on
  visit_ends mid2 new tells end goes_on e again is =
      subst (λ (b : Bool). VisitsWithin heap new tells b) (sym is)
      (ends new tells end (subst (λ (h : HeapParts). MarksPlaces (heap.setup.settings.increment - words) h new told tells end) e again))

-- what the first call tells, in the words of the parts
pub marks_first : (heap mid : HeapParts) (budget : ℕ) (before told : List ℕ) (end : MarkEnd) (words : ℕ) → MarksPlaces budget heap mid before told end
    → budget ≡ heap.setup.settings.increment → before ≡ [] → end ≡ Empty words → MarksPlaces heap.setup.settings.increment heap mid [] told (Empty words)
marks_first heap mid budget before told end words m b e is =
    subst (λ (x : MarkEnd). MarksPlaces heap.setup.settings.increment heap mid [] told x) is
    (subst (λ (bs : List ℕ). MarksPlaces heap.setup.settings.increment heap mid bs told end) e
    (subst (λ (n : ℕ). MarksPlaces n heap mid before told end) b m))
