-- Collections leave no more words and no more objects and husks, which bounds the steps of a whole one.
use Rattle.std.proofs.Common.{◌≡◌, ℕ, ◌+◌, ◌/◌, ◌<◌, ◌≤◌, Bool, true, false, List, [], ◌∷◌, map, length, length-append, refl, sym, ap, subst, inl, inr, arith}
use Rattle.std.specs.Prelude.{not, filter, nat_le, suc}
use Rattle.std.proofs.lemmas.List.{length-map}
use Rattle.std.proofs.lemmas.Bool.{cases_Bool}
use Rattle.text_model.specs.declared.line.Line.{Line}
use Rattle.text_model.specs.declared.line.Line.TheVariants as line
use Rattle.text_model.specs.declared.line.Phase.{Phase}
use Rattle.text_model.specs.declared.line.Phase.TheVariants.{Scanning, Marking, Sweeping, Finalizing}
use Rattle.object_model.specs.declared.settings.Settings.{Settings}
use Rattle.object_model.specs.Object.{Object, kept_words, words_of}
use Rattle.store_model.specs.Store.{Store}
use Rattle.store_model.specs.Reach.{objects_where}
use Rattle.store_model.specs.MinorCollection.{MinorCollection, vanishes}
use Rattle.store_model.specs.Marking.{GoesOn, with_visited, visited_words, is_white, is_condemned}
use Rattle.store_model.specs.Collections.{StepFrom, Block, Cycle, Last, More, TwoCycles, CollectFrom, always}
use Rattle.store_model.proofs.After.{left_objects}
use Rattle.collect_laws.proofs.StepCount.{steps_in, steps_append}
use Rattle.collect_laws.proofs.StepsAhead.{steps_ahead, steps_from, sweeps_of, div-mono, left_all, left_fewer}
use Rattle.collect_laws.proofs.CycleLaws.{cycle_steps}

-- no more words are kept, and there are no more objects and husks
pub record Shrinks (old new : Store) : Type 0 where
  pub words : kept_words new.kept ≤ kept_words old.kept
  pub many : length new.kept + length new.husks ≤ length old.kept + length old.husks

stays : (old : Store) → Shrinks old old
stays old = record { words = omega arith; many = omega arith }

both : {old mid new : Store} → Shrinks old mid → Shrinks mid new → Shrinks old new
both a b = record {
  words = (let f = a.words in let s = b.words in omega (arith, f, s));
  many = (let f = a.many in let s = b.many in omega (arith, f, s));
}

minor_shrinks : (old : Store) (lines : List Line) (new : Store) → MinorCollection old lines new → Shrinks old new
minor_shrinks old lines new c = subst (Shrinks old) (sym c.leaves) (record {
  words = left_all (vanishes old c.survives) (vanishes old c.survives) old.kept;
  many = (let less = left_fewer (vanishes old c.survives) (vanishes old c.survives) old.kept in omega (arith, less));
})

-- what is left and what is gone are all
parts-length : (white gone : ℕ → Bool) (kept : List Object) → length (left_objects white gone kept) + length (objects_where kept gone) ≡ length kept
parts-length white gone [] = refl
parts-length white gone (o ∷ os) =
    let more = parts-length white gone os in let long : length (o ∷ os) ≡ suc (length os) = refl in
    elim (cases_Bool (gone o.birth)) [
      | inl e ↦
          (let left : length (left_objects white gone (o ∷ os)) ≡ length (left_objects white gone os) = rw e refl in
          let lost : length (objects_where (o ∷ os) gone) ≡ suc (length (objects_where os gone)) = rw e refl in omega (arith, more, long, left, lost))
      | inr e ↦
          (let left : length (left_objects white gone (o ∷ os)) ≡ suc (length (left_objects white gone os)) = rw e refl in
          let lost : length (objects_where (o ∷ os) gone) ≡ length (objects_where os gone) = rw e refl in omega (arith, more, long, left, lost))
    ]

filter-few : {X : Type 0} → (test : X → Bool) (xs : List X) → length (filter test xs) ≤ length xs
filter-few test [] = omega arith
filter-few test (x ∷ xs) =
    let more = filter-few test xs in let long : length (x ∷ xs) ≡ suc (length xs) = refl in
    elim (cases_Bool (test x)) [
      | inl e ↦ (let some : length (filter test (x ∷ xs)) ≡ suc (length (filter test xs)) = rw e refl in omega (arith, more, long, some))
      | inr e ↦ (let none : length (filter test (x ∷ xs)) ≡ length (filter test xs) = rw e refl in omega (arith, more, long, none))
    ]

marking_shrinks : (b : Bool) (settings : Settings) (store : Store) (visits lines : List Line) (new : Store) → GoesOn b settings store visits lines new → Shrinks store new
marking_shrinks true settings store visits lines new g = subst (Shrinks store) (sym g.1) (stays store)
marking_shrinks false settings store visits lines new (rest, e, is) = subst (Shrinks store) (sym e.leaves) (record {
  words = left_all (is_white store) (is_condemned store e.saved) store.kept;
  many = (let all = parts-length (is_white store) (is_condemned store e.saved) store.kept in
      let husks = length-append store.husks (map (λ (o : Object). (o.birth, words_of o)) (objects_where store.kept (is_condemned store e.saved))) in
      let new_husks = length-map {B = ℕ × ℕ} (objects_where store.kept (is_condemned store e.saved)) (λ (o : Object). (o.birth, words_of o)) in omega (arith, all, husks, new_husks));
})

step_shrinks : (phase : Phase) (settings : Settings) (old : Store) (lines : List Line) (new : Store) → StepFrom phase settings old lines new → Shrinks old new
step_shrinks Scanning settings old lines new s = subst (Shrinks old) (sym s.leaves) (record { words = omega arith; many = omega arith })
step_shrinks Marking settings old lines new s =
    let m = marking_shrinks (nat_le settings.increment (visited_words old.kept s.births)) settings (with_visited old s.births) (map (λ x. line.Visited x) s.births) lines new s.goes_on in
    record { words = m.words; many = m.many }
step_shrinks Sweeping settings old lines new s = subst (Shrinks old) (sym s.leaves) (record {
  words = omega arith;
  many = (let few = filter-few (λ (husk : ℕ × ℕ). not (s.freed husk.0)) old.husks in omega (arith, few));
})
step_shrinks Finalizing settings old lines new s = subst (Shrinks old) (sym s.1) (record { words = omega arith; many = omega arith })

block_shrinks : (settings : Settings) (old : Store) (lines : List Line) (new : Store) → Block always settings old lines new → Shrinks old new
block_shrinks settings old lines new b = both (minor_shrinks old b.minor b.mid b.collected) (step_shrinks b.mid.phase settings b.mid b.major new b.stepped)

pub cycle_shrinks : (settings : Settings) (old : Store) (lines : List Line) (new : Store) → Cycle settings old lines new → Shrinks old new
cycle_shrinks settings old lines new (Last block ends) = block_shrinks settings old lines new block
cycle_shrinks settings old _ new (More {mid = mid} {lines = first} {rest = rest} block goes_on cycle) = both (block_shrinks settings old first mid block) (cycle_shrinks settings mid rest new cycle)

-- a cycle ends in the phase Scanning
cycle_ends : (settings : Settings) (old : Store) (lines : List Line) (new : Store) → Cycle settings old lines new → new.phase ≡ Scanning
cycle_ends settings old lines new (Last block ends) = ends
cycle_ends settings old _ new (More {mid = mid} {lines = first} {rest = rest} block goes_on cycle) = cycle_ends settings mid rest new cycle

-- The steps of a whole cycle, from the phase Scanning on.
abbrev pub cycle_bound : Settings → Store → ℕ
cycle_bound settings store = kept_words store.kept / settings.increment + sweeps_of settings store + 4

module _ (settings : Settings) (sweeps : 0 < settings.sweep) (visits : 0 < settings.increment) where
  two_steps : (old : Store) (lines : List Line) (new : Store) → TwoCycles settings old lines new → steps_in lines ≤ steps_ahead settings old + cycle_bound settings old
  two_steps old lines new c =
      let first = cycle_steps settings old c.first c.mid sweeps visits c.ends in
      let second = cycle_steps settings c.mid c.second new sweeps visits c.again in
      let is : steps_ahead settings c.mid ≡ cycle_bound settings c.mid = ap (λ (phase : Phase). steps_from settings phase c.mid) (cycle_ends settings old c.first c.mid c.ends) in
      let less = cycle_shrinks settings old c.first c.mid c.ends in
      let words = div-mono settings.increment (kept_words c.mid.kept) (kept_words old.kept) visits less.words in
      let units = div-mono settings.sweep (length c.mid.kept + length c.mid.husks) (length old.kept + length old.husks) sweeps less.many in
      let all = steps_append c.first c.second in let told = ap steps_in c.printed in
      omega (arith, first, second, is, words, units, all, told)

  -- A whole collection has at most the steps of the cycle that runs, and of a whole one.
  pub collect_steps : (phase : Phase) (old : Store) (lines : List Line) (new : Store) → CollectFrom phase settings old lines new → steps_in lines ≤ steps_ahead settings old + cycle_bound settings old
  collect_steps Scanning old lines new c = let one = cycle_steps settings old lines new sweeps visits c in omega (arith, one)
  collect_steps Marking old lines new c = two_steps old lines new c
  collect_steps Sweeping old lines new c = two_steps old lines new c
  collect_steps Finalizing old lines new c = two_steps old lines new c
