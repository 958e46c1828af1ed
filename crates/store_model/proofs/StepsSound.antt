-- Minor collections and major steps leave a sound store, whatever its form.
use Rattle.std.proofs.Common.{◌≡◌, ℕ, ◌+◌, ◌<◌, ◌≤◌, Bool, true, false, nat_eq, IsTrue, List, [], ◌∷◌, map, length, refl, sym, ◌∙◌, subst, inl, inr, arith}
use Rattle.std.specs.Prelude.{◌-◌, IsFalse, not, ◌&&◌, nat_le}
use Rattle.std.specs.List.{list_all, list_any, IsDistinct}
use Rattle.std.proofs.lemmas.Bool.{cases_Bool}
use Rattle.std.proofs.lemmas.Bool.Decides.{nat_tests}
use Rattle.std.proofs.lemmas.List.{length-map, length-append}
use Rattle.std.proofs.lemmas.Map.Steps.{length-le_from_distinct_below}
use Rattle.text_model.specs.declared.line.Line.{Line}
use Rattle.text_model.specs.declared.line.Phase.{Phase}
use Rattle.text_model.specs.declared.line.Phase.TheVariants.{Scanning, Marking, Sweeping, Finalizing}
use Rattle.object_model.specs.declared.settings.Settings.{Settings}
use Rattle.object_model.specs.Object.{Object}
use Rattle.object_model.specs.Sets.{is_in}
use Rattle.object_model.proofs.Members.{and_first, and_second, is_in-head, is_in-tail, is_in-cases, or_cases}
use Rattle.object_model.proofs.Distinct.{all_differ}
use Rattle.store_model.specs.Store.{Store, is_settled}
use Rattle.store_model.specs.MinorCollection.{MinorCollection, AreAllPinned}
use Rattle.store_model.specs.Marking.{EndOfMarking, MarkingStep, GoesOn, with_visited, visited_words, after_marking, is_white, is_condemned}
use Rattle.store_model.specs.Sweeping.{MayEndIn, without_husks, after_sweep}
use Rattle.store_model.specs.Collections.{StepFrom}
use Rattle.store_model.specs.MarkingOrder.{AreAllIn}
use Rattle.store_model.specs.Sound.{IsSound, IsPhaseSound, AreNoneOf, births_in}
use Rattle.store_model.proofs.Rounds.{list_all-is_in}
use Rattle.store_model.proofs.After.{kept_left}
use Rattle.store_model.proofs.CutSound.{cut_sound}
use Rattle.store_model.proofs.MinorSound.{minor_sound, minor_links_sound, all_pinned}
use Rattle.store_model.proofs.StartSound.{start_sound}
use Rattle.store_model.proofs.MarkedSound.{end_sound}
use Rattle.store_model.proofs.HusksSound.{husks_sound}
use Rattle.store_model.proofs.VisitSound.{visits_sound}
use Rattle.store_model.proofs.SoundLaws.{sound_but}
use Rattle.store_model.proofs.FinalSound.{final_sound}

not_in : (b : Bool) → IsTrue (not b) → IsFalse b
not_in true t = absurd (let no : ⊥ = cc in no)
not_in false t = refl

-- what may be visited is settled, and was not found unreached
can_visit : (store : Store) (births : List ℕ) → IsTrue (list_all (λ x. is_settled store.settled x && (not (is_in x store.visited) && not (is_in x store.unreached))) births)
    → AreAllIn births store.settled × AreNoneOf births store.unreached
can_visit store births unvisited =
    let can : (x : ℕ) → IsTrue (is_in x births) → IsTrue (is_settled store.settled x && (not (is_in x store.visited) && not (is_in x store.unreached))) =
    λ x t. list_all-is_in (λ y. is_settled store.settled y && (not (is_in y store.visited) && not (is_in y store.unreached))) x births unvisited t in (
      λ x t. and_first (is_settled store.settled x) (not (is_in x store.visited) && not (is_in x store.unreached)) (can x t),
      λ x t. not_in (is_in x store.unreached) (and_second (not (is_in x store.visited)) (not (is_in x store.unreached))
          (and_second (is_settled store.settled x) (not (is_in x store.visited) && not (is_in x store.unreached)) (can x t))),
    )

-- a member by the other test of equality
member-in : (x : ℕ) (xs : List ℕ) → list_any (nat_eq x) xs ≡ true → IsTrue (is_in x xs)
member-in x [] t = absurd (let no : ⊥ = cc in no)
member-in x (y ∷ ys) t = elim (or_cases (nat_eq x y) (list_any (nat_eq x) ys) t) [
  | inl e ↦ (let same : x ≡ y = grind (arith, nat_tests) in subst (λ (k : ℕ). IsTrue (is_in k (y ∷ ys))) (sym same) (is_in-head y ys))
  | inr u ↦ is_in-tail x y ys (member-in x ys u)
]

-- different numbers above 0 and below a bound are fewer than it
pub distinct_few : (xs : List ℕ) (next : ℕ) → 0 < next → IsDistinct nat_eq xs → ((x : ℕ) → IsTrue (is_in x xs) → (0 < x) × (x < next)) → length xs + 1 ≤ next
unfolding IsDistinct
distinct_few xs next some differ within =
    let no_zero : IsFalse (is_in 0 xs) = elim (cases_Bool (is_in 0 xs)) [
      | inl t ↦ absurd (let above = (within 0 t).0 in let no : ⊥ = omega (arith, above) in no)
      | inr e ↦ e
    ] in
    let all = length-le_from_distinct_below (0 ∷ xs) next (all_differ 0 xs no_zero, differ) (λ x t. elim (is_in-cases x 0 xs (member-in x (0 ∷ xs) t)) [
      | inl e ↦ omega (arith, some, e)
      | inr u ↦ (within x u).1
    ]) in omega (arith, all)

-- the objects and husks of a sound store are fewer than the births that come
pub few_births : (settings : Settings) (store : Store) → IsSound settings store → length store.kept + length store.husks + 1 ≤ store.next
few_births settings store sound =
    let all = distinct_few (births_in store) store.next sound.births.next_above sound.births.differ sound.births.born in
    let both = length-append (map (λ (object : Object). object.birth) store.kept) (map (λ (husk : ℕ × ℕ). husk.0) store.husks) in
    let kept = length-map store.kept (λ (object : Object). object.birth) in let husks = length-map store.husks (λ (husk : ℕ × ℕ). husk.0) in
    omega (arith, all, both, kept, husks)

-- a minor collection, after which each object of the nursery is pinned
pub sound_minor : (settings : Settings) (old : Store) (lines : List Line) (new : Store) → IsSound settings old → MinorCollection old lines new → IsSound settings new × AreAllPinned new
sound_minor settings old lines new s c = (
  subst (IsSound settings) (sym c.leaves) (minor_sound settings old c.survives c.tells s (minor_links_sound old c.survives s.links)),
  subst AreAllPinned (sym c.leaves) (all_pinned old c.survives),
)

-- the visits of a step of marking
pub sound_visits : (settings : Settings) (old : Store) (lines : List Line) (new : Store) → old.phase ≡ Marking → IsSound settings old → (m : MarkingStep settings old lines new)
    → IsSound settings (with_visited old m.births)
sound_visits settings old lines new marking s m = let can = can_visit old m.births m.can.unvisited in visits_sound settings old m.births marking can.0 can.1 s

module _ (settings : Settings) (sweeps : 0 < settings.sweep) where
  -- the end of marking
  sound_end : (old : Store) (lines : List Line) (new : Store) → old.phase ≡ Marking → AreAllPinned old → IsSound settings old → EndOfMarking settings old lines new → IsSound settings new
  sound_end old lines new marking pinned s e =
      let few : length old.kept + 1 ≤ old.next = (let all = few_births settings old s in omega (arith, all)) in
      subst (IsSound settings) (sym e.leaves) (end_sound settings old s pinned e.marked e.saved e.tells_saved e.chosen e.tells_chosen marking sweeps few
      (cut_sound (is_condemned old e.saved) old.kept (after_marking settings old e.saved e.chosen).kept old.structs old.dead
      (λ x stays k. kept_left (is_white old) (is_condemned old e.saved) x old.kept stays ∙ k) s.links))

  sound_marking : (b : Bool) (old : Store) (visits lines : List Line) (new : Store) → old.phase ≡ Marking → AreAllPinned old → IsSound settings old → GoesOn b settings old visits lines new → IsSound settings new
  sound_marking true old visits lines new marking pinned s g = subst (IsSound settings) (sym g.1) s
  sound_marking false old visits lines new marking pinned s (rest, e, is) = sound_end old rest new marking pinned s e

  sound_sweep : (old : Store) (freed : ℕ → Bool) (phase : Phase) → old.phase ≡ Sweeping → MayEndIn phase (after_sweep old freed phase) → IsSound settings old → IsSound settings (after_sweep old freed phase)
  sound_sweep old freed phase sweeping can s =
      let p : IsPhaseSound Sweeping settings.sweep old = subst (λ (ph : Phase). IsPhaseSound ph settings.sweep old) sweeping s.phase in
      let h : IsSound settings (without_husks old freed) = husks_sound settings old freed sweeping s in
      sound_but settings (without_husks old freed) (without_husks old freed).husks (without_husks old freed).homes old.visited (old.left - 1) phase (phase_after phase can p) h.births h
    where
      phase_after : (to : Phase) → MayEndIn to (after_sweep old freed phase) → IsPhaseSound Sweeping settings.sweep old → IsPhaseSound to settings.sweep (after_sweep old freed phase)
      phase_after Scanning can p = absurd can
      phase_after Marking can p = absurd can
      phase_after Sweeping can p = ((let less = p.0 in omega (arith, less)), p.1, p.2)
      phase_after Finalizing can p = (can, p.1, p.2)

  -- a major step right after a minor collection
  pub sound_step : (phase : Phase) (old : Store) (lines : List Line) (new : Store) → old.phase ≡ phase → AreAllPinned old → IsSound settings old → StepFrom phase settings old lines new → IsSound settings new
  sound_step Scanning old lines new is pinned s m =
      subst (IsSound settings) (sym m.leaves) (start_sound settings old s pinned is m.reached m.tells_reached m.retained m.tells_retained)
  sound_step Marking old lines new is pinned s m =
      sound_marking (nat_le settings.increment (visited_words old.kept m.births)) (with_visited old m.births) _ lines new is pinned (sound_visits settings old lines new is s m) m.goes_on
  sound_step Sweeping old lines new is pinned s m =
      subst (IsSound settings) (sym m.leaves) (sound_sweep old m.freed m.phase is (subst (MayEndIn m.phase) m.leaves m.may_end) s)
  sound_step Finalizing old lines new is pinned s m = subst (IsSound settings) (sym m.1) (final_sound settings old s is)
