-- A step of marking, by places: it goes on, or it ends marking.
use Rattle.std.proofs.Common.{◌≡◌, ℕ, zero, suc, ◌+◌, ◌≤◌, ◌<◌, Bool, true, false, IsTrue, List, [], ◌∷◌, ◌++◌, map, length, append_assoc, refl, sym, ap, ◌∙◌, subst, inl, inr, arith}
use Rattle.std.specs.Prelude.{◌-◌, take, sum_by, nat_le}
use Rattle.std.proofs.lemmas.Bool.Decides.{nat_tests}
use Rattle.std.proofs.lemmas.List.{map-append, length-map}
use Rattle.std.proofs.lemmas.List.Sums.{sum_by-cons, sum_by-take-le}
use Rattle.std.proofs.lemmas.Simd.{map-map}
use Rattle.object_model.proofs.Members.{is_in-head, is_in-tail, is_in-cases, is_in-nil, map-same, in-either}
use Rattle.object_view.proofs.FoundLaws.{found-at, words-from}
use Rattle.text_model.specs.declared.line.Line.{Line}
use Rattle.text_model.specs.declared.line.Line.TheVariants.{Stepped, Visited}
use Rattle.text_model.specs.declared.line.Phase.TheVariants.{Marking, Sweeping}
use Rattle.object_model.specs.Setup.{Setup}
use Rattle.store_model.specs.Store.{Store}
use Rattle.object_model.specs.Object.{object_at}
use Rattle.object_model.specs.Sets.{is_in}
use Rattle.store_model.specs.Roots.{roots_of}
use Rattle.store_model.specs.Marking.{visited_words, words_of_found, with_visited, IsMarked, MarkingStep, EndOfMarking}
use Rattle.store_model.specs.MarkingOrder.{settled_of, VisitsQueued, Visits}
use Rattle.object_model.specs.ObjectWords.{words_at}
use Rattle.remember_cards.specs.Remembered.{Remembered, is_held_of}
use Rattle.heap_parts.specs.Parts.{HeapParts, word_in}
use Rattle.heap_parts.specs.Places.{AreAmong}
use Rattle.heap_parts.specs.StandsFor.{PartsStandFor}
use Rattle.heap_parts.specs.Collects.{IsCollected}
use Rattle.frame_laws.proofs.PlaceLaws.{old-is_in}
use Rattle.heap_phases.specs.Visiting.{PlaceVisits, with_gray, old_roots}
use Rattle.heap_phases.proofs.RootPlaces.{old_roots_named, old_roots_there}
use Rattle.store_model.proofs.MarkVisit.{order-visits, order-roots, StepOrder}
use Rattle.store_model.proofs.MarkStep.{step_goes_on, step_ends, marked_after}
use Rattle.heap_phases.proofs.PlaceChain.{AtPlaces, VisitsTo, visits_stand, with-gray-at}
use Rattle.heap_phases.proofs.MajorSteps.{StepsTo, EndsTo, in-phase}

-- the order of a step, where it begins
pub step-order : (heap : HeapParts) (store : Store) (c : IsCollected heap store) → heap.phase ≡ Marking
    → StepOrder store.kept store.settled store.visited (map c.stands.name heap.gray) (is_held_of heap.remembered c.stands.name) store.unreached
step-order heap store c marking = record {
  order = c.stands.order;
  queued = subst (λ (gs : List ℕ). VisitsQueued store.kept store.settled store.visited gs)
      (map-same (λ p. word_in heap (p + 1)) c.stands.name heap.gray
      (λ p t. sym (c.stands.words.objects.named p (old-is_in c.stands.places p (c.stands.gray p t)).0)))
      (c.queued (c.stands.counts.phase_is ∙ marking));
}

-- the words of what was visited, by places
pub words-visited : (heap : HeapParts) (store : Store) (s : PartsStandFor heap store) (ps : List ℕ) → AreAmong s.places ps
    → visited_words store.kept (map s.name ps) ≡ sum_by (words_at heap.setup.types (word_in heap)) ps
words-visited heap store s [] there = refl
words-visited heap store s (p ∷ ps) there =
    let more = words-visited heap store s ps (λ q t. there q (is_in-tail q p ps t)) in
    let one = sum_by-cons (λ x. words_of_found (object_at store.kept x)) (s.name p) (map s.name ps) in
    let two = sum_by-cons (words_at heap.setup.types (word_in heap)) p ps in
    let here : words_of_found (object_at store.kept (s.name p)) ≡ words_at heap.setup.types (word_in heap) p =
    ap words_of_found (found-at p s.words.objects (there p (is_in-head p ps))) ∙ words-from heap.setup.types s.name (word_in heap) p in
    omega (arith, more, one, two, here)

take-map : {X Y : Type 0} (f : X → Y) (n : ℕ) (xs : List X) → take n (map f xs) ≡ map f (take n xs)
take-map f zero xs = refl
take-map f (suc n) [] = refl
take-map f (suc n) (x ∷ xs) = ap (λ (ys : List _). f x ∷ ys) (take-map f n xs)

pub take-among : (places : List ℕ) (n : ℕ) (ps : List ℕ) → AreAmong places ps → AreAmong places (take n ps)
take-among places zero ps there p t = absurd (is_in-nil p t)
take-among places (suc n) [] there p t = there p t
take-among places (suc n) (q ∷ ps) there p t = elim (is_in-cases p q (take n ps) t) [
  | inl e ↦ there p (subst (λ (k : ℕ). IsTrue (is_in k (q ∷ ps))) (sym e) (is_in-head q ps))
  | inr u ↦ take-among places n ps (λ r v. there r (is_in-tail r q ps v)) p u
]

pub words-but-last : (heap : HeapParts) (store : Store) (s : PartsStandFor heap store) (ps : List ℕ) → AreAmong s.places ps
    → visited_words store.kept (take (length (map s.name ps) - 1) (map s.name ps)) ≡ sum_by (words_at heap.setup.types (word_in heap)) (take (length ps - 1) ps)
words-but-last heap store s ps there =
    ap (λ (n : ℕ). visited_words store.kept (take (n - 1) (map s.name ps))) (length-map ps s.name)
    ∙ (ap (visited_words store.kept) (take-map s.name (length ps - 1) ps) ∙ words-visited heap store s (take (length ps - 1) ps) (take-among s.places (length ps - 1) ps there))

-- what is told of the visits
abbrev pub visited_lines : HeapParts → List ℕ → List Line
visited_lines heap ps = map (λ p. Visited (word_in heap (p + 1))) ps

pub lines-named : (heap : HeapParts) (store : Store) (s : PartsStandFor heap store) (ps : List ℕ) → AreAmong s.places ps → visited_lines heap ps ≡ map (λ b. Visited b) (map s.name ps)
lines-named heap store s ps there = map-same (λ p. Visited (word_in heap (p + 1))) (λ p. Visited (s.name p)) ps (λ p t. ap (λ (x : ℕ). Visited x) (sym (s.words.objects.named p (there p t))))
    ∙ sym (map-map (λ b. Visited b) s.name ps)

-- The words of what was visited reach the increment, and those of all but the last do not: marking goes on.
pub marks_on : (heap : HeapParts) (store : Store) (c : IsCollected heap store) → heap.phase ≡ Marking → (ps : List ℕ) (new : HeapParts) → PlaceVisits heap ps new
    → sum_by (words_at heap.setup.types (word_in heap)) (take (length ps - 1) ps) < heap.setup.settings.increment
    → heap.setup.settings.increment ≤ sum_by (words_at heap.setup.types (word_in heap)) ps
    → StepsTo heap store (Stepped Marking Marking ∷ visited_lines heap ps) new
marks_on heap store c marking ps new chain few enough =
    let s = c.stands in
    let order = step-order heap store c marking in
    let v = visits_stand heap store s ps new marking order chain in
    let words = words-visited heap store s ps v.there in
    let some = words-but-last heap store s ps v.there in
    record {
      later = with_visited store (map s.name ps);
      step = in-phase Marking heap.setup.settings store (with_visited store (map s.name ps)) (Stepped Marking Marking ∷ visited_lines heap ps) (s.counts.phase_is ∙ marking)
          (subst (λ (ls : List Line). MarkingStep heap.setup.settings store (Stepped Marking Marking ∷ ls) (with_visited store (map s.name ps))) (sym (lines-named heap store s ps v.there))
          (step_goes_on heap.setup.settings store (is_held_of heap.remembered s.name) s.sound.settled s.sound.unreached_cut_off
          (map s.name heap.gray) (map s.name ps) (store.visited ++ map s.name ps) (map s.name new.gray) order v.visits
          (subst (λ (n : ℕ). n < heap.setup.settings.increment) (sym some) few)
          (reaches (visited_words store.kept (map s.name ps)) heap.setup.settings.increment (subst (λ (n : ℕ). heap.setup.settings.increment ≤ n) (sym words) enough))));
      stands = v.at.stands;
    }
  where
    reaches : (n increment : ℕ) → increment ≤ n → nat_le increment n ≡ true
    reaches n increment l = grind (arith, nat_tests)

-- what was visited by places twice, by births
pub two-named : (name : ℕ → ℕ) (ps qs : List ℕ) → map name ps ++ map name qs ≡ map name (ps ++ qs)
two-named name ps qs = sym (map-append name ps qs)

-- The list ran empty, the roots were queued again, and it ran empty once more, all below the increment: marking ends.
pub record MarksAll (heap : HeapParts) (ps qs : List ℕ) (last : HeapParts) : Type 0 where
  pub mid : HeapParts
  pub first : PlaceVisits heap ps mid
  pub ran_empty : mid.gray ≡ []
  pub second : PlaceVisits (with_gray mid (old_roots mid)) qs last
  pub ends_empty : last.gray ≡ []

-- what the visits leave, where the end of marking begins
pub record MarkedAll (heap : HeapParts) (store : Store) (s : PartsStandFor heap store) (ps qs : List ℕ) (last : HeapParts) : Type 0 where
  pub at : AtPlaces last (with_visited store (map s.name (ps ++ qs))) s.places s.name
  pub there : AreAmong s.places (ps ++ qs)
  pub phase : last.phase ≡ Marking
  pub setup : last.setup ≡ heap.setup
  pub marked : IsMarked (with_visited store (map s.name (ps ++ qs)))
  pub step : (rest : List Line) (new : Store) → visited_words store.kept (take (length (map s.name (ps ++ qs)) - 1) (map s.name (ps ++ qs))) < heap.setup.settings.increment
      → nat_le heap.setup.settings.increment (visited_words store.kept (map s.name (ps ++ qs))) ≡ false
      → EndOfMarking heap.setup.settings (with_visited store (map s.name (ps ++ qs))) rest new
      → MarkingStep heap.setup.settings store (Stepped Marking Sweeping ∷ (map (λ b. Visited b) (map s.name (ps ++ qs)) ++ rest)) new

pub marks_all : (heap : HeapParts) (store : Store) (c : IsCollected heap store) → heap.phase ≡ Marking → (ps qs : List ℕ) (last : HeapParts)
    → MarksAll heap ps qs last → MarkedAll heap store c.stands ps qs last
marks_all heap store c marking ps qs last m =
    let s = c.stands in
    let births : List ℕ = map s.name ps in let births2 : List ℕ = map s.name qs in
    let held : ℕ → ℕ → Bool = is_held_of heap.remembered s.name in
    let order = step-order heap store c marking in
    let v = visits_stand heap store s ps m.mid marking order m.first in
    let visits : Visits store.kept store.settled store.visited (map s.name heap.gray) (map s.name ps) (store.visited ++ map s.name ps) [] =
    subst (λ (gs : List ℕ). Visits store.kept store.settled store.visited (map s.name heap.gray) (map s.name ps) (store.visited ++ map s.name ps) gs) (ap (map s.name) m.ran_empty) v.visits in
    let after = order-visits store.kept store.settled (is_held_of heap.remembered s.name) store.unreached s.sound.settled s.sound.unreached_cut_off
    store.visited (map s.name heap.gray) (map s.name ps) (store.visited ++ map s.name ps) [] visits order in
    let roots_are : map s.name (old_roots m.mid) ≡ settled_of store.settled (roots_of store) =
    subst (λ (f : ℕ → ℕ). map f (old_roots m.mid) ≡ settled_of store.settled (roots_of store)) v.at.name_is (old_roots_named m.mid (with_visited store (map s.name ps)) v.at.stands) in
    let again : StepOrder store.kept store.settled (store.visited ++ map s.name ps) (map s.name (old_roots m.mid)) (is_held_of heap.remembered s.name) store.unreached =
    subst (λ (gs : List ℕ). StepOrder store.kept store.settled (store.visited ++ map s.name ps) gs (is_held_of heap.remembered s.name) store.unreached) (sym roots_are)
    (order-roots store.kept store.settled (is_held_of heap.remembered s.name) store.unreached s.sound.settled s.sound.unreached_cut_off (roots_of store) (store.visited ++ map s.name ps) [] s.sound.roots_reached after).0 in
    let kept_held : StepOrder store.kept store.settled (store.visited ++ map s.name ps) (map v.at.stands.name (old_roots m.mid)) (is_held_of m.mid.remembered v.at.stands.name) store.unreached =
    subst (λ (r : Remembered). StepOrder store.kept store.settled (store.visited ++ map s.name ps) (map v.at.stands.name (old_roots m.mid)) (is_held_of r v.at.stands.name) store.unreached) (sym v.remembered)
    (subst (λ (f : ℕ → ℕ). StepOrder store.kept store.settled (store.visited ++ map s.name ps) (map f (old_roots m.mid)) (is_held_of heap.remembered f) store.unreached) (sym v.at.name_is) again) in
    let queued = with-gray-at m.mid (with_visited store (map s.name ps)) v.at.stands (old_roots m.mid) v.phase
    (old_roots_there m.mid (with_visited store (map s.name ps)) v.at.stands) kept_held.order in
    let w = visits_stand (with_gray m.mid (old_roots m.mid)) (with_visited store (map s.name ps)) queued.stands qs last v.phase
    (subst (λ (f : ℕ → ℕ). StepOrder store.kept store.settled (store.visited ++ map s.name ps) (map f (old_roots m.mid)) (is_held_of m.mid.remembered f) store.unreached) (sym queued.name_is) kept_held) m.second in
    let same : VisitsTo (with_gray m.mid (old_roots m.mid)) (with_visited store (map s.name ps)) s.places s.name qs last =
    subst (λ (f : ℕ → ℕ). VisitsTo (with_gray m.mid (old_roots m.mid)) (with_visited store (map s.name ps)) s.places f qs last) (queued.name_is ∙ v.at.name_is)
    (subst (λ (places : List ℕ). VisitsTo (with_gray m.mid (old_roots m.mid)) (with_visited store (map s.name ps)) places queued.stands.name qs last) (queued.places_are ∙ v.at.places_are) w) in
    let visits2 : Visits store.kept store.settled (store.visited ++ map s.name ps) (settled_of store.settled (roots_of store)) (map s.name qs) ((store.visited ++ map s.name ps) ++ map s.name qs) [] =
    subst (λ (gs : List ℕ). Visits store.kept store.settled (store.visited ++ map s.name ps) gs (map s.name qs) ((store.visited ++ map s.name ps) ++ map s.name qs) []) roots_are
    (subst (λ (gs : List ℕ). Visits store.kept store.settled (store.visited ++ map s.name ps) (map s.name (old_roots m.mid)) (map s.name qs) ((store.visited ++ map s.name ps) ++ map s.name qs) gs) (ap (map s.name) m.ends_empty) same.visits) in
    let all : (store.visited ++ map s.name ps) ++ map s.name qs ≡ store.visited ++ map s.name (ps ++ qs) =
    append_assoc store.visited (map s.name ps) (map s.name qs) ∙ ap (λ (bs : List ℕ). store.visited ++ bs) (two-named s.name ps qs) in
    record {
      at = subst (λ (vs : List ℕ). AtPlaces last (record store { visited = vs }) s.places s.name) all same.at;
      there = λ p t. elim (in-either p ps qs t) [ inl u ↦ v.there p u | inr u ↦ same.there p u ];
      phase = same.phase;
      setup = same.setup ∙ v.setup;
      marked = subst (λ (bs : List ℕ). IsMarked (with_visited store bs)) (two-named s.name ps qs)
          (marked_after heap.setup.settings store (is_held_of heap.remembered s.name) s.sound.settled s.sound.unreached_cut_off (map s.name heap.gray) (map s.name ps) (store.visited ++ map s.name ps) (map s.name qs)
          ((store.visited ++ map s.name ps) ++ map s.name qs) s.sound.roots_reached c.pinned s.sound.pins.no_references order visits visits2);
      step = subst (λ (bs : List ℕ). (rest : List Line) (new : Store) → visited_words store.kept (take (length bs - 1) bs) < heap.setup.settings.increment
          → nat_le heap.setup.settings.increment (visited_words store.kept bs) ≡ false
          → EndOfMarking heap.setup.settings (with_visited store bs) rest new
          → MarkingStep heap.setup.settings store (Stepped Marking Sweeping ∷ (map (λ b. Visited b) bs ++ rest)) new) (two-named s.name ps qs)
          (λ rest new few short ended. step_ends heap.setup.settings store (is_held_of heap.remembered s.name) s.sound.settled s.sound.unreached_cut_off (map s.name heap.gray) (map s.name ps)
          (store.visited ++ map s.name ps) (map s.name qs) ((store.visited ++ map s.name ps) ++ map s.name qs) rest new s.sound.roots_reached c.pinned s.sound.pins.no_references order visits visits2 few short (λ k. ended));
    }

-- the whole step, with its end
pub marks_last : (heap : HeapParts) (store : Store) (c : IsCollected heap store) → heap.phase ≡ Marking → (ps qs : List ℕ) (last : HeapParts)
    → (m : MarkedAll heap store c.stands ps qs last) → sum_by (words_at heap.setup.types (word_in heap)) (ps ++ qs) < heap.setup.settings.increment
    → (rest : List Line) (final : HeapParts) → EndsTo last (with_visited store (map c.stands.name (ps ++ qs))) rest final
    → StepsTo heap store (Stepped Marking Sweeping ∷ (visited_lines heap (ps ++ qs) ++ rest)) final
marks_last heap store c marking ps qs last m short rest final e =
    let s = c.stands in
    let words = words-visited heap store s (ps ++ qs) m.there in
    let some = words-but-last heap store s (ps ++ qs) m.there in
    let less = sum_by-take-le (words_at heap.setup.types (word_in heap)) (ps ++ qs) (length (ps ++ qs) - 1) in
    let ended : EndOfMarking heap.setup.settings (with_visited store (map s.name (ps ++ qs))) rest e.later =
    subst (λ (setup : Setup). EndOfMarking setup.settings (with_visited store (map s.name (ps ++ qs))) rest e.later) m.setup e.step in
    record {
      later = e.later;
      step = in-phase Marking heap.setup.settings store e.later (Stepped Marking Sweeping ∷ (visited_lines heap (ps ++ qs) ++ rest)) (s.counts.phase_is ∙ marking)
          (subst (λ (ls : List Line). MarkingStep heap.setup.settings store (Stepped Marking Sweeping ∷ (ls ++ rest)) e.later) (sym (lines-named heap store s (ps ++ qs) m.there))
          (m.step rest e.later (omega (arith, some, less, short)) (below (visited_words store.kept (map s.name (ps ++ qs))) heap.setup.settings.increment (omega (arith, words, short))) ended));
      stands = e.stands;
    }
  where
    below : (n increment : ℕ) → n < increment → nat_le increment n ≡ false
    below n increment l = grind (arith, nat_tests)
