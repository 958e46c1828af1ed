-- The list ran empty, the roots were queued again, and visits go on.
use Rattle.std.proofs.Common.{◌≡◌, ℕ, ◌+◌, ◌<◌, Bool, true, IsTrue, List, [], ◌∷◌, ◌++◌, map, length, append_assoc, refl, sym, ap, ◌∙◌, subst, inl, inr}
use Rattle.std.specs.Prelude.{◌-◌, ◌&&◌, not, take, sum_by, nat_le, nat_eq}
use Rattle.std.specs.List.{list_all, IsDistinct}
use Rattle.object_model.proofs.Members.{and_first, and_second, and_both, in-either, in-left, in-right, map-same}
use Rattle.object_model.proofs.Distinct.{distinct_append}
use Rattle.object_model.specs.Sets.{is_in}
use Rattle.object_model.specs.ObjectWords.{words_at}
use Rattle.text_model.specs.declared.line.Line.TheVariants.{Stepped, Visited}
use Rattle.text_model.specs.declared.line.Phase.TheVariants.{Marking}
use Rattle.store_model.specs.Store.{Store, is_settled}
use Rattle.store_model.specs.Roots.{roots_of}
use Rattle.store_model.specs.Marking.{visited_words, with_visited, MarkingStep, GoesOn}
use Rattle.store_model.specs.MarkingOrder.{settled_of, Visits}
use Rattle.store_model.proofs.MarkVisit.{order-visits, order-roots, StepOrder}
use Rattle.store_model.proofs.MarkVisitList.{unvisited-all, distinct-visits, allowed-visits}
use Rattle.remember_cards.specs.Remembered.{Remembered, is_held_of}
use Rattle.heap_parts.specs.Parts.{HeapParts, word_in}
use Rattle.heap_parts.specs.Places.{AreAmong}
use Rattle.heap_parts.specs.StandsFor.{PartsStandFor}
use Rattle.heap_parts.specs.Collects.{IsCollected}
use Rattle.heap_phases.specs.Visiting.{PlaceVisits, with_gray, old_roots}
use Rattle.heap_phases.proofs.RootPlaces.{old_roots_named, old_roots_there}
use Rattle.heap_phases.proofs.PlaceChain.{AtPlaces, VisitsTo, visits_stand, with-gray-at}
use Rattle.heap_phases.proofs.MarkingSteps.{step-order, words-visited, two-named}

all-append : (test : ℕ → Bool) (xs ys : List ℕ) → IsTrue (list_all test xs) → IsTrue (list_all test ys) → IsTrue (list_all test (xs ++ ys))
all-append test [] ys a b = b
all-append test (x ∷ xs) ys a b = and_both (test x) (list_all test (xs ++ ys)) (and_first (test x) (list_all test xs) a) (all-append test xs ys (and_second (test x) (list_all test xs) a) b)

-- with these places and names as well
at-same : (heap : HeapParts) (store : Store) (places more : List ℕ) (name other : ℕ → ℕ) → AtPlaces heap store places name → places ≡ more → name ≡ other → AtPlaces heap store more other
at-same heap store places more name other at e f = record { stands = at.stands; places_are = at.places_are ∙ e; name_is = at.name_is ∙ f }

module _ (heap : HeapParts) (store : Store) (c : IsCollected heap store) (marking : heap.phase ≡ Marking) (ps : List ℕ) (mid : HeapParts)
    (first : PlaceVisits heap ps mid) (ran_empty : mid.gray ≡ []) where
  abbrev s : PartsStandFor heap store
  s = c.stands

  abbrev held : ℕ → ℕ → Bool
  held = is_held_of heap.remembered c.stands.name

  abbrev once : Store
  once = with_visited store (map c.stands.name ps)

  abbrev queued : HeapParts
  queued = with_gray mid (old_roots mid)

  order : StepOrder store.kept store.settled store.visited (map s.name heap.gray) held store.unreached
  order = step-order heap store c marking

  pub first_visits : VisitsTo heap store s.places s.name ps mid
  first_visits = visits_stand heap store s ps mid marking order first

  visits : Visits store.kept store.settled store.visited (map s.name heap.gray) (map s.name ps) (store.visited ++ map s.name ps) []
  visits = subst (λ (gs : List ℕ). Visits store.kept store.settled store.visited (map s.name heap.gray) (map s.name ps) (store.visited ++ map s.name ps) gs) (ap (map s.name) ran_empty) first_visits.visits

  after : StepOrder store.kept store.settled (store.visited ++ map s.name ps) [] held store.unreached
  after = order-visits store.kept store.settled held store.unreached s.sound.settled s.sound.unreached_cut_off
      store.visited (map s.name heap.gray) (map s.name ps) (store.visited ++ map s.name ps) [] visits order

  roots_are : map s.name (old_roots mid) ≡ settled_of store.settled (roots_of store)
  roots_are = subst (λ (f : ℕ → ℕ). map f (old_roots mid) ≡ settled_of store.settled (roots_of store)) first_visits.at.name_is (old_roots_named mid once first_visits.at.stands)

  root-order : StepOrder store.kept store.settled (store.visited ++ map s.name ps) (settled_of store.settled (roots_of store)) held store.unreached
  root-order = (order-roots store.kept store.settled held store.unreached s.sound.settled s.sound.unreached_cut_off (roots_of store) (store.visited ++ map s.name ps) [] s.sound.roots_reached after).0

  again : StepOrder store.kept store.settled (store.visited ++ map s.name ps) (map s.name (old_roots mid)) held store.unreached
  again = subst (λ (gs : List ℕ). StepOrder store.kept store.settled (store.visited ++ map s.name ps) gs held store.unreached) (sym roots_are) root-order

  kept-held : StepOrder store.kept store.settled (store.visited ++ map s.name ps) (map first_visits.at.stands.name (old_roots mid)) (is_held_of mid.remembered first_visits.at.stands.name) store.unreached
  kept-held = subst (λ (r : Remembered). StepOrder store.kept store.settled (store.visited ++ map s.name ps) (map first_visits.at.stands.name (old_roots mid)) (is_held_of r first_visits.at.stands.name) store.unreached) (sym first_visits.remembered)
      (subst (λ (f : ℕ → ℕ). StepOrder store.kept store.settled (store.visited ++ map s.name ps) (map f (old_roots mid)) (is_held_of heap.remembered f) store.unreached) (sym first_visits.at.name_is) again)

  -- the parts stand where the roots are queued
  pub queued_at : AtPlaces queued once s.places s.name
  queued_at = at-same queued once first_visits.at.stands.places s.places first_visits.at.stands.name s.name
      (with-gray-at mid once first_visits.at.stands (old_roots mid) first_visits.phase (old_roots_there mid once first_visits.at.stands) kept-held.order)
      first_visits.at.places_are first_visits.at.name_is

  order-queued : StepOrder store.kept store.settled (store.visited ++ map s.name ps) (map queued_at.stands.name (old_roots mid)) (is_held_of mid.remembered queued_at.stands.name) store.unreached
  order-queued = subst (λ (f : ℕ → ℕ). StepOrder store.kept store.settled (store.visited ++ map s.name ps) (map f (old_roots mid)) (is_held_of mid.remembered f) store.unreached) (first_visits.at.name_is ∙ sym queued_at.name_is) kept-held

  -- words and births are as before
  pub words_again : (qs : List ℕ) → AreAmong s.places qs → sum_by (words_at queued.setup.types (word_in queued)) qs ≡ sum_by (words_at heap.setup.types (word_in heap)) qs
  words_again qs there =
      sym (words-visited queued once queued_at.stands qs (subst (λ (places : List ℕ). AreAmong places qs) (sym queued_at.places_are) there))
      ∙ (ap (λ (f : ℕ → ℕ). visited_words store.kept (map f qs)) queued_at.name_is ∙ words-visited heap store s qs there)

  pub births_again : (qs : List ℕ) → AreAmong s.places qs → map (λ p. word_in queued (p + 1)) qs ≡ map (λ p. word_in heap (p + 1)) qs
  births_again qs there = map-same (λ p. word_in queued (p + 1)) (λ p. word_in heap (p + 1)) qs
      (λ p t. sym (queued_at.stands.words.objects.named p (subst (λ (places : List ℕ). IsTrue (is_in p places)) (sym queued_at.places_are) (there p t)))
      ∙ (ap (λ (f : ℕ → ℕ). f p) queued_at.name_is ∙ s.words.objects.named p (there p t)))

  module _ (qs : List ℕ) (last : HeapParts) (second : PlaceVisits (with_gray mid (old_roots mid)) qs last) where
    pub second_visits : VisitsTo queued once s.places s.name qs last
    second_visits = subst (λ (f : ℕ → ℕ). VisitsTo queued once s.places f qs last) queued_at.name_is
        (subst (λ (places : List ℕ). VisitsTo queued once places queued_at.stands.name qs last) queued_at.places_are
        (visits_stand queued once queued_at.stands qs last first_visits.phase order-queued second))

    visits2 : Visits store.kept store.settled (store.visited ++ map s.name ps) (settled_of store.settled (roots_of store)) (map s.name qs) ((store.visited ++ map s.name ps) ++ map s.name qs) (map s.name last.gray)
    visits2 = subst (λ (gs : List ℕ). Visits store.kept store.settled (store.visited ++ map s.name ps) gs (map s.name qs) ((store.visited ++ map s.name ps) ++ map s.name qs) (map s.name last.gray)) roots_are second_visits.visits

    all : (store.visited ++ map s.name ps) ++ map s.name qs ≡ store.visited ++ map s.name (ps ++ qs)
    all = append_assoc store.visited (map s.name ps) (map s.name qs) ∙ ap (λ (bs : List ℕ). store.visited ++ bs) (two-named s.name ps qs)

    pub both_at : AtPlaces last (with_visited store (map s.name (ps ++ qs))) s.places s.name
    both_at = subst (λ (vs : List ℕ). AtPlaces last (record store { visited = vs }) s.places s.name) all second_visits.at

    pub both_there : AreAmong s.places (ps ++ qs)
    both_there p t = elim (in-either p ps qs t) [ inl u ↦ first_visits.there p u | inr u ↦ second_visits.there p u ]

    pub both_setup : last.setup ≡ heap.setup
    both_setup = second_visits.setup ∙ first_visits.setup

    -- a step that goes on
    abbrev births : List ℕ
    births = map s.name (ps ++ qs)

    abbrev may : ℕ → Bool
    may b = is_settled store.settled b && (not (is_in b store.visited) && not (is_in b store.unreached))

    pub goes_on_again : visited_words store.kept (take (length births - 1) births) < heap.setup.settings.increment → nat_le heap.setup.settings.increment (visited_words store.kept births) ≡ true
        → MarkingStep heap.setup.settings store (Stepped Marking Marking ∷ map (λ b. Visited b) births) (with_visited store births)
    goes_on_again few enough = record {
      births = births;
      can = record {
        unvisited = subst (λ (bs : List ℕ). IsTrue (list_all may bs)) (two-named s.name ps qs) (all-append may (map s.name ps) (map s.name qs)
            (allowed-visits store.kept store.settled held store.unreached s.sound.settled s.sound.unreached_cut_off store.visited store.visited (map s.name heap.gray) (map s.name ps) (store.visited ++ map s.name ps) [] (λ y h. h) visits order)
            (allowed-visits store.kept store.settled held store.unreached s.sound.settled s.sound.unreached_cut_off store.visited (store.visited ++ map s.name ps) (settled_of store.settled (roots_of store)) (map s.name qs) ((store.visited ++ map s.name ps) ++ map s.name qs) (map s.name last.gray)
            (λ y h. in-left y store.visited (map s.name ps) h) visits2 root-order));
        differ = subst (λ (bs : List ℕ). IsDistinct nat_eq bs) (two-named s.name ps qs) (distinct_append (map s.name ps) (map s.name qs)
            (distinct-visits store.kept store.settled held store.unreached s.sound.settled s.sound.unreached_cut_off store.visited (map s.name heap.gray) (map s.name ps) (store.visited ++ map s.name ps) [] visits)
            (distinct-visits store.kept store.settled held store.unreached s.sound.settled s.sound.unreached_cut_off (store.visited ++ map s.name ps) (settled_of store.settled (roots_of store)) (map s.name qs) ((store.visited ++ map s.name ps) ++ map s.name qs) (map s.name last.gray) visits2)
            (λ x h. unvisited-all store.kept store.settled held store.unreached s.sound.settled s.sound.unreached_cut_off (store.visited ++ map s.name ps) (settled_of store.settled (roots_of store)) (map s.name qs) ((store.visited ++ map s.name ps) ++ map s.name qs) (map s.name last.gray) visits2 x
            (in-right x store.visited (map s.name ps) h)));
        few = few;
      };
      goes_on = subst (λ (b : Bool). GoesOn b heap.setup.settings (with_visited store births) (map (λ b. Visited b) births) (Stepped Marking Marking ∷ map (λ b. Visited b) births) (with_visited store births)) (sym enough) (refl, refl);
    }
