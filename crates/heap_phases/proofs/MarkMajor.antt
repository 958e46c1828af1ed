-- A whole step of marking, as the code does it.
use Rattle.std.proofs.Common.{◌≡◌, ℕ, ◌+◌, ◌≤◌, ◌<◌, Bool, true, false, List, ◌∷◌, ◌++◌, map, append_assoc, refl, sym, ap, ◌∙◌, subst, inl, inr, arith}
use Rattle.std.specs.Prelude.{nat_le}
use Rattle.std.proofs.lemmas.Bool.Decides.{nat_tests}
use Rattle.std.proofs.lemmas.Simd.{map-map}
use Rattle.type_table.specs.Table.{Table}
use Rattle.text_model.specs.declared.line.Line.{Line}
use Rattle.text_model.specs.declared.line.Line.TheVariants.{Stepped, Visited}
use Rattle.text_model.specs.declared.line.Phase.TheVariants.{Marking, Sweeping}
use Rattle.store_model.specs.Store.{Store, husk_words}
use Rattle.store_model.specs.Marking.{visited_words, with_visited, MarkingStep}
use Rattle.heap_parts.specs.Parts.{HeapParts, word_in}
use Rattle.heap_parts.specs.Collects.{IsCollected, StepsMajor}
use Rattle.heap_phases.specs.declared.StepEnd.{StepEnd}
use Rattle.heap_phases.specs.Steps.{CanStep, CountsHusks}
use Rattle.heap_phases.specs.Budget.{VisitsTwice, VisitsWithin, births_of, words_of_places}
use Rattle.heap_phases.specs.Ending.{CanEnd, EndsMajor}
use Rattle.heap_phases.specs.Visiting.{PlaceVisits, NoPlace, PassesPlace, VisitsPlace}
use Rattle.heap_phases.proofs.MajorSteps.{in-phase}
use Rattle.heap_phases.proofs.MarkingSteps.{MarksAll, MarkedAll, marks_all, marks_last, visited_lines, words-visited, words-but-last, lines-named}
use Rattle.heap_phases.proofs.MarksAgain.{both_at, both_there, both_setup, goes_on_again}
use Rattle.heap_phases.proofs.StepContracts.{marks_on_major}

-- visits change neither husks nor the numbers of words
pub record SameHusks (heap new : HeapParts) : Type 0 where
  pub list : new.husk_list ≡ heap.husk_list
  pub words : new.old_words ≡ heap.old_words

pub visits_frame : (heap : HeapParts) (ps : List ℕ) (new : HeapParts) → PlaceVisits heap ps new → SameHusks heap new
visits_frame heap ps new (NoPlace _) = record { list = refl; words = refl }
visits_frame heap ps new (PassesPlace _ p rest _ _ e flag more) = let f = visits_frame _ ps new more in record { list = f.list; words = f.words }
visits_frame heap _ new (VisitsPlace _ p rest ps _ e flag more) = let f = visits_frame _ ps new more in record { list = f.list; words = f.words }

twice-frame : (heap new : HeapParts) (births : List ℕ) → VisitsTwice heap new births → SameHusks heap new
twice-frame heap new births v =
    let a = visits_frame heap v.first v.mid v.visits in let b = visits_frame _ v.second new v.again in
    record { list = b.list ∙ a.list; words = b.words ∙ a.words }

visits-within-frame : (heap new : HeapParts) (births : List ℕ) (goes_on : Bool) → VisitsWithin heap new births goes_on → SameHusks heap new
visits-within-frame heap new births true (inl v) = visits_frame heap v.places new v.visits
visits-within-frame heap new births true (inr v) = twice-frame heap new births v.0
visits-within-frame heap new births false v = twice-frame heap new births v.0

-- what a step counts that only visits, and what one counts that ends marking after visits
pub visits_counted : (heap new : HeapParts) (births : List ℕ) → VisitsWithin heap new births true → CountsHusks heap new (record { husk_words = 0; freed_words = 0 })
visits_counted heap new births v =
    let f = visits-within-frame heap new births true v in
    record { husks = ap (λ (hs : Table ℕ). husk_words hs + 0) f.list; old_words = let e = f.words in omega (arith, e) }

pub ends_after : (heap mid new : HeapParts) (births : List ℕ) (end : StepEnd) → VisitsWithin heap mid births false → CountsHusks mid new end → CountsHusks heap new end
ends_after heap mid new births end v c =
    let f = visits-within-frame heap mid births false v in
    record { husks = c.husks ∙ ap (λ (hs : Table ℕ). husk_words hs + end.husk_words) f.list; old_words = c.old_words ∙ f.words }

told-births : (heap : HeapParts) (births ps : List ℕ) → births ≡ births_of heap ps → map (λ b. Visited b) births ≡ visited_lines heap ps
told-births heap births ps e = ap (map (λ b. Visited b)) e ∙ map-map (λ b. Visited b) (λ p. word_in heap (p + 1)) ps

-- The roots were queued again, and then the words reached the increment.
pub again_major : (heap new : HeapParts) (births : List ℕ) (before after : List Line) → heap.phase ≡ Marking → CanStep heap → (v : VisitsTwice heap new births)
    → heap.setup.settings.increment ≤ words_of_places heap (v.first ++ v.second)
    → after ≡ before ++ (Stepped Marking Marking ∷ map (λ b. Visited b) births) → StepsMajor heap new before after
again_major heap new births before after marking can v enough told = record {
  setup = both_setup heap can.store can.collected marking v.first v.mid v.visits v.ran_empty v.second new v.again;
  lines = Stepped Marking Marking ∷ visited_lines heap (v.first ++ v.second);
  appended = told ∙ ap (λ (ls : List Line). before ++ (Stepped Marking Marking ∷ ls)) (told-births heap births (v.first ++ v.second) v.births_are);
  steps = λ store c.
      let s = c.stands in let ps : List ℕ = v.first ++ v.second in
      let at = both_at heap store c marking v.first v.mid v.visits v.ran_empty v.second new v.again in
      let there = both_there heap store c marking v.first v.mid v.visits v.ran_empty v.second new v.again in
      let words = words-visited heap store s ps there in let some = words-but-last heap store s ps there in (
        with_visited store (map s.name ps),
        in-phase Marking heap.setup.settings store (with_visited store (map s.name ps)) (Stepped Marking Marking ∷ visited_lines heap ps) (s.counts.phase_is ∙ marking)
            (subst (λ (ls : List Line). MarkingStep heap.setup.settings store (Stepped Marking Marking ∷ ls) (with_visited store (map s.name ps))) (sym (lines-named heap store s ps there))
            (goes_on_again heap store c marking v.first v.mid v.visits v.ran_empty v.second new v.again
            (subst (λ (n : ℕ). n < heap.setup.settings.increment) (sym some) v.few)
            (reaches (visited_words store.kept (map s.name ps)) heap.setup.settings.increment (subst (λ (n : ℕ). heap.setup.settings.increment ≤ n) (sym words) enough)))),
        at.stands,
      );
}
  where
    reaches : (n increment : ℕ) → increment ≤ n → nat_le increment n ≡ true
    reaches n increment l = grind (arith, nat_tests)

pub goes_major : (heap new : HeapParts) (births : List ℕ) (before after : List Line) → heap.phase ≡ Marking → CanStep heap → VisitsWithin heap new births true
    → after ≡ before ++ (Stepped Marking Marking ∷ map (λ b. Visited b) births) → StepsMajor heap new before after
goes_major heap new births before after marking can (inl v) told =
    marks_on_major heap v.places new before after marking v.visits v.few v.enough
    (told ∙ ap (λ (ls : List Line). before ++ (Stepped Marking Marking ∷ ls)) (told-births heap births v.places v.births_are))
goes_major heap new births before after marking can (inr v) told = again_major heap new births before after marking can v.0 v.1 told

-- Nothing is left to visit.
module _ (heap last : HeapParts) (births : List ℕ) (marking : heap.phase ≡ Marking) (v : VisitsWithin heap last births false) where
  abbrev twice : VisitsTwice heap last births
  twice = v.0

  abbrev ps : List ℕ
  ps = v.0.first ++ v.0.second

  all : MarksAll heap v.0.first v.0.second last
  all = record { mid = v.0.mid; first = v.0.visits; ran_empty = v.0.ran_empty; second = v.0.again; ends_empty = v.1 }

  all-marked : (store : Store) (c : IsCollected heap store) → MarkedAll heap store c.stands v.0.first v.0.second last
  all-marked store c = marks_all heap store c marking v.0.first v.0.second last all

  pub can_end : CanStep heap → CanEnd last
  can_end can = let m = all-marked can.store can.collected in record {
    store = with_visited can.store (map can.collected.stands.name ps);
    stands = m.at.stands;
    pinned = can.collected.pinned;
    marked = m.marked;
    marking = m.phase;
    gray = v.1;
  }

  pub end_major : (new : HeapParts) (before told after : List Line) → CanStep heap → told ≡ before ++ (Stepped Marking Sweeping ∷ map (λ b. Visited b) births)
      → EndsMajor last new told after → StepsMajor heap new before after
  end_major new before told after can first ended = record {
    setup = ended.setup ∙ (all-marked can.store can.collected).setup;
    lines = Stepped Marking Sweeping ∷ (visited_lines heap ps ++ ended.lines);
    appended = ended.appended ∙ (ap (λ (ls : List Line). ls ++ ended.lines) (first ∙ ap (λ (ls : List Line). before ++ (Stepped Marking Sweeping ∷ ls)) (told-births heap births ps v.0.births_are))
        ∙ append_assoc before (Stepped Marking Sweeping ∷ visited_lines heap ps) ended.lines);
    steps = λ store c.
        let m = all-marked store c in
        let e = ended.ends (with_visited store (map c.stands.name ps)) m.at.stands c.pinned m.marked in
        let r = marks_last heap store c marking v.0.first v.0.second last m v.2 ended.lines new (record { later = e.0; step = e.1; stands = e.2 }) in
        (r.later, r.step, r.stands);
  }
