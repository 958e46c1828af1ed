-- Visits as `mark` tells them are visits over places.
use Rattle.std.proofs.Common.{◌≡◌, ℕ, ◌<◌, Bool, true, false, IsTrue, List, ◌∷◌, ◌++◌, refl, sym, ap, ◌∙◌, subst, inl, inr, arith}
use Rattle.std.specs.Prelude.{◌||◌, not, nat_lt}
use Rattle.std.proofs.lemmas.Bool.{cases_Bool}
use Rattle.std.proofs.lemmas.Bool.Decides.{nat_tests}
use Rattle.type_table.specs.declared.info.TypeInfo.{TypeInfo}
use Rattle.type_table.specs.Table.{Table}
use Rattle.heap_space.specs.Memory.{Memory}
use Rattle.heap_space.specs.Places.{word_at}
use Rattle.object_model.specs.Sets.{is_in}
use Rattle.object_model.specs.ObjectWords.{words_from, layout_at}
use Rattle.object_model.proofs.Members.{is_in-head, is_in-tail, filter-part, filter-member, filter-agree, in-either}
use Rattle.object_view.proofs.LayoutLaws.{laid_out}
use Rattle.mark_steps.specs.Visits.{is_outside, is_visited, outside_refs, with_visited, CanVisit}
use Rattle.mark_steps.specs.Visits as marks
use Rattle.mark_steps.specs.Ends.{Marks}
use Rattle.mark_steps.specs.declared.MarkEnd.{MarkEnd}
use Rattle.mark_steps.proofs.VisitStep.{can-visited, can-passed}
use Rattle.mark_steps.proofs.FrameLaws.{visits-outside}
use Rattle.store_model.specs.Store.{Store}
use Rattle.heap_parts.specs.Parts.{HeapParts, word_in}
use Rattle.heap_parts.specs.Places.{is_young, old_places, AreAmong}
use Rattle.heap_parts.specs.StandsFor.{PartsStandFor}
use Rattle.frame_laws.proofs.PlaceLaws.{old-is_in, is_in-old, is_in-young}
use Rattle.heap_phases.specs.Budget.{CanMark, MarksPlaces}
use Rattle.heap_phases.specs.Visiting.{old_refs, PlaceVisits, NoPlace, PassesPlace, VisitsPlace}
use Rattle.heap_phases.proofs.VisitRefs.{each-ref}

-- the heap with this memory, and these places gray
abbrev pub with_marks : HeapParts → Memory → List ℕ → HeapParts
with_marks heap memory gray = record heap { memory = memory; gray = gray }

outside-old : (nursery p : ℕ) → nursery < 4294967296 → is_young p ≡ false → is_outside nursery p ≡ true
outside-old nursery p few old = grind (arith, nat_tests)

marked-of : (a b : Bool) → (not a || b) ≡ true → a ≡ true → b ≡ true
marked-of true b e t = e
marked-of false b e t = absurd (let no : ⊥ = cc in no)

-- what lies behind the nursery among references lies outside it
refs-agree : (heap : HeapParts) (m : Memory) (gray places : List ℕ) (p : ℕ) → CanVisit heap.setup.types heap.nursery.words m gray places
    → ((q : ℕ) → IsTrue (is_in q places) → is_young q ≡ false) → heap.nursery.words < 4294967296 → IsTrue (is_in p places)
    → outside_refs heap.setup.types heap.nursery.words (word_at m.blocks) p ≡ old_refs (with_marks heap m gray) p
refs-agree heap m gray places p can old few t =
    let w : ℕ → ℕ = word_at m.blocks in
    filter-agree (is_outside heap.nursery.words) (λ q. not (is_young q)) (words_from (word_at m.blocks) (layout_at heap.setup.types (word_at m.blocks) p).ref_start (layout_at heap.setup.types (word_at m.blocks) p).ref_count)
    (λ q u. elim (cases_Bool (is_outside heap.nursery.words q)) [
      | inl out ↦ out ∙ sym (ap not (old q (can.closed p q t (filter-member (is_outside heap.nursery.words) _ q u out))))
      | inr low ↦ low ∙ sym (ap not (young q low))
    ])
  where
    young : (q : ℕ) → is_outside heap.nursery.words q ≡ false → is_young q ≡ true
    young q low = grind (arith, nat_tests)

-- each visit
pub converts : (heap : HeapParts) (m : Memory) (gray ps : List ℕ) (new : Memory) (left places : List ℕ) → CanVisit heap.setup.types heap.nursery.words m gray places
    → ((q : ℕ) → IsTrue (is_in q places) → is_young q ≡ false) → heap.nursery.words < 4294967296 → AreAmong places gray
    → marks.PlaceVisits heap.setup.types heap.nursery.words m gray ps new left → PlaceVisits (with_marks heap m gray) ps (with_marks heap new left)
converts heap m _ _ _ _ places can old few among (marks.NoPlace _ gray) = NoPlace (with_marks heap m gray)
converts heap m _ ps new left places can old few among (marks.PassesPlace _ p rest _ _ _ passed more) =
    let there : IsTrue (is_in p places) = among p (is_in-head p rest) in
    let flag = marked-of (is_outside heap.nursery.words p) (is_visited m p) passed (outside-old heap.nursery.words p few (old p there)) in
    PassesPlace (with_marks heap m (p ∷ rest)) p rest ps (with_marks heap new left) refl flag
    (converts heap m rest ps new left places (can-passed p rest can refl) old few (λ q u. among q (is_in-tail q p rest u)) more)
converts heap m _ _ new left places can old few among (marks.VisitsPlace _ p rest ps _ _ passed more) =
    let there : IsTrue (is_in p places) = among p (is_in-head p rest) in
    let flag = (visits-outside (is_outside heap.nursery.words p) (is_visited m p) passed).1 in
    let refs : List ℕ = outside_refs heap.setup.types heap.nursery.words (word_at m.blocks) p in
    let queue : List ℕ = rest ++ outside_refs heap.setup.types heap.nursery.words (word_at m.blocks) p in
    let later : AreAmong places (rest ++ outside_refs heap.setup.types heap.nursery.words (word_at m.blocks) p) = λ q u. elim (in-either q rest (outside_refs heap.setup.types heap.nursery.words (word_at m.blocks) p) u) [
      | inl v ↦ among q (is_in-tail q p rest v)
      | inr v ↦ can.closed p q there v
    ] in
    VisitsPlace (with_marks heap m (p ∷ rest)) p rest ps (with_marks heap new left) refl flag
    (subst (λ (rs : List ℕ). PlaceVisits (with_marks heap (with_visited m p) (rest ++ rs)) ps (with_marks heap new left)) (refs-agree heap m (p ∷ rest) places p can old few there)
    (converts heap (with_visited m p) queue ps new left places (can-visited p can there rest refl) old few later more))

-- a whole call of `mark`
pub marks_places : (heap : HeapParts) (budget : ℕ) (new : Memory) (left told tells : List ℕ) (end : MarkEnd) → CanMark heap
    → Marks heap.setup.types heap.nursery.words budget heap.memory heap.gray told new left tells end → MarksPlaces budget heap (with_marks heap new left) told tells end
marks_places heap budget new left told tells end can m = record {
  places = m.places;
  visits = converts heap heap.memory heap.gray m.places new left can.places can.can can.old can.nursery can.among m.visits;
  births = m.births;
  ends = m.ends;
}

-- the parts of a store may be marked
pub can_mark : (heap : HeapParts) (store : Store) → PartsStandFor heap store → CanMark heap
can_mark heap store s =
    let small = s.made.ranges.1 in
    let types : Table TypeInfo = heap.setup.types in let w : ℕ → ℕ = word_in heap in
    record {
      places = old_places s.places;
      can = record {
        whole = λ p t. s.words.whole p (old-is_in s.places p t).0;
        apart = λ p q at t u a b. s.words.objects.apart p q at (old-is_in s.places p t).0 (old-is_in s.places q u).0 a b;
        closed = λ p q t u. closed p q (old-is_in s.places p t).0 (filter-part (is_outside heap.nursery.words) _ q u);
        listed = λ p t o. s.gray p t;
      };
      old = λ p t. (old-is_in s.places p t).1;
      among = s.gray;
      nursery = omega (arith, s.made.words, small);
    }
  where
    closed : (p q : ℕ) → IsTrue (is_in p s.places)
        → IsTrue (is_in q (words_from (word_in heap) (layout_at heap.setup.types (word_in heap) p).ref_start (layout_at heap.setup.types (word_in heap) p).ref_count)) × (is_outside heap.nursery.words q ≡ true)
        → IsTrue (is_in q (old_places s.places))
    closed p q t u = elim (each-ref s.places (word_in heap) (layout_at heap.setup.types (word_in heap) p).ref_start (layout_at heap.setup.types (word_in heap) p).ref_count
        (λ j l. s.words.objects.closed p j t (omega (arith, l, (laid_out heap.setup.types (word_in heap) p).refs))) q u.0) [
          | inl z ↦ absurd (let out : nat_lt heap.nursery.words q ≡ true = u.1 in let no : ⊥ = grind (arith, nat_tests) in no)
          | inr there ↦ elim (cases_Bool (is_young q)) [
            | inl y ↦ absurd (let inside = s.words.young.inside q (is_in-young s.places q there y) in let size = (laid_out heap.setup.types (word_in heap) q).header in
                let out : nat_lt heap.nursery.words q ≡ true = u.1 in let no : ⊥ = grind (arith, nat_tests) in no)
            | inr o ↦ is_in-old s.places q there o
          ]
        ]
