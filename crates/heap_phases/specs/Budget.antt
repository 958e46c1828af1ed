-- Visits of one step, within a budget of words.
use Rattle.std.specs.Prelude.{◌≡◌, ℕ, ◌+◌, ◌-◌, ◌<◌, ◌≤◌, ◌⊎◌, Bool, true, false, IsTrue, List, [], ◌++◌, length, map, sum_by, take}
use Rattle.object_model.specs.Sets.{is_in}
use Rattle.object_model.specs.ObjectWords.{words_at}
use Rattle.mark_steps.specs.Visits.{CanVisit}
use Rattle.mark_steps.specs.Ends.{EndsBy}
use Rattle.mark_steps.specs.declared.MarkEnd.{MarkEnd}
use Rattle.mark_steps.specs.declared.MarkEnd.TheVariants.{Budget, Empty}
use Rattle.heap_parts.specs.Places.{is_young, AreAmong}
use Rattle.heap_parts.specs.Parts.{HeapParts, word_in}
use Rattle.heap_phases.specs.Visiting.{old_roots, with_gray, PlaceVisits}

-- what is gray, and what it leads to, are whole objects outside the nursery
pub record CanMark (heap : HeapParts) : Type 0 where
  pub places : List ℕ
  pub can : CanVisit heap.setup.types heap.nursery.words heap.memory heap.gray places
  pub old : (p : ℕ) → IsTrue (is_in p places) → is_young p ≡ false
  pub among : AreAmong places heap.gray
  pub nursery : heap.nursery.words < 4294967296

-- the words of objects
abbrev pub words_of_places : HeapParts → List ℕ → ℕ
words_of_places heap ps = sum_by (words_at heap.setup.types (word_in heap)) ps

-- the births of objects
abbrev pub births_of : HeapParts → List ℕ → List ℕ
births_of heap ps = map (λ p. word_in heap (p + 1)) ps

-- visits within a budget: which places were visited, which births were told, and how it ended
pub record MarksPlaces (budget : ℕ) (old new : HeapParts) (told tells : List ℕ) (end : MarkEnd) : Type 0 where
  pub places : List ℕ
  pub visits : PlaceVisits old places new
  pub births : tells ≡ told ++ births_of old places
  pub ends : EndsBy (words_at old.setup.types (word_in old)) budget places new.gray end

-- all but the last of these have fewer words than the increment
abbrev pub IsFew : HeapParts → List ℕ → Type 0
IsFew heap ps = words_of_places heap (take (length ps - 1) ps) < heap.setup.settings.increment

-- visits that end where the words reach the increment
pub record VisitsOnce (old new : HeapParts) (births : List ℕ) : Type 0 where
  pub places : List ℕ
  pub visits : PlaceVisits old places new
  pub births_are : births ≡ births_of old places
  pub few : IsFew old places
  pub enough : old.setup.settings.increment ≤ words_of_places old places

-- visits until nothing is gray, the roots queued again, and more visits
pub record VisitsTwice (old new : HeapParts) (births : List ℕ) : Type 0 where
  pub first : List ℕ
  pub second : List ℕ
  pub mid : HeapParts
  pub visits : PlaceVisits old first mid
  pub ran_empty : mid.gray ≡ []
  pub again : PlaceVisits (with_gray mid (old_roots mid)) second new
  pub births_are : births ≡ births_of old (first ++ second)
  pub few : IsFew old (first ++ second)

-- whether marking goes on: exactly where the words of the visited reach the increment; else nothing is left to visit
abbrev pub VisitsWithin : HeapParts → HeapParts → List ℕ → Bool → Type 0
VisitsWithin old new births true = VisitsOnce old new births
    ⊎ ((v : VisitsTwice old new births) × (old.setup.settings.increment ≤ words_of_places old (v.first ++ v.second)))
VisitsWithin old new births false = (v : VisitsTwice old new births) × (new.gray ≡ [])
    × (words_of_places old (v.first ++ v.second) < old.setup.settings.increment)

-- whether the words reached the budget
abbrev pub is_budget : MarkEnd → Bool
is_budget Budget = true
is_budget (Empty words) = false
