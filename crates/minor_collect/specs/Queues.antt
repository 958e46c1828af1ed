-- What is queued for marking, once nothing moves any more.
use Rattle.std.specs.Prelude.{◌≡◌, ◌≢◌, ℕ, ◌+◌, ◌<◌, ◌⊎◌, ◌==◌, ◌&&◌, not, Bool, true, false, nat_le, nat_lt, IsTrue, List, [], ◌∷◌, ◌++◌, if◌then◌else◌}
use Rattle.std.specs.List.{list_any}
use Rattle.heap_space.specs.Places.{has}
use Rattle.object_header.specs.Words.{has_flag}
use Rattle.object_header.specs.declared.flags.Flag.TheVariants.{Visited}
use Rattle.object_view.specs.Views.{HasObject}
use Rattle.object_model.specs.Sets.{is_in}
use Rattle.object_model.specs.ObjectWords.{layout_at}
use Rattle.remember_cards.specs.declared.Span.{Span}
use Rattle.heap_parts.specs.Parts.{HeapParts, word_in}
use Rattle.heap_parts.specs.Places.{is_young}

-- a reference leads to a place that can be looked at, if it leads outside the nursery
abbrev pub CanLookAt : HeapParts → ℕ → Type 0
CanLookAt heap y = y ≢ 0 → is_young y ≡ false → IsTrue (has heap.memory.blocks y)

-- whether it leads to an object outside the nursery that marking did not visit
abbrev pub is_to_queue : HeapParts → ℕ → Bool
is_to_queue heap y = not (y == 0) && (not (is_young y) && not (has_flag (word_in heap y) Visited))

-- a list with a place more, where that is asked for
abbrev pub queued_with : Bool → List ℕ → ℕ → List ℕ
queued_with asked gray y = if asked then gray ++ y ∷ [] else gray

-- the word of item j of the object at a place
abbrev pub ref_word : HeapParts → ℕ → ℕ → ℕ
ref_word heap q j = word_in heap ((layout_at heap.setup.types (word_in heap) q).ref_start + j)

-- how many references the object at a place has
abbrev pub refs_at : HeapParts → ℕ → ℕ
refs_at heap q = (layout_at heap.setup.types (word_in heap) q).ref_count

-- an object whose references can be looked at
pub record CanQueue (heap : HeapParts) (q : ℕ) : Type 0 where
  pub object : HasObject heap.memory heap.setup.types q
  pub leads : (j : ℕ) → j < refs_at heap q → CanLookAt heap (ref_word heap q j)

-- whether a span has item i of the object at q
abbrev pub has_item : ℕ → ℕ → Span → Bool
has_item q i span = (q == span.a) && (nat_le span.from i && nat_lt i span.to)

-- whether one of the spans has it
abbrev pub is_spanned : List Span → ℕ → ℕ → Bool
is_spanned spans q i = list_any (has_item q i) spans

-- a place that an item of a visited object leads to, which one of these spans has
pub record IsReferent (heap : HeapParts) (spans : List Span) (place : ℕ) : Type 0 where
  pub from : ℕ
  pub item : ℕ
  pub spanned : IsTrue (is_spanned spans from item)
  pub visited : has_flag (word_in heap from) Visited ≡ true
  pub within : item < refs_at heap from
  pub is : place ≡ ref_word heap from item
  pub some : place ≢ 0
  pub old : is_young place ≡ false

-- What the items of these spans refer to was queued, where their objects are visited: nothing else changed.
pub record Queues (old new : HeapParts) (spans : List Span) : Type 0 where
  pub only : new ≡ record old { gray = new.gray }
  pub more : (p : ℕ) → IsTrue (is_in p old.gray) → IsTrue (is_in p new.gray)
  pub from : (p : ℕ) → IsTrue (is_in p new.gray) → IsTrue (is_in p old.gray) ⊎ IsReferent old spans p
  pub all : (q j : ℕ) → IsTrue (is_spanned spans q j) → has_flag (word_in old q) Visited ≡ true → j < refs_at old q → ref_word old q j ≢ 0 → is_young (ref_word old q j) ≡ false
      → IsTrue (is_in (ref_word old q j) new.gray) ⊎ (has_flag (word_in old (ref_word old q j)) Visited ≡ true)

-- the references of each object that has a span can be looked at
abbrev pub CanQueueSpans : HeapParts → List Span → Type 0
CanQueueSpans heap spans = (q : ℕ) → IsTrue (list_any (λ (span : Span). q == span.a) spans) → CanQueue heap q
