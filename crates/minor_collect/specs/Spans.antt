-- Spans that were taken of what is remembered, and what they cover.
use Rattle.std.specs.Prelude.{◌≡◌, ℕ, ◌<◌, ◌≤◌, ◌⊎◌, ◌==◌, ◌&&◌, not, false, nat_le, nat_lt, IsTrue, List, [], slice_get, Some}
use Rattle.heap_space.specs.Memory.{Memory}
use Rattle.object_model.specs.Sets.{is_in}
use Rattle.remember_cards.specs.declared.Span.{Span}
use Rattle.remember_cards.specs.Remembered.{is_held, held_places}
use Rattle.remember_cards.specs.Remembering.{Remembering, remembered_by}
use Rattle.heap_parts.specs.Parts.{HeapParts}
use Rattle.heap_parts.specs.Places.{old_places}
use Rattle.minor_collect.specs.declared.work.Moving.{Moving}
use Rattle.minor_collect.specs.Midway.{Owes}
use Rattle.minor_collect.specs.Calls.{Stage, Spot, Middle, Standing, Grows, AddsTodo, MayLead}

-- one of the spans has the item
pub record IsSpanned (spans : List Span) (q i : ℕ) : Type 0 where
  pub number : ℕ
  pub span : Span
  pub listed : slice_get spans number ≡ Some span
  pub here : span.a ≡ q
  pub low : span.from ≤ i
  pub high : i < span.to

-- a heap has this memory, and remembers this
pub record IsPartOf (heap : HeapParts) (memory : Memory) (remember : Remembering) : Type 0 where
  pub memory_is : heap.memory ≡ memory
  pub remembered_is : heap.remembered ≡ remembered_by remember

-- the heap with another memory, and what is remembered instead
abbrev pub with_remember : HeapParts → Memory → Remembering → HeapParts
with_remember heap memory remember = record heap { memory = memory; remembered = remembered_by remember }

-- in some middle, what is remembered can be taken
pub record CanTakeSpans (memory : Memory) (remember : Remembering) : Type 0 where
  pub stage : Stage
  pub heap : HeapParts
  pub spot : Spot
  pub part : IsPartOf heap memory remember
  pub middle : Middle stage heap spot []

-- a middle of whatever heap this is part of stays one
abbrev pub KeepsMiddle : Memory → Remembering → Memory → Remembering → Type 0
KeepsMiddle memory remember new after = (stage : Stage) (heap : HeapParts) (spot : Spot) → IsPartOf heap memory remember → Middle stage heap spot [] → Middle stage (with_remember heap new after) spot []

-- Spans were taken: every item that was remembered is in one of them, or still remembered; each had just such items.
pub record TakesSpans (memory : Memory) (remember : Remembering) (before : List Span) (new : Memory) (after : Remembering) (spans : List Span) : Type 0 where
  pub keeps : KeepsMiddle memory remember new after
  pub covered : (q i : ℕ) → i < 18446744073709551615 → IsTrue (is_held (remembered_by remember) q i) → IsSpanned spans q i ⊎ IsTrue (is_held (remembered_by after) q i)
  pub more : (q i : ℕ) → IsSpanned before q i → IsSpanned spans q i
  pub fewer : (q i : ℕ) → IsTrue (is_held (remembered_by after) q i) → IsTrue (is_held (remembered_by remember) q i)
  pub among : (q : ℕ) → IsTrue (is_in q (held_places (remembered_by after))) → IsTrue (is_in q (held_places (remembered_by remember)))
  pub sound : (k : ℕ) (span : Span) → slice_get spans k ≡ Some span → (slice_get before k ≡ Some span)
      ⊎ (IsTrue (is_in span.a (held_places (remembered_by remember))) × ((i : ℕ) → span.from ≤ i → i < span.to → IsTrue (is_held (remembered_by remember) span.a i)))

-- what the items of a span refer to may be found
pub record MaySpan (stage : Stage) (spot : Spot) (span : Span) : Type 0 where
  pub there : IsTrue (is_in span.a (old_places spot.placing.places))
  pub may : (i : ℕ) → span.from ≤ i → i < span.to → MayLead stage (spot.placing.name span.a) i

-- the items of one span are owed no more
abbrev pub without_span : Owes → Span → Owes
without_span owes span = record owes { items = λ q j. owes.items q j && not ((q == span.a) && (nat_le span.from j && nat_lt j span.to)) }

-- a span can be drained
pub record CanDrainSpan (now : HeapParts) (moving : Moving) (span : Span) : Type 0 where
  pub stage : Stage
  pub spot : Spot
  pub standing : Standing stage now moving spot
  pub may : MaySpan stage spot span

-- a span was drained: its items are owed no more
pub record DrainedSpan (stage : Stage) (old new : HeapParts) (moving_old moving_new : Moving) (before : Spot) (span : Span) : Type 0 where
  pub after : Spot
  pub standing : Standing stage new moving_new after
  pub grows : Grows stage before after
  pub adds : AddsTodo moving_old moving_new before after
  pub owes_are : after.owes ≡ without_span before.owes span
  pub only : new ≡ record old { memory = new.memory; shadows = new.shadows; old_blocks = new.old_blocks; links = new.links; remembered = new.remembered }

-- spans can be drained
pub record CanDrainSpans (now : HeapParts) (moving : Moving) (spans : List Span) : Type 0 where
  pub stage : Stage
  pub spot : Spot
  pub standing : Standing stage now moving spot
  pub may : (k : ℕ) (span : Span) → slice_get spans k ≡ Some span → MaySpan stage spot span

-- Spans below a number were drained: none of their items is owed any more.
pub record DrainedSpans (stage : Stage) (old new : HeapParts) (moving_old moving_new : Moving) (before : Spot) (spans : List Span) (count : ℕ) : Type 0 where
  pub after : Spot
  pub standing : Standing stage new moving_new after
  pub grows : Grows stage before after
  pub adds : AddsTodo moving_old moving_new before after
  pub paid : (k : ℕ) (span : Span) → slice_get spans k ≡ Some span → k < count → (i : ℕ) → span.from ≤ i → i < span.to → after.owes.items span.a i ≡ false
  pub fewer : (q i : ℕ) → before.owes.items q i ≡ false → after.owes.items q i ≡ false
  pub rest : after.owes ≡ record before.owes { items = after.owes.items }
  pub only : new ≡ record old { memory = new.memory; shadows = new.shadows; old_blocks = new.old_blocks; links = new.links; remembered = new.remembered }

-- in some middle, all that is remembered can be taken
pub record CanTakeAll (now : HeapParts) : Type 0 where
  pub stage : Stage
  pub spot : Spot
  pub middle : Middle stage now spot []

-- All that was remembered was taken: each of its items is in a span, and nothing is remembered.
pub record TookAll (old new : HeapParts) (spans : List Span) : Type 0 where
  pub keeps : (stage : Stage) (spot : Spot) → Middle stage old spot [] → Middle stage new spot []
  pub covered : (q i : ℕ) → i < 18446744073709551615 → IsTrue (is_held old.remembered q i) → IsSpanned spans q i
  pub sound : (k : ℕ) (span : Span) → slice_get spans k ≡ Some span
      → IsTrue (is_in span.a (held_places old.remembered)) × ((i : ℕ) → span.from ≤ i → i < span.to → IsTrue (is_held old.remembered span.a i))
  pub empty : new.remembered.held ≡ []
  pub only : new ≡ record old { memory = new.memory; remembered = new.remembered }
