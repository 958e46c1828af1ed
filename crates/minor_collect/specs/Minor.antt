-- What the steps of a minor collection leave, one behind another.
use Rattle.std.specs.Prelude.{◌≡◌, ℕ, ◌+◌, List, []}
use Rattle.text_model.specs.declared.line.Phase.TheVariants.{Marking}
use Rattle.remember_cards.specs.declared.Span.{Span}
use Rattle.store_model.specs.Store.{Store}
use Rattle.heap_parts.specs.Parts.{HeapParts}
use Rattle.heap_parts.specs.StandsFor.{PartsStandButYoung}
use Rattle.minor_collect.specs.declared.work.Moving.{Moving}
use Rattle.minor_collect.specs.Calls.{Stage, Spot, Middle, Survived}
use Rattle.minor_collect.specs.Queues.{Queues}
use Rattle.minor_collect.specs.Remade.{Remakes}
use Rattle.minor_collect.specs.Spans.{TookAll}
use Rattle.minor_collect.specs.Vanished.{FindsVanished}

-- the parts stand for some store, though what refers to the young may be forgotten
pub record CanCollect (heap : HeapParts) : Type 0 where
  pub store : Store
  pub stands : PartsStandButYoung heap store

-- all that was remembered was taken first
pub record Took (old : HeapParts) (spans : List Span) : Type 0 where
  pub taken : HeapParts
  pub took : TookAll old taken spans

-- in a collection of any of its stores, what survives moved
abbrev pub MovesSurvivors : HeapParts → HeapParts → Moving → Type 0
MovesSurvivors old moved moving = (store : Store) (stands : PartsStandButYoung old store) → Survived (record { start = old; store = store; stands = stands }) moved moving

-- What survives moved, what is gone is listed, and where marking goes on, what remembered items of visited objects refer to is queued.
pub record Separates (old new : HeapParts) (moving : Moving) (dead destroyed : List ℕ) : Type 0 where
  pub moved : HeapParts
  pub spans : List Span
  pub took : Took old spans
  pub survived : MovesSurvivors old moved moving
  pub finds : (stage : Stage) (spot : Spot) → Middle stage moved spot [] → FindsVanished stage spot moved dead destroyed
  pub queues : moved.phase ≡ Marking → Queues moved new spans
  pub quiet : (moved.phase ≡ Marking → ⊥) → new ≡ moved

-- The nursery is made anew, and what moved counts outside it: nothing was born there since.
pub record Closes (old new : HeapParts) (words : ℕ) : Type 0 where
  pub remade : HeapParts
  pub remakes : Remakes old remade
  pub is : new ≡ record remade { old_words = remade.old_words + words; fresh = 0 }
