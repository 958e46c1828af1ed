-- What collections do to the parts of a heap: drafts of the contracts of the crates that collect.
use Rattle.std.specs.Prelude.{◌≡◌, ℕ, ◌+◌, IsTrue, IsFalse, List, ◌++◌, map}
use Rattle.text_model.specs.declared.line.Line.{Line}
use Rattle.text_model.specs.declared.line.Phase.TheVariants.{Marking}
use Rattle.object_model.specs.Sets.{is_in}
use Rattle.store_model.specs.Store.{Store}
use Rattle.store_model.specs.Roots.{is_kept, pinned_births}
use Rattle.store_model.specs.MarkingOrder.{VisitsQueued}
use Rattle.store_model.specs.MinorCollection.{MinorCollection}
use Rattle.store_model.specs.Collections.{MajorStep}
use Rattle.parts_model.specs.Parts.{HeapParts, word_in}
use Rattle.parts_model.specs.StandsFor.{PartsStandFor}

-- each object of the nursery is pinned
abbrev pub AreAllPinned : Store → Type 0
AreAllPinned store = (x : ℕ) → IsTrue (is_kept store.kept x) → IsFalse (is_in x store.settled) → IsTrue (is_in x (pinned_births store))

-- the births of gray objects, as the words tell them
abbrev pub gray_births : HeapParts → List ℕ
gray_births heap = map (λ p. word_in heap (p + 1)) heap.gray

-- right after a minor collection: nothing was born outside the nursery since
pub record IsCollected (heap : HeapParts) (store : Store) : Type 0 where
  pub stands : PartsStandFor heap store
  pub pinned : AreAllPinned store
  pub fresh : heap.fresh ≡ 0
  pub queued : store.phase ≡ Marking → VisitsQueued store.kept store.settled store.visited (gray_births heap)

-- a minor collection of every store that the parts stand for
pub record CollectsMinor (old new : HeapParts) (before after : List Line) : Type 0 where
  pub setup : new.setup ≡ old.setup
  pub lines : List Line
  pub appended : after ≡ before ++ lines
  pub collects : (store : Store) → PartsStandFor old store → (later : Store) × MinorCollection store lines later × IsCollected new later

-- a major step of every store that the parts stand for
pub record StepsMajor (old new : HeapParts) (before after : List Line) : Type 0 where
  pub setup : new.setup ≡ old.setup
  pub lines : List Line
  pub appended : after ≡ before ++ lines
  pub steps : (store : Store) → IsCollected old store → (later : Store) × MajorStep old.setup.settings store lines later × PartsStandFor new later
