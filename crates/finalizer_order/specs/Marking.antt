-- Marking by a flag what an object leads to.
use Rattle.std.specs.Prelude.{◌≡◌, ℕ, Bool, true, not, ◌&&◌, if◌then◌else◌, IsTrue, nat_eq, List, [], ◌∷◌, ◌++◌}
use Rattle.std.specs.List.{IsDistinct}
use Rattle.type_table.specs.declared.info.TypeInfo.{TypeInfo}
use Rattle.type_table.specs.Table.{Table}
use Rattle.heap_space.specs.Memory.{Memory}
use Rattle.heap_space.specs.Places.{Placed, has, word_at}
use Rattle.object_header.specs.Words.{has_flag, with_flag}
use Rattle.object_header.specs.declared.flags.Flag.{Flag}
use Rattle.object_model.specs.Sets.{is_in}
use Rattle.finalizer_order.specs.Changes.{changed_at}
use Rattle.finalizer_order.specs.Unvisited.{refs_at, is_unvisited, leads_on, Reaches}

-- whether an object that was not visited lacks the flag
abbrev pub is_unmarked : Flag → ℕ → (ℕ → ℕ) → ℕ → Bool
is_unmarked flag nursery word place = is_unvisited nursery word place && not (has_flag (word place) flag)

-- the place, if it is one of an unmarked object
abbrev pub met : Flag → ℕ → (ℕ → ℕ) → ℕ → List ℕ
met flag nursery word place = if is_unmarked flag nursery word place then place ∷ [] else []

-- the blocks, where the objects at these places got the flag
abbrev pub marked_at : Flag → List ℕ → List Placed → List Placed
marked_at flag places blocks = changed_at (λ word. with_flag word flag) places blocks

-- just these unmarked objects got the flag
pub record Marks (flag : Flag) (nursery : ℕ) (old new : Memory) (places : List ℕ) : Type 0 where
  pub once : IsDistinct nat_eq places
  pub there : (q : ℕ) → IsTrue (is_in q places) → IsTrue (has old.blocks q)
  pub unmarked : (q : ℕ) → IsTrue (is_in q places) → IsTrue (is_unmarked flag nursery (word_at old.blocks) q)
  pub written : new ≡ record old { blocks = marked_at flag places old.blocks }

-- what the object at a place refers to is marked, and what got the flag is listed behind what was
pub record MeetsRefs (flag : Flag) (types : Table TypeInfo) (nursery : ℕ) (old new : Memory) (place : ℕ) (before after : List ℕ) : Type 0 where
  pub more : List ℕ
  pub appended : after ≡ before ++ more
  pub marks : Marks flag nursery old new more
  pub referred : (q : ℕ) → IsTrue (is_in q more) → IsTrue (is_in q (refs_at types (word_at old.blocks) place))
  pub all : (q : ℕ) → IsTrue (leads_on types nursery (word_at old.blocks) place q) → has_flag (word_at new.blocks q) flag ≡ true

-- of what an object leads to, what is marked leads on to what is marked
abbrev pub AreClosed : Flag → Table TypeInfo → ℕ → (ℕ → ℕ) → ℕ → Type 0
AreClosed flag types nursery word start = (p q : ℕ) → Reaches types nursery word start p → has_flag (word p) flag ≡ true →
    IsTrue (leads_on types nursery word p q) → has_flag (word q) flag ≡ true

-- what the object at a place leads to is marked, and what got the flag is listed behind what was
pub record MarksFrom (flag : Flag) (types : Table TypeInfo) (nursery : ℕ) (old new : Memory) (place : ℕ) (before after : List ℕ) : Type 0 where
  pub more : List ℕ
  pub appended : after ≡ before ++ more
  pub marks : Marks flag nursery old new more
  pub reached : (q : ℕ) → IsTrue (is_in q more) → Reaches types nursery (word_at old.blocks) place q
  pub all : IsTrue (is_unvisited nursery (word_at old.blocks) place) → AreClosed flag types nursery (word_at old.blocks) place →
      (q : ℕ) → Reaches types nursery (word_at old.blocks) place q → has_flag (word_at new.blocks q) flag ≡ true
