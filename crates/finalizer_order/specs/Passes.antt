-- The passes over the dying objects.
use Rattle.std.specs.Prelude.{◌≡◌, ◌≢◌, ℕ, ◌+◌, ◌<◌, Bool, false, not, ◌&&◌, nat_lt, nat_eq, IsTrue, ◌↔◌, List, [], ◌∷◌, ◌++◌, filter, map}
use Rattle.std.specs.List.{IsDistinct}
use Rattle.std.specs.List.Sorted.{IsPermutation, IsNonDecreasing}
use Rattle.type_table.specs.declared.info.TypeInfo.{TypeInfo}
use Rattle.type_table.specs.Table.{Table}
use Rattle.heap_space.specs.Memory.{Memory}
use Rattle.heap_space.specs.Places.{has, word_at, lies_in_one}
use Rattle.object_header.specs.Words.{has_flag, with_flag, without_flag}
use Rattle.object_header.specs.declared.flags.Flag.{Flag}
use Rattle.object_header.specs.declared.flags.Flag.TheVariants.{Visited, Order1, Order2}
use Rattle.object_model.specs.Sets.{is_in}
use Rattle.finalizer_order.specs.Changes.{changed_at, visited_at}
use Rattle.finalizer_order.specs.Unvisited.{is_unvisited, Reaches, AreWhole}
use Rattle.finalizer_order.specs.Choosing.{stands_before, IsChosen, IsKept}
use Rattle.finalizer_order.specs.Marking.{Marks}

-- objects that no pass has marked with the flag
pub record CanPass (flag : Flag) (memory : Memory) (types : Table TypeInfo) (nursery : ℕ) (starts : List ℕ) : Type 0 where
  pub whole : AreWhole memory types nursery starts
  pub clear : (p : ℕ) → IsTrue (is_in p whole.places) → has_flag (word_at memory.blocks p) flag ≡ false

-- one of these leads to q
pub record FromOne (reaches : ℕ → ℕ → Type 0) (starts : List ℕ) (q : ℕ) : Type 0 where
  pub by : ℕ
  pub there : IsTrue (is_in by starts)
  pub leads : reaches by q

-- just what these lead to is marked
pub record MarksAll (flag : Flag) (types : Table TypeInfo) (nursery : ℕ) (old new : Memory) (starts marked : List ℕ) : Type 0 where
  pub marks : Marks flag nursery old new marked
  pub just : (q : ℕ) → IsTrue (is_in q marked) → FromOne (Reaches types nursery (word_at old.blocks)) starts q
  pub all : (q : ℕ) → FromOne (Reaches types nursery (word_at old.blocks)) starts q → IsTrue (is_in q marked)

-- none of them leads to a later one
abbrev pub NoneLeadsLater : (ℕ → ℕ → Type 0) → List ℕ → Type 0
NoneLeadsLater reaches [] = Unit {0}
NoneLeadsLater reaches (x ∷ xs) = ((y : ℕ) → IsTrue (is_in y xs) → reaches x y → ⊥) × NoneLeadsLater reaches xs

-- those of the dying objects to which no earlier one leads
pub record AreCandidates (reaches : ℕ → ℕ → Type 0) (dying candidates : List ℕ) : Type 0 where
  pub dying_ones : (x : ℕ) → IsTrue (is_in x candidates) → IsTrue (is_in x dying)
  pub first : (x h : ℕ) → IsTrue (is_in x candidates) → IsTrue (stands_before h x dying) → reaches h x → ⊥
  pub covers : (x : ℕ) → IsTrue (is_in x dying) → FromOne reaches candidates x
  pub all : (x : ℕ) → IsTrue (is_in x dying) → ((h : ℕ) → IsTrue (stands_before h x dying) → reaches h x → ⊥) → IsTrue (is_in x candidates)
  pub none_later : NoneLeadsLater reaches candidates

-- those of them to which no other one leads
pub record AreFound (reaches : ℕ → ℕ → Type 0) (candidates found : List ℕ) : Type 0 where
  pub candidate : (x : ℕ) → IsTrue (is_in x found) → IsTrue (is_in x candidates)
  pub first : (x h : ℕ) → IsTrue (is_in x found) → IsTrue (is_in h candidates) → h ≢ x → reaches h x → ⊥
  pub all : (x : ℕ) → IsTrue (is_in x candidates) → ((h : ℕ) → IsTrue (is_in h candidates) → h ≢ x → reaches h x → ⊥) → IsTrue (is_in x found)

-- the places of those that were not visited
abbrev pub unvisited_of : ℕ → Memory → List ℕ → List ℕ
unvisited_of nursery memory places = filter (is_unvisited nursery (word_at memory.blocks)) places

-- the first pass: what dying objects lead to is marked, and candidates are listed
pub record PassesFirst (types : Table TypeInfo) (nursery : ℕ) (old new : Memory) (registered marked candidates : List ℕ) : Type 0 where
  pub marks_all : MarksAll Order1 types nursery old new (unvisited_of nursery old registered) marked
  pub are_candidates : AreCandidates (Reaches types nursery (word_at old.blocks)) (unvisited_of nursery old registered) candidates

-- the second pass: what candidates lead to is marked, and those that are chosen are found
pub record PassesSecond (types : Table TypeInfo) (nursery : ℕ) (old new : Memory) (candidates again found : List ℕ) : Type 0 where
  pub marks_all : MarksAll Order2 types nursery old new candidates again
  pub are_found : AreFound (Reaches types nursery (word_at old.blocks)) candidates found

-- whether an object has Order2 alone
abbrev pub is_ordered : ℕ → (ℕ → ℕ) → ℕ → Bool
is_ordered nursery word place = nat_lt nursery place && (has_flag (word place) Order2 && not (has_flag (word place) Order1))

-- the header of a marked object once the passes are over
abbrev pub settled_word : ℕ → ℕ
settled_word word = with_flag (without_flag (without_flag word Order1) Order2) Visited

-- at each of these places lie a header and a birth, which is not another header
pub record HaveHeads (memory : Memory) (places : List ℕ) : Type 0 where
  pub lies : (p : ℕ) → IsTrue (is_in p places) → IsTrue (lies_in_one memory.blocks p 2)
  pub apart : (p : ℕ) → IsTrue (is_in p places) → is_in (p + 1) places ≡ false

-- all passes: what is kept is marked, and of the registered objects just the chosen ones have Order2 alone
pub record HasPassed (types : Table TypeInfo) (nursery : ℕ) (old new : Memory) (registered marked : List ℕ) : Type 0 where
  pub once : IsDistinct nat_eq marked
  pub just : (q : ℕ) → IsTrue (is_in q marked) ↔ IsKept types nursery (word_at old.blocks) registered q
  pub found : List ℕ
  pub tells : (x : ℕ) → IsTrue (is_in x found) ↔ IsChosen types nursery (word_at old.blocks) registered x
  pub ordered : (p : ℕ) → IsTrue (is_in p registered) → is_ordered nursery (word_at new.blocks) p ≡ is_in p found
  pub there : (p : ℕ) → IsTrue (is_in p registered) → nursery < p → IsTrue (has new.blocks p)
  pub heads : HaveHeads new marked
  pub births : map (λ p. word_at new.blocks (p + 1)) marked ≡ map (λ p. word_at old.blocks (p + 1)) marked
  pub rest : new ≡ record old { blocks = new.blocks }
  pub settles : changed_at settled_word marked new.blocks ≡ visited_at marked old.blocks

-- the marked objects are visited, and their births are appended, by rising birth
pub record Settles (marked : List ℕ) (old new : Memory) (before after : List ℕ) : Type 0 where
  pub births : List ℕ
  pub written : new ≡ record old { blocks = changed_at settled_word marked old.blocks }
  pub appended : after ≡ before ++ births
  pub told : IsPermutation (map (λ p. word_at old.blocks (p + 1)) marked) births
  pub rising : IsNonDecreasing births
