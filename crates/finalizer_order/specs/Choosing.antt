-- Which objects are chosen once marking is over, and which are kept for them.
use Rattle.std.specs.Prelude.{◌≡◌, ◌≢◌, ℕ, ◌+◌, Bool, false, ◌==◌, not, ◌&&◌, IsTrue, IsFalse, ◌↔◌, nat_eq, List, ◌++◌, map, filter, take_while}
use Rattle.std.specs.List.{IsDistinct}
use Rattle.std.specs.List.Sorted.{IsPermutation, IsNonDecreasing}
use Rattle.type_table.specs.declared.info.TypeInfo.{TypeInfo}
use Rattle.type_table.specs.Table.{Table}
use Rattle.heap_space.specs.Memory.{Memory}
use Rattle.heap_space.specs.Places.{word_at}
use Rattle.object_header.specs.Words.{has_flag}
use Rattle.object_header.specs.declared.flags.Flag.TheVariants.{Order1, Order2}
use Rattle.object_model.specs.Sets.{is_in}
use Rattle.finalizer_order.specs.Finalizers.{Finalizers, places_of}
use Rattle.finalizer_order.specs.Changes.{visited_at}
use Rattle.finalizer_order.specs.Unvisited.{is_unvisited, Reaches, AreWhole}

-- whether one of the registered objects lies behind the nursery and was not visited
abbrev pub is_dying : ℕ → (ℕ → ℕ) → List ℕ → ℕ → Bool
is_dying nursery word registered x = is_in x registered && is_unvisited nursery word x

-- whether a stands in front of the first b in the list
abbrev pub stands_before : ℕ → ℕ → List ℕ → Bool
stands_before a b places = is_in a (take_while (λ x. not (x == b)) places)

-- Each other dying object that reaches it is reached by it, and was not registered before it.
pub record IsChosen (types : Table TypeInfo) (nursery : ℕ) (word : ℕ → ℕ) (registered : List ℕ) (x : ℕ) : Type 0 where
  pub dying : IsTrue (is_dying nursery word registered x)
  pub gives_way : (h : ℕ) → h ≢ x → IsTrue (is_dying nursery word registered h) → Reaches types nursery word h x →
      Reaches types nursery word x h × IsFalse (stands_before h x registered)

-- a dying object reaches it
pub record IsKept (types : Table TypeInfo) (nursery : ℕ) (word : ℕ → ℕ) (registered : List ℕ) (q : ℕ) : Type 0 where
  pub by : ℕ
  pub dying : IsTrue (is_dying nursery word registered by)
  pub reaches : Reaches types nursery word by q

-- what may be asked to choose: whole objects that no pass over finalizers has marked
pub record CanChoose (memory : Memory) (types : Table TypeInfo) (nursery : ℕ) (registered : List ℕ) : Type 0 where
  pub whole : AreWhole memory types nursery registered
  pub clear1 : (p : ℕ) → IsTrue (is_in p whole.places) → has_flag (word_at memory.blocks p) Order1 ≡ false
  pub clear2 : (p : ℕ) → IsTrue (is_in p whole.places) → has_flag (word_at memory.blocks p) Order2 ≡ false

-- the objects of the places that pass leave the registered ones and are chosen, in order of registration
abbrev pub with_chosen : Finalizers → (ℕ → Bool) → Finalizers
with_chosen finals taken = record finals {
  registered = filter (λ entry. not (taken entry.place)) finals.registered;
  chosen = finals.chosen ++ filter (λ entry. taken entry.place) finals.registered;
}

-- just the right ones are chosen
pub record Chooses (types : Table TypeInfo) (nursery : ℕ) (word : ℕ → ℕ) (old new : Finalizers) : Type 0 where
  pub taken : ℕ → Bool
  pub tells : (x : ℕ) → IsTrue (taken x) ↔ IsChosen types nursery word (places_of old.registered) x
  pub leaves : new ≡ with_chosen old taken

-- Just what a dying object reaches gets the flag Visited, each object once. Their births are appended, by rising birth.
pub record Keeps (types : Table TypeInfo) (nursery : ℕ) (registered : List ℕ) (old new : Memory) (before after : List ℕ) : Type 0 where
  pub places : List ℕ
  pub births : List ℕ
  pub once : IsDistinct nat_eq places
  pub just : (q : ℕ) → IsTrue (is_in q places) ↔ IsKept types nursery (word_at old.blocks) registered q
  pub visited : new ≡ record old { blocks = visited_at places old.blocks }
  pub appended : after ≡ before ++ births
  pub told : IsPermutation (map (λ p. word_at old.blocks (p + 1)) places) births
  pub rising : IsNonDecreasing births
