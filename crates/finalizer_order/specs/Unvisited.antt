-- Objects outside the nursery that were not visited, and what they lead to. A nursery of so many words has the places from 1
-- up to their number, and all other objects lie behind it.
use Rattle.std.specs.Prelude.{◌≡◌, ℕ, ◌<◌, Bool, not, ◌&&◌, nat_lt, IsTrue, List}
use Rattle.type_table.specs.declared.info.TypeInfo.{TypeInfo}
use Rattle.type_table.specs.Table.{Table}
use Rattle.heap_space.specs.Memory.{Memory}
use Rattle.heap_space.specs.Places.{word_at}
use Rattle.object_header.specs.Words.{has_flag}
use Rattle.object_header.specs.declared.flags.Flag.TheVariants.{Visited}
use Rattle.object_model.specs.Sets.{is_in}
use Rattle.object_model.specs.ObjectWords.{words_from, layout_at, Covers}
use Rattle.object_view.specs.Views.{HasObject}
use Rattle.finalizer_order.specs.Paths.{Leads}

-- the places that the object at a place refers to, in item order
abbrev pub refs_at : Table TypeInfo → (ℕ → ℕ) → ℕ → List ℕ
refs_at types word place = words_from word (layout_at types word place).ref_start (layout_at types word place).ref_count

-- whether a place lies behind a nursery of so many words, and the object there was not visited
abbrev pub is_unvisited : ℕ → (ℕ → ℕ) → ℕ → Bool
is_unvisited nursery word place = nat_lt nursery place && not (has_flag (word place) Visited)

-- whether the object at p refers to q, where an object lies that was not visited
abbrev pub leads_on : Table TypeInfo → ℕ → (ℕ → ℕ) → ℕ → ℕ → Bool
leads_on types nursery word p q = is_in q (refs_at types word p) && is_unvisited nursery word q

-- p leads to q, by itself or over objects that were not visited
pub record Reaches (types : Table TypeInfo) (nursery : ℕ) (word : ℕ → ℕ) (p q : ℕ) : Type 0 where
  pub path : List ℕ
  pub leads : Leads (leads_on types nursery word) p path q

-- What starts and references lead to behind the nursery are whole objects that lie apart.
pub record AreWhole (memory : Memory) (types : Table TypeInfo) (nursery : ℕ) (starts : List ℕ) : Type 0 where
  pub places : List ℕ
  pub whole : (p : ℕ) → IsTrue (is_in p places) → HasObject memory types p
  pub apart : (p q at : ℕ) → IsTrue (is_in p places) → IsTrue (is_in q places) → Covers types (word_at memory.blocks) p at →
      Covers types (word_at memory.blocks) q at → p ≡ q
  pub started : (p : ℕ) → IsTrue (is_in p starts) → nursery < p → IsTrue (is_in p places)
  pub closed : (p q : ℕ) → IsTrue (is_in p places) → IsTrue (is_in q (refs_at types (word_at memory.blocks) p)) → nursery < q →
      IsTrue (is_in q places)

-- each of these was not visited
abbrev pub AreUnvisited : ℕ → (ℕ → ℕ) → List ℕ → Type 0
AreUnvisited nursery word places = (p : ℕ) → IsTrue (is_in p places) → IsTrue (is_unvisited nursery word p)
