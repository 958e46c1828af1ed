-- Objects that move, and references that follow them: the words inside a collection.
use Rattle.std.specs.Prelude.{◌≡◌, ◌≢◌, ℕ, ◌+◌, ◌-◌, ◌<◌, ◌≤◌, ◌⊎◌, ◌==◌, if◌then◌else◌, IsTrue, List}
use Rattle.type_table.specs.declared.info.TypeInfo.{TypeInfo}
use Rattle.type_table.specs.Table.{Table}
use Rattle.heap_space.specs.Runs.{within}
use Rattle.object_model.specs.Sets.{is_in}
use Rattle.object_model.specs.ObjectWords.{updated, words_at, Covers}

-- the words, with n of them copied from one place to another
abbrev pub copied : (ℕ → ℕ) → ℕ → ℕ → ℕ → ℕ → ℕ
copied word from to n place = if within to n place then word (from + (place - to)) else word place

-- the words after an object of n words moved: it is copied, and leaves all bits in its first word and its new place in the second
abbrev pub moved : (ℕ → ℕ) → ℕ → ℕ → ℕ → ℕ → ℕ
moved word from to n = updated (updated (copied word from to n) from 18446744073709551615) (from + 1) to

-- where the object of a place is now
abbrev pub place_now : (ℕ → ℕ) → ℕ → ℕ
place_now word place = if place == 0 then 0 else (if word place == 18446744073709551615 then word (place + 1) else place)

-- the object at x left for a place of the same name, and its first two words are those of no object now
pub record HasLeft (types : Table TypeInfo) (word : ℕ → ℕ) (places : List ℕ) (name : ℕ → ℕ) (x : ℕ) : Type 0 where
  pub marked : word x ≡ 18446744073709551615
  pub there : IsTrue (is_in (word (x + 1)) places)
  pub same_name : name (word (x + 1)) ≡ name x
  pub outside : (q : ℕ) → IsTrue (is_in q places) → Covers types word q x ⊎ Covers types word q (x + 1) → ⊥

-- each place that references may have holds an object, or an object left it
pub record IsMoving (types : Table TypeInfo) (word : ℕ → ℕ) (met places : List ℕ) (name : ℕ → ℕ) : Type 0 where
  pub above : (x : ℕ) → IsTrue (is_in x met) → 1 ≤ x
  pub each : (x : ℕ) → IsTrue (is_in x met) → IsTrue (is_in x places) ⊎ HasLeft types word places name x
  pub stay : (x : ℕ) → IsTrue (is_in x places) → IsTrue (is_in x met)

-- room from a on for the object at p, to which none has moved: words of no object, and none that an object left
pub record HasFreeRoom (types : Table TypeInfo) (word : ℕ → ℕ) (met places : List ℕ) (p a : ℕ) : Type 0 where
  pub there : IsTrue (is_in p places)
  pub above : 1 ≤ a
  pub clear : (q at : ℕ) → IsTrue (is_in q places) → Covers types word q at → a ≤ at → at < a + words_at types word p → ⊥
  pub fresh : (x : ℕ) → IsTrue (is_in x met) →
      ((x < a) ⊎ (a + words_at types word p ≤ x)) × ((x + 1 < a) ⊎ (a + words_at types word p ≤ x + 1))
  pub once : (x : ℕ) → IsTrue (is_in x met) → word x ≡ 18446744073709551615 → word (x + 1) ≢ p
