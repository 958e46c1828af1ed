-- How the nursery can be walked in the middle of a collection: an object that left tells its size by where it is now.
use Rattle.std.specs.Prelude.{◌≡◌, ℕ, ◌+◌, ◌==◌, true, IsTrue, List, if◌then◌else◌}
use Rattle.type_table.specs.declared.info.TypeInfo.{TypeInfo}
use Rattle.type_table.specs.Table.{Table}
use Rattle.object_model.specs.Sets.{is_in}
use Rattle.object_model.specs.ObjectWords.{words_at}
use Rattle.heap_parts.specs.Places.{is_young}

-- how many words the object that is, or was, at a place takes
abbrev pub size_now : Table TypeInfo → (ℕ → ℕ) → ℕ → ℕ
size_now types w x = if w x == 18446744073709551615 then words_at types w (w (x + 1)) else words_at types w x

-- the places in the nursery that references may have tell the sizes that they had
abbrev pub TellSizes : Table TypeInfo → (ℕ → ℕ) → List ℕ → (ℕ → ℕ) → Type 0
TellSizes types w met size = (x : ℕ) → IsTrue (is_in x met) → is_young x ≡ true → size_now types w x ≡ size x
