-- How many words an object takes.
use Rattle.std.specs.Prelude.{ℕ, ◌+◌}
use Rattle.type_table.specs.declared.info.Shape.{Shape}
use Rattle.type_table.specs.declared.info.Shape.TheVariants.{Fixed, IntArray, RefArray, Weak}

-- The words of an object of this shape with so many items. Each object has a header and a birth, an array its length.
abbrev pub words_in : Shape → ℕ → ℕ
words_in (Fixed ints refs) items = 2 + ints + refs
words_in IntArray items = 3 + items
words_in RefArray items = 3 + items
words_in Weak items = 3
