-- The words of a new object.
use Rattle.std.specs.Prelude.{ℕ, ◌+◌, List, [], ◌∷◌, replicate}
use Rattle.type_table.specs.declared.info.Shape.{Shape}
use Rattle.type_table.specs.declared.info.Shape.TheVariants.{Fixed, IntArray, RefArray, Weak}

-- the words behind the header and the birth: the length of an array, the target of a weak object, and otherwise 0
abbrev pub born_rest : Shape → ℕ → ℕ → List ℕ
born_rest (Fixed ints refs) len target = replicate (ints + refs) 0
born_rest IntArray len target = len ∷ replicate len 0
born_rest RefArray len target = len ∷ replicate len 0
born_rest Weak len target = target ∷ []

-- all words of a new object: its header with the flags that it is born with, its birth, and the rest
abbrev pub born_words : Shape → ℕ → ℕ → ℕ → ℕ → List ℕ
born_words shape header birth len target = header ∷ (birth ∷ born_rest shape len target)
