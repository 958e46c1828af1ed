-- The lines of a decrement.
use Rattle.std.specs.Prelude.{ℕ, List, [], ◌∷◌}
use Rattle.rawref_links.specs.declared.Dec.{Dec}
use Rattle.rawref_links.specs.declared.Dec.TheVariants.{Lowered, Deallocated}
use Rattle.text_model.specs.declared.line.Line.{Line}
use Rattle.text_model.specs.declared.line.Line.TheVariants.{Dealloc}

-- the line that a structure is gone, where a decrement deallocated it, and else none
abbrev pub dec_lines : ℕ → Dec → List Line
dec_lines number Lowered = []
dec_lines number Deallocated = Dealloc number ∷ []
