-- The units of a script in either form: lines, or the records behind the mark with the end.
use Rattle.std.specs.Prelude.{ℕ, zero, suc, ◌+◌, if◌then◌else◌, List, [], ◌∷◌, length, drop, map, Option, Some, None, Result, Ok, Err}
use Rattle.text_model.specs.declared.item.Item.{Item}
use Rattle.text_model.specs.declared.item.Reason.{Reason}
use Rattle.text_model.specs.declared.item.Reason.TheVariants.{Syntax}
use Rattle.text_model.specs.Lines.{lines_of}
use Rattle.text_model.specs.Script.{readings}
use Rattle.text_model.specs.Binary.{begins_binary}
use Rattle.text_model.specs.BinaryReading.{unit_at}

-- what a unit says, or the first reason for which it says nothing: the end says no item
abbrev pub Said : Type 0
Said = Result (Option Item) Reason

abbrev pub says_item : Result Item Reason → Said
says_item (Ok item) = Ok (Some item)
says_item (Err reason) = Err reason

-- behind the end there is nothing, or what is refused
abbrev pub behind_end : List ℕ → List Said
behind_end [] = []
behind_end (b ∷ bytes) = Err Syntax ∷ []

-- an item, and what the bytes behind it say; or the end
abbrev pub said_first : Option Item → List ℕ → (List ℕ → List Said) → List Said
said_first (Some item) bytes more = Ok (Some item) ∷ more bytes
said_first None bytes more = Ok None ∷ behind_end bytes

abbrev pub said_by : Result (Option Item × List ℕ) Reason → (List ℕ → List Said) → List Said
said_by (Ok read) more = said_first read.0 read.1 more
said_by (Err reason) more = Err reason ∷ []

-- The units of a binary script behind its mark, of which the first has number k, up to the first that is refused. They are no more than n.
unfoldable pub records_said : ℕ → ℕ → List ℕ → List Said
records_said zero k bytes = []
records_said (suc n) k bytes = said_by (unit_at k bytes) (records_said n (k + 1))

-- The units of a script. Each record has a byte, so that there are no more than the bytes.
abbrev pub units_of : List ℕ → List Said
units_of script =
    if begins_binary script then records_said (length script) 1 (drop 4 script) else map says_item (readings 1 (lines_of script))
