-- What is told of a run that stops before its end.
use Rattle.std.specs.Prelude.{ℕ, List, ◌++◌, codes, decimal}
use Rattle.text_model.specs.declared.item.Reason.{Reason}
use Rattle.text_model.specs.declared.item.Reason.TheVariants as reason

-- the text of a reason is its name
abbrev pub reason_text : Reason → List ℕ
reason_text reason.TooManyLines = codes "TooManyLines"
reason_text reason.LineTooLong = codes "LineTooLong"
reason_text reason.Syntax = codes "Syntax"
reason_text reason.Range = codes "Range"
reason_text reason.Late = codes "Late"
reason_text reason.SetTwice = codes "SetTwice"
reason_text reason.SetRange = codes "SetRange"
reason_text reason.TypeTwice = codes "TypeTwice"
reason_text reason.TooManyTypes = codes "TooManyTypes"
reason_text reason.NoRoot = codes "NoRoot"
reason_text reason.NilRoot = codes "NilRoot"
reason_text reason.NoType = codes "NoType"
reason_text reason.WrongShape = codes "WrongShape"
reason_text reason.NoItem = codes "NoItem"
reason_text reason.NotPinned = codes "NotPinned"
reason_text reason.NoQueue = codes "NoQueue"
reason_text reason.Registered = codes "Registered"
reason_text reason.StructUsed = codes "StructUsed"
reason_text reason.HasPLink = codes "HasPLink"
reason_text reason.NoStruct = codes "NoStruct"
reason_text reason.StructPending = codes "StructPending"
reason_text reason.CountFull = codes "CountFull"
reason_text reason.CountZero = codes "CountZero"

-- of a line that is refused
abbrev pub malformed_text : ℕ → Reason → List ℕ
malformed_text line reason = (codes "malformed: line " ++ decimal line) ++ ((codes ": " ++ reason_text reason) ++ codes "\n")

-- of a birth that the limit refuses: the words counted then, those asked for, the limit
abbrev pub limit_text : ℕ → ℕ → ℕ → ℕ → List ℕ
limit_text line counted request limit =
    (codes "heap limit: line " ++ decimal line)
    ++ ((codes ": " ++ decimal counted) ++ ((codes " + " ++ decimal request) ++ ((codes " > " ++ decimal limit) ++ codes "\n")))

-- of other words than the program takes
abbrev pub usage_text : List ℕ
usage_text = codes "usage: replay FILE, or bench START COUNT\n"

-- of memory that could not be had
abbrev pub memory_text : List ℕ
memory_text = codes "out of memory\n"

-- of a file that could not be read
abbrev pub read_fault_text : List ℕ
read_fault_text = codes "read fault\n"

-- of a transcript that could not be written
abbrev pub write_fault_text : List ℕ
write_fault_text = codes "write fault\n"
