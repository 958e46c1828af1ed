-- What a reader of units has handed out, and what a call for the next one did.
use Rattle.std.specs.Prelude.{◌≡◌, ℕ, ◌+◌, ◌≤◌, ⊤, Bool, true, false, List, [], ◌∷◌, ◌++◌, length, map, Option, Some, None, Result, Ok, Err, IfSome, IsErrOf}
use Rattle.std.specs.Io.KnownBytes.{Consumes, IsAtEnd}
use Rattle.heap_io.specs.Causes.{Rose}
use Rattle.text_model.specs.declared.item.Item.{Item}
use Rattle.text_model.specs.declared.item.Item.TheVariants.{Blank}
use Rattle.text_model.specs.declared.item.Reason.{Reason}
use Rattle.text_model.specs.declared.item.Reason.TheVariants as reason
use Rattle.text_model.specs.Lines.{lines_of, whole_lines_of, whole_text}
use Rattle.text_model.specs.Script.{readings}
use Rattle.text_model.specs.ItemLine.{HasLine}
use Rattle.text_model.specs.Binary.{begins_binary, binary_mark, items_records}
use Rattle.text_model.specs.Units.{Said, says_item, units_of}
use Rattle.script_text.specs.declared.reader.ReadEnd.{ReadEnd}
use Rattle.script_text.specs.declared.reader.ReadEnd.TheVariants as line
use Rattle.script_text.specs.Reader.{ReaderState, IsInStep, ahead}
use Rattle.script_binary.specs.declared.end.BinEnd.{BinEnd}
use Rattle.script_binary.specs.declared.end.BinEnd.TheVariants as bin
use Rattle.script_binary.specs.Reader.{BinState, ahead as records_ahead}
use Rattle.script_convert.specs.declared.reader.UnitEnd.{UnitEnd}
use Rattle.script_convert.specs.declared.reader.UnitEnd.TheVariants.{Refused, ReadFault}
use Rattle.script_convert.specs.declared.reader.ScriptReader.{ScriptReader}
use Rattle.script_convert.specs.declared.reader.ScriptReader.TheVariants.{Text, Binary}
use Rattle.store_model.specs.WholeUnits.{PassesEnd, whole_units_of}

-- why no unit is read where line k is not
abbrev pub end_of_line : ℕ → ReadEnd → UnitEnd
end_of_line k line.TooMany = Refused k reason.TooManyLines
end_of_line k line.TooLong = Refused k reason.LineTooLong
end_of_line k line.ReadFault = ReadFault

-- why no unit is read where record k is not
abbrev pub end_of_record : ℕ → BinEnd → UnitEnd
end_of_record k bin.TooMany = Refused k reason.TooManyLines
end_of_record k bin.Syntax = Refused k reason.Syntax
end_of_record k bin.Range = Refused k reason.Range
end_of_record k bin.ReadFault = ReadFault

-- the item can be said by a line, which may be blank
abbrev pub IsSaid : Item → Type 0
IsSaid Blank = ⊤
IsSaid item = HasLine item

abbrev pub HaveLines : List Item → Type 0
HaveLines [] = ⊤
HaveLines (item ∷ items) = HasLine item × HaveLines items

-- whether the script is binary
abbrev pub is_form : ScriptReader → Bool
is_form (Text reader) = false
is_form (Binary reader) = true

-- So many units were handed out, and the reader may be asked again.
abbrev pub MayReadLine : ReaderState → Option (List ℕ) → ℕ → Type 0
MayReadLine reader rest number = (reader.count ≡ number) × IsInStep reader rest

abbrev pub MayReadRecord : BinState → ℕ → Type 0
MayReadRecord reader number = (reader.count ≡ number) × (reader.ended ≡ false)

abbrev pub MayRead : ScriptReader → Option (List ℕ) → ℕ → Type 0
MayRead (Text reader) rest number = MayReadLine reader rest number
MayRead (Binary reader) rest number = MayReadRecord reader number

-- The lines of the script are these, and then those ahead.
abbrev pub LeadsOn : Option (List ℕ) → Option (List ℕ) → List (List ℕ) → Type 0
LeadsOn None rest lines = ⊤
LeadsOn (Some script) None lines = ⊥
LeadsOn (Some script) (Some rest) lines = lines_of script ≡ lines ++ lines_of rest

-- The lines of a text were handed out that say these units.
pub record HandedLines (script rest : Option (List ℕ)) (reader : ReaderState) (units : List Said) : Type 0 where
  pub lines : List (List ℕ)
  pub says : units ≡ map says_item (readings 1 lines)
  pub count : reader.count ≡ length lines
  pub text : IfSome script (λ bytes. begins_binary bytes ≡ false)
  pub leads : LeadsOn script (ahead reader rest) lines
  pub bytes : reader.ended ≡ false → Consumes script (ahead reader rest) (whole_text lines)
  pub whole : (more : List ℕ) → whole_lines_of (whole_text lines ++ more) ≡ lines ++ whole_lines_of more

-- The records of a binary script were handed out that say these units.
pub record HandedRecords (script rest : Option (List ℕ)) (reader : BinState) (units : List Said) : Type 0 where
  pub items : List Item
  pub says : units ≡ map (λ item. Ok (Some item)) items
  pub count : reader.count ≡ length items
  pub few : length items ≤ 16000000
  pub lines : HaveLines items
  pub taken : Consumes script (records_ahead reader rest) (binary_mark ++ items_records items)

-- The units of the script were handed out that say these.
abbrev pub HandedOut : Option (List ℕ) → Option (List ℕ) → ScriptReader → List Said → Type 0
HandedOut script rest (Text reader) units = HandedLines script rest reader units
HandedOut script rest (Binary reader) units = HandedRecords script rest reader units

-- Behind these units, or behind the end that follows them, unit k is refused for this reason.
pub record RefusesUnit (script : List ℕ) (units : List Said) (k : ℕ) (why : Reason) : Type 0 where
  pub front : List Said
  pub behind : List Said
  pub passes : PassesEnd units front
  pub units_are : units_of script ≡ front ++ Err why ∷ behind
  pub number : k ≡ length front + 1

-- These are the whole units of the bytes that were taken.
pub record BreaksOff (script : List ℕ) (rest : Option (List ℕ)) (units : List Said) : Type 0 where
  pub taken : List ℕ
  pub begins : Consumes (Some script) rest taken
  pub whole : whole_units_of taken ≡ units

-- What a call for the next unit did, by its answer, where these were handed out before. `handed` tells what was handed out after it.
abbrev pub ReadsUnit : Option (List ℕ) → Option (List ℕ) → (List Said → Type 0) → List Said → Result (Option Item) UnitEnd → Type 0
ReadsUnit script rest handed units (Ok (Some item)) = handed (units ++ Ok (Some item) ∷ [])
ReadsUnit script rest handed units (Ok None) = IfSome script (λ bytes. PassesEnd units (units_of bytes))
ReadsUnit script rest handed units (Err (Refused k why)) = IfSome script (λ bytes. RefusesUnit bytes units k why)
ReadsUnit script rest handed units (Err ReadFault) = IfSome script (λ bytes. BreaksOff bytes rest units)

-- A reader that handed out an item may be asked again, while there are no more than the greatest number of units. At the end no byte is left.
abbrev pub GoesOn : (ℕ → Type 0) → Option (List ℕ) → ℕ → Result (Option Item) UnitEnd → Type 0
GoesOn may rest number (Ok (Some item)) = IsSaid item × may (number + 1) × (number + 1 ≤ 16000000)
GoesOn may rest number (Ok None) = IsAtEnd rest
GoesOn may rest number (Err end) = ⊤

-- A fault is answered only where the count of faults rose.
pub record HasUnitCause {T : Type 0} (before now : ℕ) (result : Result T UnitEnd) : Type 0 where
  pub later : before ≤ now
  pub fault : IsErrOf result ReadFault → Rose before now
