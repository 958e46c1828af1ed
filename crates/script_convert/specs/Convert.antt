-- What a conversion left, by its answer.
use Rattle.std.specs.Prelude.{◌≡◌, ℕ, ◌+◌, ⊤, List, [], ◌∷◌, ◌++◌, ◌⊎◌, length, Bool, true, false, Option, Some, None, Result, Ok, Err}
use Rattle.std.specs.Io.KnownBytes.{Appends, Consumes, IsAtEnd, Keeps}
use Rattle.text_model.specs.declared.item.Item.{Item}
use Rattle.text_model.specs.declared.item.Item.TheVariants.{Blank}
use Rattle.text_model.specs.declared.item.Reason.{Reason}
use Rattle.text_model.specs.ItemText.{item_text}
use Rattle.text_model.specs.Binary.{begins_binary, binary_mark, item_record, end_record}
use Rattle.text_model.specs.Units.{Said, units_of}
use Rattle.script_convert.specs.declared.end.ConvertEnd.{ConvertEnd}
use Rattle.script_convert.specs.declared.end.ConvertEnd.TheVariants.{Malformed, ReadFault, WriteFault, OutOfMemory}
use Rattle.script_convert.specs.declared.reader.UnitEnd.{UnitEnd}
use Rattle.script_convert.specs.declared.reader.UnitEnd.TheVariants.{Refused, ReadFault as UnitFault}
use Rattle.script_convert.specs.Written.{WritesPart}
use Rattle.store_model.specs.WholeUnits.{AreSaid, whole_units_of}

-- how a conversion stops where a unit is not read
abbrev pub end_of_unit : UnitEnd → ConvertEnd
end_of_unit (Refused k why) = Malformed k why
end_of_unit UnitFault = ReadFault

-- the piece of an item in the other form, which is a line with its LF for an item of a binary script: a blank line has none
abbrev pub item_piece : Bool → Item → List ℕ
item_piece binary Blank = []
item_piece true item = item_text item ++ 10 ∷ []
item_piece false item = item_record item

-- the pieces of items, one after another
abbrev pub items_pieces : Bool → List Item → List ℕ
items_pieces binary [] = []
items_pieces binary (item ∷ items) = item_piece binary item ++ items_pieces binary items

-- what stands before the pieces, and what behind them, in the other form of a script that is binary or a text
abbrev pub front_piece : Bool → List ℕ
front_piece true = []
front_piece false = binary_mark

abbrev pub end_piece : Bool → List ℕ
end_piece true = []
end_piece false = end_record

-- the first items in the other form
abbrev pub first_form : Bool → List Item → List ℕ
first_form binary items = front_piece binary ++ items_pieces binary items

-- all of a script's items in the other form
abbrev pub other_form : Bool → List Item → List ℕ
other_form binary items = first_form binary items ++ end_piece binary

-- the items of the units before the first that is refused
abbrev pub items_said : List Said → List Item
items_said [] = []
items_said (Ok (Some item) ∷ units) = item ∷ items_said units
items_said (Ok None ∷ units) = items_said units
items_said (Err reason ∷ units) = []

-- The units of the script say items, of which none is refused, and these are written in the other form.
pub record ConvertsAll (script : List ℕ) (rest before written : Option (List ℕ)) : Type 0 where
  pub items : List Item
  pub said : AreSaid (units_of script) items
  pub at_end : IsAtEnd rest
  pub appended : Appends before written (other_form (begins_binary script) items)

-- These units say items, and they are written.
pub record Converted (binary : Bool) (units : List Said) (before written : Option (List ℕ)) : Type 0 where
  pub items : List Item
  pub said : AreSaid units items
  pub appended : Appends before written (first_form binary items)

-- Unit k is the first that is refused, and the units before it are written.
pub record StopsAt (script : List ℕ) (before written : Option (List ℕ)) (k : ℕ) (why : Reason) : Type 0 where
  pub front : List Said
  pub behind : List Said
  pub units : units_of script ≡ front ++ Err why ∷ behind
  pub number : k ≡ length front + 1
  pub converted : Converted (begins_binary script) front before written

-- The units are written, or where they say no item nothing is.
abbrev pub ConvertedOrNothing : Bool → List Said → Option (List ℕ) → Option (List ℕ) → Type 0
ConvertedOrNothing binary units before written = Converted binary units before written ⊎ (AreSaid units [] × Keeps before written)

-- The whole units of the bytes that were taken are written. None were taken where the file was not begun, as the counts of begun files tell.
pub record StopsReading (script : List ℕ) (begun begun_after : Option ℕ) (rest before written : Option (List ℕ)) : Type 0 where
  pub taken : List ℕ
  pub begins : ((begun_after ≡ begun) × (taken ≡ [])) ⊎ Consumes (Some script) rest taken
  pub converted : ConvertedOrNothing (begins_binary script) (whole_units_of taken) before written

-- Some first units are written.
pub record StopsSomewhere (script : List ℕ) (before written : Option (List ℕ)) : Type 0 where
  pub front : List Said
  pub behind : List Said
  pub units : units_of script ≡ front ++ behind
  pub converted : ConvertedOrNothing (begins_binary script) front before written

-- The pieces of these units are written, which say items.
pub record WritesUnits (binary : Bool) (units : List Said) (before written : Option (List ℕ)) : Type 0 where
  pub items : List Item
  pub said : AreSaid units items
  pub appended : Appends before written (items_pieces binary items)

-- The pieces of the units before the first that is refused are written, and this is unit k.
pub record StopsUnits (binary : Bool) (script : List ℕ) (before written : Option (List ℕ)) (k : ℕ) (why : Reason) : Type 0 where
  pub front : List Said
  pub behind : List Said
  pub units : units_of script ≡ front ++ Err why ∷ behind
  pub number : k ≡ length front + 1
  pub writes : WritesUnits binary front before written

-- The pieces of the whole units of the bytes that were taken are written.
pub record ReadsUnits (binary : Bool) (script : List ℕ) (rest before written : Option (List ℕ)) : Type 0 where
  pub taken : List ℕ
  pub begins : Consumes (Some script) rest taken
  pub writes : WritesUnits binary (whole_units_of taken) before written

-- The pieces of some first units are written.
pub record LeavesUnits (binary : Bool) (script : List ℕ) (before written : Option (List ℕ)) : Type 0 where
  pub front : List Said
  pub behind : List Said
  pub units : units_of script ≡ front ++ behind
  pub writes : WritesUnits binary front before written

-- What the pieces of units leave, by the answer.
abbrev pub ConvertsUnits : Bool → Option (List ℕ) → Option (List ℕ) → Option (List ℕ) → Option (List ℕ) → Result (Unit {0}) ConvertEnd → Type 0
ConvertsUnits binary None rest before written answer = ⊤
ConvertsUnits binary (Some script) rest before written (Ok done) = WritesUnits binary (units_of script) before written × IsAtEnd rest
ConvertsUnits binary (Some script) rest before written (Err (Malformed k why)) = StopsUnits binary script before written k why
ConvertsUnits binary (Some script) rest before written (Err ReadFault) = ReadsUnits binary script rest before written
ConvertsUnits binary (Some script) rest before written (Err WriteFault) = WritesPart before written (items_pieces binary (items_said (units_of script)))
ConvertsUnits binary (Some script) rest before written (Err OutOfMemory) = LeavesUnits binary script before written

-- What stands by the answer, where the bytes of the file are told. `begun` and `begun_after` count the files that were begun, and
-- `rest` is what is left of the file. A fault in writing cuts off what would be written of the units before the first that is refused.
abbrev pub Converts : Option (List ℕ) → Option ℕ → Option ℕ → Option (List ℕ) → Option (List ℕ) → Option (List ℕ) → Result (Unit {0}) ConvertEnd → Type 0
Converts None begun begun_after rest before written answer = ⊤
Converts (Some script) begun begun_after rest before written (Ok done) = ConvertsAll script rest before written
Converts (Some script) begun begun_after rest before written (Err (Malformed k why)) = StopsAt script before written k why
Converts (Some script) begun begun_after rest before written (Err ReadFault) = StopsReading script begun begun_after rest before written
Converts (Some script) begun begun_after rest before written (Err WriteFault) =
    WritesPart before written (other_form (begins_binary script) (items_said (units_of script)))
Converts (Some script) begun begun_after rest before written (Err OutOfMemory) = StopsSomewhere script before written

-- the same of a script whose form was told, so that the file was begun
abbrev pub ConvertsScript : Option (List ℕ) → Option (List ℕ) → Option (List ℕ) → Option (List ℕ) → Result (Unit {0}) ConvertEnd → Type 0
ConvertsScript script rest before written answer = (begun begun_after : Option ℕ) → Converts script begun begun_after rest before written answer
