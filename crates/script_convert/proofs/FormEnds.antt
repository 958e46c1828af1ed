-- How a conversion ends: its front, its pieces and its end.
use Rattle.std.proofs.Common.{◌≡◌, ℕ, ◌<◌, Bool, true, false, List, [], ◌∷◌, ◌++◌, length, Option, Some, None, Result, Ok, Err, refl, sym, ap, ◌∙◌, subst, arith, inl, inr, append-nil}
use Rattle.std.specs.Io.KnownBytes.{Appends, Consumes, Keeps, IsAtEnd}
use Rattle.std.proofs.KnownBytes.{Appends-trans, Appends-nil, Keeps-refl}
use Rattle.text_model.specs.declared.item.Item.{Item}
use Rattle.text_model.specs.Binary.{begins_binary, binary_mark, items_records, end_record}
use Rattle.text_model.specs.Units.{Said, units_of}
use Rattle.script_text.specs.Mark.{BreaksMark}
use Rattle.script_convert.specs.declared.end.ConvertEnd.{ConvertEnd}
use Rattle.script_convert.specs.declared.end.ConvertEnd.TheVariants.{Malformed, ReadFault, WriteFault, OutOfMemory}
use Rattle.script_convert.specs.declared.reader.ScriptReader.{ScriptReader}
use Rattle.script_convert.specs.declared.reader.ScriptReader.TheVariants.{Text, Binary}
use Rattle.script_convert.specs.Written.{WritesPart}
use Rattle.store_model.specs.WholeUnits.{AreSaid, whole_units_of}
use Rattle.script_convert.specs.Reader.{HandedOut, is_form}
use Rattle.script_convert.specs.Convert.{items_pieces, front_piece, end_piece, first_form, other_form, items_said, Converted, WritesUnits, ConvertsUnits, Converts, ConvertsScript}
use Rattle.script_convert.proofs.FormLaws.{said_none, items_front, part_within, part_behind}

begins_marked : (script : List ℕ) (here : Option (List ℕ)) (bytes : List ℕ) → Consumes (Some script) here (binary_mark ++ bytes) → begins_binary script ≡ true
begins_marked script None bytes taken = absurd taken
begins_marked script (Some xs) bytes taken = ap begins_binary taken

-- the reader's form is the script's
pub form_is : (script : List ℕ) (rest : Option (List ℕ)) (reader : ScriptReader) (units : List Said) → HandedOut (Some script) rest reader units
    → begins_binary script ≡ is_form reader
form_is script rest (Text reader) units handed = handed.text
form_is script rest (Binary reader) units handed = begins_marked script _ (items_records handed.items) handed.taken

converted : (binary : Bool) (units : List Said) (before mid written : Option (List ℕ)) → Appends before mid (front_piece binary)
    → WritesUnits binary units mid written → Converted binary units before written
converted binary units before mid written front writes = record {
  items = writes.items;
  said = writes.said;
  appended = Appends-trans before mid written (front_piece binary) (items_pieces binary writes.items) front writes.appended;
}

-- all of a script is written
form_done : (binary : Bool) (script : List ℕ) (begun begun_after : Option ℕ) (rest before mid last written : Option (List ℕ)) → begins_binary script ≡ binary
    → Appends before mid (front_piece binary) → ConvertsUnits binary (Some script) rest mid last (Ok tt) → Appends last written (end_piece binary)
    → Converts (Some script) begun begun_after rest before written (Ok tt)
form_done binary script begun begun_after rest before mid last written form front units end =
    let first = converted binary (units_of script) before mid last front units.0 in
    record {
      items = first.items;
      said = first.said;
      at_end = units.1;
      appended = subst (λ b. Appends before written (other_form b first.items)) (sym form)
          (Appends-trans before last written (first_form binary first.items) (end_piece binary) first.appended end);
    }

-- a conversion stops within the pieces
form_stops : (binary : Bool) (script : List ℕ) (begun begun_after : Option ℕ) (rest before mid written : Option (List ℕ)) (end : ConvertEnd) → begins_binary script ≡ binary
    → Appends before mid (front_piece binary) → ConvertsUnits binary (Some script) rest mid written (Err end)
    → Converts (Some script) begun begun_after rest before written (Err end)
form_stops binary script begun begun_after rest before mid written (Malformed k why) form front units = record {
  front = units.front;
  behind = units.behind;
  units = units.units;
  number = units.number;
  converted = rw form (converted binary units.front before mid written front units.writes);
}
form_stops binary script begun begun_after rest before mid written ReadFault form front units = record {
  taken = units.taken;
  begins = inr units.begins;
  converted = rw form (inl (converted binary (whole_units_of units.taken) before mid written front units.writes));
}
form_stops binary script begun begun_after rest before mid written WriteFault form front units =
    let items = items_said (units_of script) in
    subst (λ b. WritesPart before written (other_form b items)) (sym form)
    (part_within before written (first_form binary items) (end_piece binary) (part_behind before mid written (front_piece binary) (items_pieces binary items) front units))
form_stops binary script begun begun_after rest before mid written OutOfMemory form front units = record {
  front = units.front;
  behind = units.behind;
  units = units.units;
  converted = rw form (inl (converted binary units.front before mid written front units.writes));
}

all_said : (units : List Said) (items : List Item) → AreSaid units items → items_said units ≡ items
all_said units items are = ap items_said (sym (append-nil units)) ∙ items_front units [] items are ∙ append-nil items

-- the end record is not written whole
form_unended : (script : List ℕ) (begun begun_after : Option ℕ) (rest before mid last written : Option (List ℕ)) → begins_binary script ≡ false
    → Appends before mid binary_mark → ConvertsUnits false (Some script) rest mid last (Ok tt) → WritesPart last written end_record
    → Converts (Some script) begun begun_after rest before written (Err WriteFault)
form_unended script begun begun_after rest before mid last written form front units cut =
    let first = converted false (units_of script) before mid last front units.0 in
    let P : List Item → Type 0 = λ items. WritesPart before written (other_form false items) in
    subst (λ b. WritesPart before written (other_form b (items_said (units_of script)))) (sym form)
    (subst P (sym (all_said (units_of script) first.items first.said))
    (part_behind before last written (first_form false first.items) end_record first.appended cut))

-- a binary script, by its pieces
pub ends_binary : (script rest0 rest before written : Option (List ℕ)) (reader : ScriptReader) (answer : Result (Unit {0}) ConvertEnd)
    → HandedOut script rest0 reader [] → is_form reader ≡ true → ConvertsUnits true script rest before written answer
    → ConvertsScript script rest before written answer
ends_binary None rest0 rest before written reader answer handed form units = λ begun begun_after. tt
ends_binary (Some script) rest0 rest before written reader (Ok done) handed form units = λ begun begun_after.
    form_done true script begun begun_after rest before before written written (form_is script rest0 reader [] handed ∙ form) (Appends-nil before) units (Appends-nil written)
ends_binary (Some script) rest0 rest before written reader (Err end) handed form units = λ begun begun_after.
    form_stops true script begun begun_after rest before before written end (form_is script rest0 reader [] handed ∙ form) (Appends-nil before) units

-- a text, of which the mark is not written whole
pub ends_unmarked : (script rest0 rest before written : Option (List ℕ)) (reader : ScriptReader) → HandedOut script rest0 reader [] → is_form reader ≡ false
    → WritesPart before written binary_mark → ConvertsScript script rest before written (Err WriteFault)
ends_unmarked None rest0 rest before written reader handed form cut = λ begun begun_after. tt
ends_unmarked (Some script) rest0 rest before written reader handed form cut = λ begun begun_after.
    let items = items_said (units_of script) in
    subst (λ b. WritesPart before written (other_form b items)) (sym (form_is script rest0 reader [] handed ∙ form))
    (part_within before written (first_form false items) end_record
    (part_within before written binary_mark (items_pieces false items) cut))

-- a text, of which the pieces are not written whole
pub ends_pieces : (script rest0 rest before mid written : Option (List ℕ)) (reader : ScriptReader) (end : ConvertEnd) → HandedOut script rest0 reader []
    → is_form reader ≡ false → Appends before mid binary_mark → ConvertsUnits false script rest mid written (Err end)
    → ConvertsScript script rest before written (Err end)
ends_pieces None rest0 rest before mid written reader end handed form front units = λ begun begun_after. tt
ends_pieces (Some script) rest0 rest before mid written reader end handed form front units = λ begun begun_after.
    form_stops false script begun begun_after rest before mid written end (form_is script rest0 reader [] handed ∙ form) front units

-- a text, of which all is written
pub ends_text : (script rest0 rest before mid last written : Option (List ℕ)) (reader : ScriptReader) → HandedOut script rest0 reader []
    → is_form reader ≡ false → Appends before mid binary_mark → ConvertsUnits false script rest mid last (Ok tt) → Appends last written end_record
    → ConvertsScript script rest before written (Ok tt)
ends_text None rest0 rest before mid last written reader handed form front units end = λ begun begun_after. tt
ends_text (Some script) rest0 rest before mid last written reader handed form front units end = λ begun begun_after.
    form_done false script begun begun_after rest before mid last written (form_is script rest0 reader [] handed ∙ form) front units end

-- a text, of which the end record is not written whole
pub ends_unended : (script rest0 rest before mid last written : Option (List ℕ)) (reader : ScriptReader) → HandedOut script rest0 reader []
    → is_form reader ≡ false → Appends before mid binary_mark → ConvertsUnits false script rest mid last (Ok tt) → WritesPart last written end_record
    → ConvertsScript script rest before written (Err WriteFault)
ends_unended None rest0 rest before mid last written reader handed form front units cut = λ begun begun_after. tt
ends_unended (Some script) rest0 rest before mid last written reader handed form front units cut = λ begun begun_after.
    form_unended script begun begun_after rest before mid last written (form_is script rest0 reader [] handed ∙ form) front units cut

-- the file was not begun
pub ends_unbegun : (script : Option (List ℕ)) (begun begun_after : Option ℕ) (rest written : Option (List ℕ)) → begun_after ≡ begun
    → Converts script begun begun_after rest written written (Err ReadFault)
ends_unbegun None begun begun_after rest written same = tt
ends_unbegun (Some script) begun begun_after rest written same = record { taken = []; begins = inl (same, refl); converted = inr (said_none, Keeps-refl written) }

-- there was no memory
pub ends_unread : (script : Option (List ℕ)) (begun begun_after : Option ℕ) (rest written : Option (List ℕ)) (answer : Result (Unit {0}) ConvertEnd)
    → answer ≡ Err OutOfMemory → Converts script begun begun_after rest written written answer
ends_unread None begun begun_after rest written answer is = tt
ends_unread (Some script) begun begun_after rest written answer is =
    rw is (record { front = []; behind = units_of script; units = refl; converted = inr (said_none, Keeps-refl written) })

-- no unit is whole in a part of the mark
mark_part : (part behind : List ℕ) → binary_mark ≡ part ++ behind → length part < 4 → whole_units_of part ≡ []
mark_part [] behind is short = refl
mark_part (a ∷ []) behind is short = let first : a ≡ 80 = cc in rw first refl
mark_part (a ∷ b ∷ []) behind is short = let first : a ≡ 80 = cc in let second : b ≡ 71 = cc in rw (first, second) refl
mark_part (a ∷ b ∷ c ∷ []) behind is short =
    let first : a ≡ 80 = cc in let second : b ≡ 71 = cc in let third : c ≡ 72 = cc in rw (first, second, third) refl
mark_part (a ∷ b ∷ c ∷ d ∷ part) behind is short = absurd (omega (arith, short))

pub whole_of_mark : (before rest : Option (List ℕ)) (broken : BreaksMark before rest) → whole_units_of broken.part ≡ []
whole_of_mark before rest broken = mark_part broken.part broken.behind broken.of_mark broken.short

-- a read failed within the mark
pub ends_marking : (script begun_rest : Option (List ℕ)) (begun begun_after : Option ℕ) (rest written : Option (List ℕ)) → begun_rest ≡ script
    → BreaksMark begun_rest rest → Converts script begun begun_after rest written written (Err ReadFault)
ends_marking None begun_rest begun begun_after rest written same broken = tt
ends_marking (Some script) begun_rest begun begun_after rest written same broken = record {
  taken = broken.part;
  begins = inr (subst (λ before. Consumes before rest broken.part) same broken.taken);
  converted = inr (subst (λ units. AreSaid units []) (sym (whole_of_mark begun_rest rest broken)) said_none, Keeps-refl written);
}
