-- Pieces written one after another, and how a conversion ends.
use Rattle.std.proofs.Common.{◌≡◌, ℕ, ◌+◌, ◌<◌, ◌≤◌, Bool, true, false, List, [], ◌∷◌, ◌++◌, length, map, Option, Some, None, Result, Ok, Err, refl, sym, ap, ◌∙◌, subst, arith, inl, inr, append_assoc, append-nil, length-append}
use Rattle.std.specs.Prelude.{⊤, IfSome}
use Rattle.std.specs.Io.KnownBytes.{Appends, Consumes, IsAtEnd, Keeps}
use Rattle.std.proofs.KnownBytes.{Appends-trans, Appends-nil, Appends-kept}
use Rattle.std.proofs.lemmas.List.{map-append}
use Rattle.text_model.specs.declared.item.Item.{Item}
use Rattle.text_model.specs.declared.item.Reason.{Reason}
use Rattle.text_model.specs.Units.{Said, units_of}
use Rattle.script_convert.specs.declared.end.ConvertEnd.{ConvertEnd}
use Rattle.script_convert.specs.declared.end.ConvertEnd.TheVariants.{Malformed, ReadFault, WriteFault, OutOfMemory}
use Rattle.script_convert.specs.declared.reader.UnitEnd.{UnitEnd}
use Rattle.script_convert.specs.declared.reader.UnitEnd.TheVariants.{Refused, ReadFault as UnitFault}
use Rattle.script_convert.specs.declared.reader.ScriptReader.{ScriptReader}
use Rattle.script_convert.specs.declared.reader.ScriptReader.TheVariants.{Text, Binary}
use Rattle.script_convert.specs.Written.{WritesPart, WritesItem}
use Rattle.store_model.specs.WholeUnits.{AreSaid, PassesEnd, items_in, whole_units_of}
use Rattle.script_convert.specs.Reader.{HandedOut, MayRead, RefusesUnit, BreaksOff, ReadsUnit}
use Rattle.script_convert.specs.Convert.{item_piece, items_pieces, items_said, WritesUnits, StopsUnits, ReadsUnits, LeavesUnits, ConvertsUnits, end_of_unit}
use Rattle.script_convert.proofs.LinesRead.{lines_lead, units_counted as lines_counted}
use Rattle.script_convert.proofs.RecordsRead.{records_lead, units_counted as records_counted}

-- said units
pub said_none : AreSaid [] []
said_none = record { said = []; units_are = refl; items_are = refl }

abbrev as_unit : Option Item → Said
as_unit item = Ok item

in-push : (said : List (Option Item)) (item : Item) → items_in said ++ item ∷ [] ≡ items_in (said ++ Some item ∷ [])
in-push [] item = refl
in-push (Some x ∷ said) item = ap (λ l. x ∷ l) (in-push said item)
in-push (None ∷ said) item = in-push said item

in-end : (said : List (Option Item)) → items_in said ≡ items_in (said ++ None ∷ [])
in-end [] = refl
in-end (Some x ∷ said) = ap (λ l. x ∷ l) (in-end said)
in-end (None ∷ said) = in-end said

pub said_push : (units : List Said) (items : List Item) (item : Item) → AreSaid units items → AreSaid (units ++ Ok (Some item) ∷ []) (items ++ item ∷ [])
said_push units items item are = record {
  said = are.said ++ Some item ∷ [];
  units_are = ap (λ l. l ++ Ok (Some item) ∷ []) are.units_are ∙ sym (map-append as_unit are.said (Some item ∷ []));
  items_are = ap (λ l. l ++ item ∷ []) are.items_are ∙ in-push are.said item;
}

-- the end says no item
pub said_passed : (units passed : List Said) (items : List Item) → AreSaid units items → PassesEnd units passed → AreSaid passed items
said_passed units passed items are (inl same) = rw same are
said_passed units passed items are (inr behind) = rw behind (record {
  said = are.said ++ None ∷ [];
  units_are = ap (λ l. l ++ Ok None ∷ []) are.units_are ∙ sym (map-append as_unit are.said (None ∷ []));
  items_are = are.items_are ∙ in-end are.said;
})

-- the items of units of which none is refused stand before those behind
said_front : (said : List (Option Item)) (behind : List Said) → items_said (map as_unit said ++ behind) ≡ items_in said ++ items_said behind
said_front [] behind = refl
said_front (Some item ∷ said) behind = ap (λ l. item ∷ l) (said_front said behind)
said_front (None ∷ said) behind = said_front said behind

pub items_front : (units behind : List Said) (items : List Item) → AreSaid units items → items_said (units ++ behind) ≡ items ++ items_said behind
items_front units behind items are =
    ap (λ l. items_said (l ++ behind)) are.units_are ∙ said_front are.said behind ∙ ap (λ l. l ++ items_said behind) (sym are.items_are)

pub pieces-append : (binary : Bool) (items more : List Item) → items_pieces binary (items ++ more) ≡ items_pieces binary items ++ items_pieces binary more
pieces-append binary [] more = refl
pieces-append binary (item ∷ items) more =
    ap (λ l. item_piece binary item ++ l) (pieces-append binary items more) ∙ sym (append_assoc (item_piece binary item) (items_pieces binary items) (items_pieces binary more))

-- a part of a piece is a part of the text in which it stands
pub part_within : (a b : Option (List ℕ)) (s t : List ℕ) → WritesPart a b s → WritesPart a b (s ++ t)
part_within a b s t w = record {
  part = w.part;
  rest = w.rest ++ t;
  piece_is = ap (λ l. l ++ t) w.piece_is ∙ append_assoc w.part w.rest t;
  some = omega (arith, w.some, length-append w.rest t);
  written = w.written;
}

pub part_behind : (a b c : Option (List ℕ)) (s t : List ℕ) → Appends a b s → WritesPart b c t → WritesPart a c (s ++ t)
part_behind a b c s t before w = record {
  part = s ++ w.part;
  rest = w.rest;
  piece_is = ap (λ l. s ++ l) w.piece_is ∙ sym (append_assoc s w.part w.rest);
  some = w.some;
  written = Appends-trans a b c s w.part before w.written;
}

-- the units that were handed out are written
pub record RunsOn (binary : Bool) (script rest : Option (List ℕ)) (reader : ScriptReader) (before written : Option (List ℕ)) : Type 0 where
  pub units : List Said
  pub handed : HandedOut script rest reader units
  pub items : List Item
  pub said : AreSaid units items
  pub appended : Appends before written (items_pieces binary items)

pub runs_from : (binary : Bool) (script rest : Option (List ℕ)) (reader : ScriptReader) (written : Option (List ℕ)) → HandedOut script rest reader []
    → RunsOn binary script rest reader written written
runs_from binary script rest reader written handed = record { units = []; handed = handed; items = []; said = said_none; appended = Appends-nil written }

-- one unit more
pub runs_on : (binary : Bool) (script rest rest_after : Option (List ℕ)) (reader new : ScriptReader) (before written after : Option (List ℕ)) (item : Item)
    → (run : RunsOn binary script rest reader before written) → HandedOut script rest_after new (run.units ++ Ok (Some item) ∷ [])
    → Appends written after (item_piece binary item) → RunsOn binary script rest_after new before after
runs_on binary script rest rest_after reader new before written after item run handed appended =
    let P : List ℕ → Type 0 = Appends before after in
    record {
      units = run.units ++ Ok (Some item) ∷ [];
      handed = handed;
      items = run.items ++ item ∷ [];
      said = said_push run.units run.items item run.said;
      appended = subst P (ap (λ l. items_pieces binary run.items ++ l) (sym (append-nil (item_piece binary item))) ∙ sym (pieces-append binary run.items (item ∷ [])))
          (Appends-trans before written after (items_pieces binary run.items) (item_piece binary item) run.appended appended);
    }

writes_now : (binary : Bool) (script rest : Option (List ℕ)) (reader : ScriptReader) (before written : Option (List ℕ)) (passed : List Said)
    → (run : RunsOn binary script rest reader before written) → PassesEnd run.units passed → WritesUnits binary passed before written
writes_now binary script rest reader before written passed run passes =
    record { items = run.items; said = said_passed run.units passed run.items run.said passes; appended = run.appended }

-- the end
pub units_done : (binary : Bool) (script rest rest_after : Option (List ℕ)) (reader : ScriptReader) (before written : Option (List ℕ))
    → (run : RunsOn binary script rest reader before written) → IfSome script (λ bytes. PassesEnd run.units (units_of bytes)) → IsAtEnd rest_after
    → ConvertsUnits binary script rest_after before written (Ok tt)
units_done binary None rest rest_after reader before written run passes end = tt
units_done binary (Some script) rest rest_after reader before written run passes end =
    (writes_now binary (Some script) rest reader before written (units_of script) run passes, end)

-- a unit is refused
pub units_refused : (binary : Bool) (script rest rest_after : Option (List ℕ)) (reader : ScriptReader) (before written : Option (List ℕ)) (k : ℕ) (why : Reason)
    → (run : RunsOn binary script rest reader before written) → IfSome script (λ bytes. RefusesUnit bytes run.units k why)
    → ConvertsUnits binary script rest_after before written (Err (Malformed k why))
units_refused binary None rest rest_after reader before written k why run refuses = tt
units_refused binary (Some script) rest rest_after reader before written k why run refuses = record {
  front = refuses.front;
  behind = refuses.behind;
  units = refuses.units_are;
  number = refuses.number;
  writes = writes_now binary (Some script) rest reader before written refuses.front run refuses.passes;
}

-- a read failed
pub units_broken : (binary : Bool) (script rest rest_after : Option (List ℕ)) (reader : ScriptReader) (before written : Option (List ℕ))
    → (run : RunsOn binary script rest reader before written) → IfSome script (λ bytes. BreaksOff bytes rest_after run.units)
    → ConvertsUnits binary script rest_after before written (Err ReadFault)
units_broken binary None rest rest_after reader before written run broken = tt
units_broken binary (Some script) rest rest_after reader before written run broken = record {
  taken = broken.taken;
  begins = broken.begins;
  writes = writes_now binary (Some script) rest reader before written (whole_units_of broken.taken) run (inl broken.whole);
}

cut_by : (binary : Bool) (script : List ℕ) (rest_after before written after : Option (List ℕ)) (units behind : List Said) (items : List Item) (item : Item) (end : ConvertEnd)
    → AreSaid units items → Appends before written (items_pieces binary items) → units_of script ≡ (units ++ Ok (Some item) ∷ []) ++ behind
    → WritesItem written after (item_piece binary item) (Err end) → ConvertsUnits binary (Some script) rest_after before after (Err end)
cut_by binary script rest_after before written after units behind items item (Malformed k why) are appended leads writes = absurd writes
cut_by binary script rest_after before written after units behind items item ReadFault are appended leads writes = absurd writes
cut_by binary script rest_after before written after units behind items item WriteFault are appended leads writes =
    let P : List ℕ → Type 0 = WritesPart before after in
    let same : items_pieces binary (items_said (units_of script)) ≡ items_pieces binary items ++ (item_piece binary item ++ items_pieces binary (items_said behind)) =
    ap (λ l. items_pieces binary (items_said l)) leads
    ∙ ap (items_pieces binary) (items_front (units ++ Ok (Some item) ∷ []) behind (items ++ item ∷ []) (said_push units items item are)
    ∙ append_assoc items (item ∷ []) (items_said behind))
    ∙ pieces-append binary items (item ∷ items_said behind) in
    subst P (sym same) (part_behind before written after (items_pieces binary items) (item_piece binary item ++ items_pieces binary (items_said behind)) appended
    (part_within written after (item_piece binary item) (items_pieces binary (items_said behind)) writes))
cut_by binary script rest_after before written after units behind items item OutOfMemory are appended leads writes =
    record {
      front = units;
      behind = Ok (Some item) ∷ behind;
      units = leads ∙ append_assoc units (Ok (Some item) ∷ []) behind;
      writes = record { items = items; said = are; appended = Appends-kept before written after (items_pieces binary items) appended writes };
    }

-- the units that were handed out stand at the front of those of the script
pub handed_lead : (script : List ℕ) (rest : Option (List ℕ)) (reader : ScriptReader) (units : List Said) → HandedOut (Some script) rest reader units
    → (behind : List Said) × (units_of script ≡ units ++ behind)
handed_lead script rest (Text reader) units handed = lines_lead script rest reader units handed
handed_lead script rest (Binary reader) units handed = records_lead script rest reader units handed

-- an item was not written whole
pub units_cut : (binary : Bool) (script rest rest_after : Option (List ℕ)) (reader new : ScriptReader) (before written after : Option (List ℕ)) (item : Item) (end : ConvertEnd)
    → (run : RunsOn binary script rest reader before written) → HandedOut script rest_after new (run.units ++ Ok (Some item) ∷ [])
    → WritesItem written after (item_piece binary item) (Err end) → ConvertsUnits binary script rest_after before after (Err end)
units_cut binary None rest rest_after reader new before written after item end run handed writes = tt
units_cut binary (Some script) rest rest_after reader new before written after item end run handed writes =
    let behind = handed_lead script rest_after new (run.units ++ Ok (Some item) ∷ []) handed in
    cut_by binary script rest_after before written after run.units behind.0 run.items item end run.said run.appended behind.1 writes

-- a unit is not read
pub units_end : (binary : Bool) (script rest rest_after : Option (List ℕ)) (reader : ScriptReader) (before written : Option (List ℕ)) (handed_after : List Said → Type 0)
    (end : UnitEnd) (answer : ConvertEnd) → (run : RunsOn binary script rest reader before written) → ReadsUnit script rest_after handed_after run.units (Err end)
    → answer ≡ end_of_unit end → ConvertsUnits binary script rest_after before written (Err answer)
units_end binary script rest rest_after reader before written handed_after (Refused k why) answer run reads is =
    rw is (units_refused binary script rest rest_after reader before written k why run reads)
units_end binary script rest rest_after reader before written handed_after UnitFault answer run reads is =
    rw is (units_broken binary script rest rest_after reader before written run reads)

-- so many units were handed out
pub handed_count : (script rest : Option (List ℕ)) (reader : ScriptReader) (number : ℕ) (units : List Said) → HandedOut script rest reader units
    → MayRead reader rest number → number ≡ length units
handed_count script rest (Text reader) number units handed may = sym may.0 ∙ handed.count ∙ sym (lines_counted units handed.lines handed.says)
handed_count script rest (Binary reader) number units handed may = sym may.0 ∙ handed.count ∙ sym (records_counted units handed.items handed.says)
