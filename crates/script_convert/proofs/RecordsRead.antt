-- Records that were handed out, and what they say.
use Rattle.std.proofs.Common.{◌≡◌, ℕ, zero, suc, ◌+◌, ◌-◌, ◌<◌, ◌≤◌, ◌^◌, Bool, true, false, List, [], ◌∷◌, ◌++◌, length, map, drop, Option, Some, None, Result, Ok, Err, refl, sym, ap, ◌∙◌, subst, arith, inl, inr, append_assoc, append-nil, length-append}
use Rattle.std.specs.Prelude.{⊤, ◌==◌, IfSome, All, nat_lt}
use Rattle.std.specs.Io.KnownBytes.{Consumes, IsAtEnd, prepend_known}
use Rattle.std.proofs.KnownBytes.{Consumes-trans}
use Rattle.std.proofs.lemmas.Bool.{cases_Bool, ne_eqb, le-ltb}
use Rattle.text_model.specs.declared.item.Item.{Item}
use Rattle.text_model.specs.declared.item.Item.TheVariants.{Blank, Setting, TypeDef, Command as CommandItem}
use Rattle.text_model.specs.declared.item.BadLine.TheVariants as bad
use Rattle.text_model.specs.declared.item.Reason.{Reason}
use Rattle.text_model.specs.declared.item.Reason.TheVariants as reason
use Rattle.text_model.specs.ItemLine.{HasLine}
use Rattle.text_model.specs.Binary.{begins_binary, binary_mark, item_record, items_records, end_record, item_fields, numbers_bytes}
use Rattle.text_model.specs.BinaryReading.{count_of, body_at, record_at, unit_at}
use Rattle.text_model.specs.Units.{Said, records_said, units_of}
use Rattle.script_binary.specs.declared.end.BinEnd.{BinEnd}
use Rattle.script_binary.specs.declared.end.BinEnd.TheVariants.{TooMany, Syntax, Range, ReadFault as BinFault}
use Rattle.script_binary.specs.Reader.{BinState, ahead, HandsOut, Reads, SaysNothing, GoesOn, IsMalformed, Stays, unit_number}
use Rattle.script_binary.specs.Taking.{BreaksOff as BinBreaks}
use Rattle.script_binary.proofs.Again.{record_again}
use Rattle.script_convert.specs.declared.reader.UnitEnd.{UnitEnd}
use Rattle.store_model.specs.WholeUnits.{PassesEnd, whole_records, whole_units_of}
use Rattle.script_convert.specs.Reader.{IsSaid, HaveLines, MayReadRecord, HandedRecords, RefusesUnit, BreaksOff, ReadsUnit, GoesOn as UnitGoesOn, end_of_record}
use Rattle.script_convert.proofs.LinesRead.{rest_at_end}
use Rattle.script_convert.proofs.WordLaws.{words_fit}

-- no item has the tag of the end
end_no_item : (tag : ℕ) (bytes rest : List ℕ) (item : Item) → tag ≡ 0 → body_at tag bytes ≡ Ok (item, rest) → ⊥
unfolding body_at count_of
end_no_item tag bytes rest item none is = cc (rw none at is)

-- the unit of a record is its item
unit_of : (k : ℕ) (bytes rest : List ℕ) (item : Item) → k ≤ 16000000 → record_at bytes ≡ Ok (item, rest) → unit_at k bytes ≡ Ok (Some item, rest)
unit_of k [] rest item few is = cc
unit_of k (tag ∷ bytes) rest item few is =
    rw (ne_eqb tag 0 (λ none. end_no_item tag bytes rest item none is), le-ltb 16000000 k few, is) refl

unit_again : (k : ℕ) (item : Item) (rest : List ℕ) → k ≤ 16000000 → HasLine item → unit_at k (item_record item ++ rest) ≡ Ok (Some item, rest)
unit_again k item rest few has = unit_of k (item_record item ++ rest) rest item few (record_again item has (words_fit item has) rest)

abbrev as_said : Item → Said
as_said item = Ok (Some item)

said_step : (n k : ℕ) (bytes rest : List ℕ) (item : Item) → unit_at k bytes ≡ Ok (Some item, rest)
    → records_said (suc n) k bytes ≡ Ok (Some item) ∷ records_said n (k + 1) rest
unfolding records_said
said_step n k bytes rest item is = rw is refl

whole_step : (n k : ℕ) (bytes rest : List ℕ) (item : Item) → unit_at k bytes ≡ Ok (Some item, rest)
    → whole_records (suc n) k bytes ≡ Ok (Some item) ∷ whole_records n (k + 1) rest
unfolding whole_records
whole_step n k bytes rest item is = rw is refl

-- a number that is greater by as many as there are items
abbrev beyond : List Item → ℕ → ℕ
beyond [] n = n
beyond (item ∷ items) n = suc (beyond items n)

beyond_is : (items : List Item) (n : ℕ) → beyond items n ≡ length items + n
beyond_is [] n = omega arith
beyond_is (item ∷ items) n = omega (arith, beyond_is items n)

-- the units of records, and then those of what stands behind
said_front : (items : List Item) (n k : ℕ) (rest : List ℕ) → HaveLines items → k + length items ≤ 16000001
    → records_said (beyond items n) k (items_records items ++ rest) ≡ map as_said items ++ records_said n (k + length items) rest
said_front [] n k rest have few = ap (λ j. records_said n j rest) (let e : k ≡ k + 0 = omega arith in e)
said_front (item ∷ items) n k rest have few =
    let here : k ≤ 16000000 = omega (arith, few) in
    ap (records_said (suc (beyond items n)) k) (append_assoc (item_record item) (items_records items) rest)
    ∙ said_step (beyond items n) k (item_record item ++ (items_records items ++ rest)) (items_records items ++ rest) item
    (unit_again k item (items_records items ++ rest) here have.0)
    ∙ ap (λ more. Ok (Some item) ∷ more) (said_front items n (k + 1) rest have.1 (omega (arith, few))
    ∙ ap (λ j. map as_said items ++ records_said n j rest) (let e : (k + 1) + length items ≡ k + length (item ∷ items) = omega arith in e))

whole_front : (items : List Item) (n k : ℕ) (rest : List ℕ) → HaveLines items → k + length items ≤ 16000001
    → whole_records (beyond items n) k (items_records items ++ rest) ≡ map as_said items ++ whole_records n (k + length items) rest
whole_front [] n k rest have few = ap (λ j. whole_records n j rest) (let e : k ≡ k + 0 = omega arith in e)
whole_front (item ∷ items) n k rest have few =
    let here : k ≤ 16000000 = omega (arith, few) in
    ap (whole_records (suc (beyond items n)) k) (append_assoc (item_record item) (items_records items) rest)
    ∙ whole_step (beyond items n) k (item_record item ++ (items_records items ++ rest)) (items_records items ++ rest) item
    (unit_again k item (items_records items ++ rest) here have.0)
    ∙ ap (λ more. Ok (Some item) ∷ more) (whole_front items n (k + 1) rest have.1 (omega (arith, few))
    ∙ ap (λ j. map as_said items ++ whole_records n j rest) (let e : (k + 1) + length items ≡ k + length (item ∷ items) = omega arith in e))

-- each record has a byte
some_bytes : (items : List Item) → length items ≤ length (items_records items)
some_bytes [] = omega arith
some_bytes (item ∷ items) = omega (arith, length-append (item_record item) (items_records items), some_bytes items)

-- Behind these records the bytes leave room for one unit more.
room : (items : List Item) (rest : List ℕ) → (n : ℕ) × (length ((binary_mark ++ items_records items) ++ rest) ≡ beyond items (suc n))
room items rest =
    let long = some_bytes items in (
      length ((binary_mark ++ items_records items) ++ rest) - length items - 1,
      omega (
        arith,
        long,
        length-append (binary_mark ++ items_records items) rest,
        length-append binary_mark (items_records items),
        beyond_is items (suc (length ((binary_mark ++ items_records items) ++ rest) - length items - 1)),
      ),
    )

-- the units of a script that begins with these records
units_behind : (script rest : List ℕ) (items : List Item) → script ≡ (binary_mark ++ items_records items) ++ rest → HaveLines items
    → length items ≤ 16000000 → (n : ℕ) × (units_of script ≡ map as_said items ++ records_said (suc n) (length items + 1) rest)
units_behind script rest items is have few =
    let n = room items rest in (
      n.0,
      ap units_of is
          ∙ ap (λ m. records_said m 1 (items_records items ++ rest)) n.1
          ∙ said_front items (suc n.0) 1 rest have (omega (arith, few))
          ∙ ap (λ k. map as_said items ++ records_said (suc n.0) k rest) (let e : 1 + length items ≡ length items + 1 = omega arith in e),
    )

-- one record more
lines-push : (items : List Item) (item : Item) → HaveLines items → HasLine item → HaveLines (items ++ item ∷ [])
lines-push [] item have has = (has, tt)
lines-push (x ∷ items) item have has = (have.0, lines-push items item have.1 has)

records-push : (items : List Item) (item : Item) → items_records (items ++ item ∷ []) ≡ items_records items ++ item_record item
records-push [] item = append-nil (item_record item)
records-push (x ∷ items) item =
    ap (λ l. item_record x ++ l) (records-push items item) ∙ sym (append_assoc (item_record x) (items_records items) (item_record item))

said-push : (items : List Item) (item : Item) → map as_said items ++ Ok (Some item) ∷ [] ≡ map as_said (items ++ item ∷ [])
said-push [] item = refl
said-push (x ∷ items) item = ap (λ l. Ok (Some x) ∷ l) (said-push items item)

pub record_on : (script rest rest_after : Option (List ℕ)) (reader new : BinState) (units : List Said) (item : Item)
    → HandedRecords script rest reader units → HandsOut reader new (ahead reader rest) (ahead new rest_after) item
    → HandedRecords script rest_after new (units ++ Ok (Some item) ∷ [])
record_on script rest rest_after reader new units item handed hands =
    let P : List ℕ → Type 0 = Consumes script (ahead new rest_after) in
    let counted : new.count ≡ length (handed.items ++ item ∷ []) =
    hands.count ∙ ap (λ n. n + 1) handed.count ∙ sym (length-append handed.items (item ∷ [])) in
    record {
      items = handed.items ++ item ∷ [];
      says = ap (λ l. l ++ Ok (Some item) ∷ []) handed.says ∙ said-push handed.items item;
      count = counted;
      few = omega (arith, hands.number, counted);
      lines = lines-push handed.items item handed.lines hands.has_line;
      taken = subst P (append_assoc binary_mark (items_records handed.items) (item_record item) ∙ ap (λ l. binary_mark ++ l) (sym (records-push handed.items item)))
          (Consumes-trans script (ahead reader rest) (ahead new rest_after) (binary_mark ++ items_records handed.items) (item_record item) handed.taken hands.taken);
    }

-- the beginning of a binary script
pub records_from : (script rest : Option (List ℕ)) (reader : BinState) → reader.count ≡ 0 → Consumes script (ahead reader rest) binary_mark
    → HandedRecords script rest reader []
records_from script rest reader none taken = record { items = []; says = refl; count = none; few = omega arith; lines = tt; taken = taken }

map-length : (items : List Item) → length (map as_said items) ≡ length items
map-length [] = refl
map-length (item ∷ items) = ap suc (map-length items)

said_end : (n k : ℕ) → records_said (suc n) k end_record ≡ Ok None ∷ []
unfolding records_said
said_end n k = refl

said_goes_on : (n k byte : ℕ) (rest : List ℕ) → records_said (suc n) k (end_record ++ byte ∷ rest) ≡ Ok None ∷ Err reason.Syntax ∷ []
unfolding records_said
said_goes_on n k byte rest = refl

said_refused : (n k : ℕ) (bytes : List ℕ) (why : Reason) → unit_at k bytes ≡ Err why → records_said (suc n) k bytes ≡ Err why ∷ []
unfolding records_said
said_refused n k bytes why is = rw is refl

-- what comes behind the records that were handed out
ended : (script : List ℕ) (here there : Option (List ℕ)) (units : List Said) (items : List Item) → units ≡ map as_said items
    → Consumes (Some script) here (binary_mark ++ items_records items) → HaveLines items → length items ≤ 16000000
    → Consumes here there end_record → IsAtEnd there → PassesEnd units (units_of script)
ended script None there units items says taken lines few next end = absurd taken
ended script (Some xs) None units items says taken lines few next end = absurd next
ended script (Some xs) (Some ys) units items says taken lines few next end =
    let behind = units_behind script xs items taken lines few in
    inr (behind.1 ∙ ap (λ l. map as_said items ++ records_said (suc behind.0) (length items + 1) l) (next ∙ ap (λ l. end_record ++ l) end)
    ∙ ap (λ l. map as_said items ++ l) (said_end behind.0 (length items + 1)) ∙ ap (λ l. l ++ Ok None ∷ []) (sym says))

-- the end
pub records_end : (script rest rest_after : Option (List ℕ)) (reader new : BinState) (units : List Said) → HandedRecords script rest reader units
    → Reads reader new rest rest_after (Ok None) → IfSome script (λ bytes. PassesEnd units (units_of bytes))
records_end None rest rest_after reader new units handed reads = tt
records_end (Some script) rest rest_after reader new units handed reads =
    ended script (ahead reader rest) (ahead new rest_after) units handed.items handed.says handed.taken handed.lines handed.few reads.0 reads.1

-- as many units as items
pub units_counted : (units : List Said) (items : List Item) → units ≡ map as_said items → length units ≡ length items
units_counted units items says = ap length says ∙ map-length items

refused_here : (script : List ℕ) (rest : Option (List ℕ)) (reader : BinState) (units : List Said) (why : Reason) (here : Option (List ℕ))
    → (handed : HandedRecords (Some script) rest reader units) → here ≡ ahead reader rest → SaysNothing reader here why → RefusesUnit script units (reader.count + 1) why
refused_here script rest reader units why None handed is says = absurd (subst (λ h. Consumes (Some script) h (binary_mark ++ items_records handed.items)) (sym is) handed.taken)
refused_here script rest reader units why (Some xs) handed is says =
    let taken = subst (λ h. Consumes (Some script) h (binary_mark ++ items_records handed.items)) (sym is) handed.taken in
    let behind = units_behind script xs handed.items taken handed.lines handed.few in
    let number : length handed.items + 1 ≡ reader.count + 1 = ap (λ n. n + 1) (sym handed.count) in
    record {
      front = units;
      behind = [];
      passes = inl refl;
      units_are = behind.1 ∙ ap (λ l. map as_said handed.items ++ l)
          (said_refused behind.0 (length handed.items + 1) xs why (ap (λ k. unit_at k xs) number ∙ says))
          ∙ ap (λ l. l ++ Err why ∷ []) (sym handed.says);
      number = ap (λ n. n + 1) (handed.count ∙ sym (units_counted units handed.items handed.says));
    }

refused_behind : (script : List ℕ) (rest : Option (List ℕ)) (reader : BinState) (units : List Said) (here : Option (List ℕ))
    → (handed : HandedRecords (Some script) rest reader units) → here ≡ ahead reader rest → GoesOn here → RefusesUnit script units (reader.count + 2) reason.Syntax
refused_behind script rest reader units None handed is goes = absurd (subst (λ h. Consumes (Some script) h (binary_mark ++ items_records handed.items)) (sym is) handed.taken)
refused_behind script rest reader units (Some xs) handed is goes =
    let taken = subst (λ h. Consumes (Some script) h (binary_mark ++ items_records handed.items)) (sym is) handed.taken in
    let behind = units_behind script xs handed.items taken handed.lines handed.few in
    record {
      front = units ++ Ok None ∷ [];
      behind = [];
      passes = inr refl;
      units_are = behind.1 ∙ ap (λ l. map as_said handed.items ++ records_said (suc behind.0) (length handed.items + 1) l) goes.2
          ∙ ap (λ l. map as_said handed.items ++ l) (said_goes_on behind.0 (length handed.items + 1) goes.0 goes.1)
          ∙ ap (λ l. l ++ Ok None ∷ Err reason.Syntax ∷ []) (sym handed.says)
          ∙ sym (append_assoc units (Ok None ∷ []) (Err reason.Syntax ∷ []));
      number = omega (arith, handed.count, units_counted units handed.items handed.says, length-append units (Ok None ∷ []));
    }

malformed : (script : List ℕ) (rest : Option (List ℕ)) (reader new : BinState) (units : List Said) (ended : Bool) (k : ℕ)
    → HandedRecords (Some script) rest reader units → k ≡ unit_number new → new.count ≡ reader.count → ended ≡ new.ended
    → IsMalformed reader new (ahead reader rest) ended → RefusesUnit script units k reason.Syntax
malformed script rest reader new units true k handed number same is says =
    let k_is : k ≡ reader.count + 2 = number ∙ rw (← is) (ap (λ n. n + 2) same) in
    rw k_is (refused_behind script rest reader units (ahead reader rest) handed refl says)
malformed script rest reader new units false k handed number same is says =
    let k_is : k ≡ reader.count + 1 = number ∙ rw (← is) (ap (λ n. n + 1) same) in
    rw k_is (refused_here script rest reader units reason.Syntax (ahead reader rest) handed refl says)

stays : (reader new : BinState) (k : ℕ) → k ≡ unit_number new → Stays reader new → k ≡ reader.count + 1
stays reader new k number same = number ∙ rw (same.1) (ap (λ n. n + 1) same.0)

whole_none : (n k : ℕ) (part : List ℕ) → record_at part ≡ Err bad.Syntax → whole_records (suc n) k part ≡ []
unfolding whole_records
whole_none n k [] broken = refl
whole_none n k (tag ∷ bytes) broken =
    elim (cases_Bool (tag == 0)) [
      | inl none ↦ rw none refl
      | inr some ↦
          elim (cases_Bool (nat_lt 16000000 k)) [
            | inl many ↦ rw (some, many) refl
            | inr few ↦ rw (some, few, broken) refl
          ]
    ]

breaks_off : (script : List ℕ) (rest rest_after : Option (List ℕ)) (reader : BinState) (units : List Said) → HandedRecords (Some script) rest reader units
    → BinBreaks record_at (ahead reader rest) rest_after → BreaksOff script rest_after units
breaks_off script rest rest_after reader units handed broken =
    let items = handed.items in
    let n = room items broken.part in
    record {
      taken = (binary_mark ++ items_records items) ++ broken.part;
      begins = Consumes-trans (Some script) (ahead reader rest) rest_after (binary_mark ++ items_records items) broken.part handed.taken broken.taken;
      whole = ap (λ m. whole_records m 1 (items_records items ++ broken.part)) n.1
          ∙ whole_front items (suc n.0) 1 broken.part handed.lines (omega (arith, handed.few))
          ∙ ap (λ l. map as_said items ++ l) (whole_none n.0 (1 + length items) broken.part broken.unfinished)
          ∙ append-nil (map as_said items) ∙ sym handed.says;
    }

-- a record is not read
pub record_fails : (script rest rest_after : Option (List ℕ)) (reader new : BinState) (units : List Said) (end : BinEnd) (k : ℕ) (answer : UnitEnd)
    (handed_after : List Said → Type 0)
    → HandedRecords script rest reader units → Reads reader new rest rest_after (Err end) → k ≡ unit_number new → answer ≡ end_of_record k end
    → ReadsUnit script rest_after handed_after units (Err answer)
record_fails None rest rest_after reader new units TooMany k answer handed_after handed reads number is = rw is tt
record_fails None rest rest_after reader new units Syntax k answer handed_after handed reads number is = rw is tt
record_fails None rest rest_after reader new units Range k answer handed_after handed reads number is = rw is tt
record_fails None rest rest_after reader new units BinFault k answer handed_after handed reads number is = rw is tt
record_fails (Some script) rest rest_after reader new units TooMany k answer handed_after handed reads number is =
    rw (is, stays reader new k number reads.0) (refused_here script rest reader units reason.TooManyLines (ahead reader rest) handed refl reads.1)
record_fails (Some script) rest rest_after reader new units Syntax k answer handed_after handed reads number is =
    rw is (malformed script rest reader new units new.ended k handed number reads.0 refl reads.1)
record_fails (Some script) rest rest_after reader new units Range k answer handed_after handed reads number is =
    rw (is, stays reader new k number reads.0) (refused_here script rest reader units reason.Range (ahead reader rest) handed refl reads.1)
record_fails (Some script) rest rest_after reader new units BinFault k answer handed_after handed reads number is =
    rw is (breaks_off script rest rest_after reader units handed reads)

-- a record was read, or the end
pub next_handed : (script rest rest_after : Option (List ℕ)) (reader new : BinState) (units : List Said) (item : Option Item)
    → HandedRecords script rest reader units → Reads reader new rest rest_after (Ok item)
    → ReadsUnit script rest_after (HandedRecords script rest_after new) units (Ok item)
next_handed script rest rest_after reader new units (Some item) handed reads = record_on script rest rest_after reader new units item handed reads
next_handed script rest rest_after reader new units None handed reads = records_end script rest rest_after reader new units handed reads

-- an item that has a line can be said
pub said_of : (item : Item) → HasLine item → IsSaid item
said_of Blank has = tt
said_of (Setting name value) has = has
said_of (TypeDef id info) has = has
said_of (CommandItem command) has = has

pub next_goes_on : (rest rest_after : Option (List ℕ)) (reader new : BinState) (item : Option Item) → reader.ended ≡ false
    → Reads reader new rest rest_after (Ok item) → UnitGoesOn (MayReadRecord new) rest_after reader.count (Ok item)
next_goes_on rest rest_after reader new (Some item) unended reads = (
  said_of item reads.has_line,
  (reads.count, reads.same ∙ unended),
  omega (arith, reads.count, reads.number),
)
next_goes_on rest rest_after reader new None unended reads = rest_at_end new.held rest_after reads.1

leads_by : (script : List ℕ) (here : Option (List ℕ)) (units : List Said) (items : List Item) → units ≡ map as_said items
    → Consumes (Some script) here (binary_mark ++ items_records items) → HaveLines items → length items ≤ 16000000
    → (behind : List Said) × (units_of script ≡ units ++ behind)
leads_by script None units items says taken lines few = absurd taken
leads_by script (Some xs) units items says taken lines few =
    let behind = units_behind script xs items taken lines few in
    (records_said (suc behind.0) (length items + 1) xs, behind.1 ∙ ap (λ l. l ++ records_said (suc behind.0) (length items + 1) xs) (sym says))

-- the units that were handed out stand at the front of those of the binary script
pub records_lead : (script : List ℕ) (rest : Option (List ℕ)) (reader : BinState) (units : List Said) → HandedRecords (Some script) rest reader units
    → (behind : List Said) × (units_of script ≡ units ++ behind)
records_lead script rest reader units handed = leads_by script (ahead reader rest) units handed.items handed.says handed.taken handed.lines handed.few
