-- What a binary script of items says.
use Rattle.std.proofs.Common.{◌≡◌, ℕ, zero, suc, ◌+◌, ◌<◌, ◌≤◌, List, [], ◌∷◌, ◌++◌, length, map, Some, None, Ok, refl, ap, ◌∙◌, arith, append_assoc, length-append}
use Rattle.std.proofs.lemmas.Bool.{ne_eqb, le-ltb}
use Rattle.text_model.specs.declared.item.Item.{Item}
use Rattle.text_model.specs.Binary.{item_fields, numbers_bytes, item_record, items_records, end_record, binary_mark, binary_script}
use Rattle.text_model.specs.BinaryReading.{count_of, body_at, unit_at}
use Rattle.text_model.specs.Units.{Said, records_said, units_of}
use Rattle.script_binary.specs.Fields.{IsEncoded, AreEncoded}
use Rattle.script_binary.proofs.Again.{record_again}

-- no item has the tag of the end
end_no_item : (tag : ℕ) (bytes rest : List ℕ) (item : Item) → tag ≡ 0 → body_at tag bytes ≡ Ok (item, rest) → ⊥
unfolding body_at count_of
end_no_item tag bytes rest item none is = cc (rw none at is)

unit_is : (k tag : ℕ) (bytes rest : List ℕ) (item : Item) → k ≤ 16000000 → body_at tag bytes ≡ Ok (item, rest)
    → unit_at k (tag ∷ bytes) ≡ Ok (Some item, rest)
unit_is k tag bytes rest item few is =
    rw (ne_eqb tag 0 (λ none. end_no_item tag bytes rest item none is), le-ltb 16000000 k few, is) refl

-- the unit of a record is its item
unit_again : (k : ℕ) (item : Item) (rest : List ℕ) → k ≤ 16000000 → IsEncoded item → unit_at k (item_record item ++ rest) ≡ Ok (Some item, rest)
unit_again k item rest few is =
    unit_is k (item_fields item).tag (numbers_bytes (item_fields item).numbers ++ rest) rest item few (record_again item is.has_line is.words rest)

said_step : (n k : ℕ) (bytes rest : List ℕ) (item : Item) → unit_at k bytes ≡ Ok (Some item, rest)
    → records_said (suc n) k bytes ≡ Ok (Some item) ∷ records_said n (k + 1) rest
unfolding records_said
said_step n k bytes rest item is = rw is refl

said_end : (n k : ℕ) → records_said (suc n) k end_record ≡ Ok None ∷ []
unfolding records_said
said_end n k = refl

abbrev all_said : List Item → List Said
all_said items = map (λ item. Ok (Some item)) items ++ Ok None ∷ []

records_again : (items : List Item) (n k : ℕ) → AreEncoded items → k + length items ≤ 16000001 → length items < n
    → records_said n k (items_records items ++ end_record) ≡ all_said items
records_again items zero k are few enough = absurd (omega arith)
records_again [] (suc n) k are few enough = said_end n k
records_again (item ∷ items) (suc n) k are few enough =
    let rest = items_records items ++ end_record in
    let here : k ≤ 16000000 = omega (arith, few) in
    ap (records_said (suc n) k) (append_assoc (item_record item) (items_records items) end_record)
    ∙ said_step n k (item_record item ++ rest) rest item (unit_again k item rest here are.0)
    ∙ ap (λ more. Ok (Some item) ∷ more) (records_again items n (k + 1) are.1 (omega (arith, few)) (omega (arith, enough)))

-- each record has a byte
some_bytes : (items : List Item) → length items ≤ length (items_records items)
some_bytes [] = omega arith
some_bytes (item ∷ items) = omega (arith, length-append (item_record item) (items_records items), some_bytes items)

pub script_again : (items : List Item) → length items ≤ 16000000 → AreEncoded items → units_of (binary_script items) ≡ all_said items
script_again items few are =
    let body = items_records items ++ end_record in
    let long = some_bytes items in
    records_again items (length (binary_mark ++ body)) 1 are (omega arith) (omega (arith, long, length-append binary_mark body, length-append (items_records items) end_record))
