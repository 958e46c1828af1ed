use Rattle.std.proofs.Common.{◌≤◌, [], Err, take, sym, ap, ◌∙◌, arith, length-take-le}
use Rattle.std.specs.Io.KnownBytes.{prepend_known}
use Rattle.std.proofs.KnownBytes.{Consumes-nil}
use Rattle.std.proofs.lemmas.Result.{err_from_is_err_and}
use Rattle.text_model.specs.Binary.{numbers_bytes}
use Rattle.text_model.specs.BinaryReading.{numbers_at, body_at}
use Rattle.script_binary.specs.Fields.{body_bytes}
use Rattle.script_binary.proofs.Parts.{takes_error, takes_behind}
use Rattle.script_binary.proofs.BodyLaws.{count_few, refuses_tag, passes_body, takes_item, has_tag, takes_no_item}
use Rattle.script_binary.proofs.body.take_body.Goals as goal

pub returns-in_default-clause-taken : goal.returns-in_default-clause-taken
returns-in_default-clause-taken g c =
    refuses_tag c.args.tag (prepend_known c.args.bytes.now (g.F.Files.rest c.args.files.now)) (sym c.field_count.ensures ∙ c.in_default.is)

pub take_fields-requires : goal.take_fields-requires
take_fields-requires g c = count_few c.args.tag c.in-Some.count (sym c.field_count.ensures ∙ c.in-Some.is)

pub returns-in_err-fields-clause-taken : goal.returns-in_err-fields-clause-taken
returns-in_err-fields-clause-taken g c =
    let before = prepend_known c.args.bytes.now (g.F.Files.rest c.args.files.now) in
    let after = prepend_known c.take_fields.new.bytes (g.F.Files.rest c.take_fields.new.files) in
    let answer = c.from_residual.result in
    let end = c.in_err-fields.field-0.0 in
    let error = err_from_is_err_and answer c.from_residual.ensures.1 in
    let n = c.in-Some.count in
    takes_error (body_at c.args.tag) body_bytes before after answer end (error.1 ∙ ap Err error.2)
    (takes_behind (numbers_at n) (body_at c.args.tag) numbers_bytes body_bytes [] before before after end (Consumes-nil before)
    (passes_body c.args.tag n (sym c.field_count.ensures ∙ c.in-Some.is)) c.in_err-fields.ensures.taken)

pub slice_bounds-fields-end : goal.slice_bounds-fields-end
slice_bounds-fields-end g c =
    let few : c.in-Some.count ≤ 5 = count_few c.args.tag c.in-Some.count (sym c.field_count.ensures ∙ c.in-Some.is) in
    omega (arith, c.in_ok-fields.ensures.long)

pub slice_bounds-item_with-end : goal.slice_bounds-item_with-end
slice_bounds-item_with-end g c =
    let few : c.in-Some.count ≤ 5 = count_few c.args.tag c.in-Some.count (sym c.field_count.ensures ∙ c.in-Some.is) in
    sym (length-take-le c.in-Some.count c.in_ok-fields.fields (omega (arith, c.in_ok-fields.ensures.long)))

pub returns-in-Ok-clause-taken : goal.returns-in-Ok-clause-taken
returns-in-Ok-clause-taken g c =
    let n = c.in-Some.count in
    let before = prepend_known c.args.bytes.now (g.F.Files.rest c.args.files.now) in
    let after = prepend_known c.take_fields.new.bytes (g.F.Files.rest c.take_fields.new.files) in
    takes_item c.args.tag n (take n c.in_ok-fields.fields) c.in-Ok.item before after (sym c.field_count.ensures ∙ c.in-Some.is)
    c.item_with.ensures.words (sym c.item_with.ensures.reading ∙ c.in-Ok.is) c.in_ok-fields.ensures.taken

pub returns-in-Ok-clause-item : goal.returns-in-Ok-clause-item
returns-in-Ok-clause-item g c =
    let n = c.in-Some.count in
    has_tag c.args.tag (take n c.in_ok-fields.fields) c.in-Ok.item c.item_with.ensures.words
    (sym c.item_with.ensures.reading ∙ c.in-Ok.is)

pub returns-in-Err-clause-taken : goal.returns-in-Err-clause-taken
returns-in-Err-clause-taken g c =
    let n = c.in-Some.count in
    let before = prepend_known c.args.bytes.now (g.F.Files.rest c.args.files.now) in
    let after = prepend_known c.take_fields.new.bytes (g.F.Files.rest c.take_fields.new.files) in
    takes_no_item c.args.tag n (take n c.in_ok-fields.fields) c.in-Err.bad c.end_of_bad.result before after (sym c.field_count.ensures ∙ c.in-Some.is)
    (sym c.item_with.ensures.reading ∙ c.in-Err.is) c.in_ok-fields.ensures.taken c.end_of_bad.ensures
