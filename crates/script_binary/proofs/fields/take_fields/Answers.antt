use Rattle.std.proofs.Common.{◌+◌, ◌<◌, Err, take, length, refl, ap, ◌∙◌, arith}
use Rattle.std.specs.Prelude.{slice_set}
use Rattle.std.specs.Io.KnownBytes.{prepend_known}
use Rattle.std.proofs.lemmas.Result.{err_from_is_err_and}
use Rattle.std.proofs.lemmas.List.{take_more_set, length-set}
use Rattle.text_model.specs.Binary.{number_bytes, numbers_bytes}
use Rattle.text_model.specs.BinaryReading.{number_at, numbers_at}
use Rattle.script_binary.specs.Fields.{numbers_read}
use Rattle.script_binary.proofs.Parts.{takes_error, takes_behind}
use Rattle.script_binary.proofs.NumbersLaws.{takes_none, takes_one_more, passes_numbers}
use Rattle.script_binary.proofs.fields.take_fields.Goals as goal

pub loop-index-init : goal.loop-index-init
loop-index-init g c =
    record {
      long = refl;
      taken = takes_none (prepend_known c.args.bytes.now (g.F.Files.rest c.args.files.now));
      later = omega arith;
      bytes = refl;
      may_begin = refl;
    }

pub returns-in_err-fields-clause-taken : goal.returns-in_err-fields-clause-taken
returns-in_err-fields-clause-taken g c =
    let before = prepend_known c.args.bytes.now (g.F.Files.rest c.args.files.now) in
    let mid = prepend_known c.loop-index.bytes (g.F.Files.rest c.loop-index.files) in
    let after = prepend_known c.take_number.new.bytes (g.F.Files.rest c.take_number.new.files) in
    let ns = take c.loop-index.index c.loop-index.fields in
    let answer = c.from_residual.result in
    let end = c.in_err-fields.field-0.0 in
    let error = err_from_is_err_and answer c.from_residual.ensures.1 in
    takes_error (numbers_at c.args.count) numbers_bytes before after (numbers_read c.args.count answer) end
    (ap (numbers_read c.args.count) (error.1 ∙ ap Err error.2))
    (takes_behind number_at (numbers_at c.args.count) number_bytes numbers_bytes (numbers_bytes ns) before mid after end
    c.loop-index.invariant.taken.taken (passes_numbers c.loop-index.index c.args.count ns before mid (omega arith) c.loop-index.invariant.taken)
    c.in_err-fields.ensures.taken)

pub loop-index-preserved : goal.loop-index-preserved
loop-index-preserved g c =
    let before = prepend_known c.args.bytes.now (g.F.Files.rest c.args.files.now) in
    let mid = prepend_known c.loop-index.bytes (g.F.Files.rest c.loop-index.files) in
    let after = prepend_known c.take_number.new.bytes (g.F.Files.rest c.take_number.new.files) in
    let i = c.loop-index.index in
    let fields = c.loop-index.fields in
    let x = c.in_ok-fields.field-0 in
    let seen = c.loop-index.invariant in
    let within : i < length fields = omega arith in
    record {
      long = length-set fields i x ∙ seen.long;
      taken = takes_one_more i (take i fields) (take (i + 1) (slice_set fields i x)) x before mid after (take_more_set fields i x within) seen.taken
          c.in_ok-fields.ensures.taken;
      later = omega (arith, c.in_ok-fields.ensures.cause.later);
      bytes = c.in_ok-fields.ensures.bytes ∙ seen.bytes;
      may_begin = c.in_ok-fields.ensures.may_begin ∙ seen.may_begin;
    }
