use Rattle.std.proofs.Common.{◌≡◌, ◌≤◌, take, length}
use Rattle.std.specs.Io.KnownBytes.{prepend_known}
use Rattle.text_model.specs.Binary.{numbers_bytes}
use Rattle.script_binary.specs.Taking.{TakesWhole}
use Rattle.text_model.specs.BinaryReading.{numbers_at}
use Rattle.script_binary.proofs.fields.take_fields.Given as goal

-- the numbers so far were taken
abbrev pub invariant-loop-index : goal.invariant-loop-index
invariant-loop-index g l =
    let files = g.F.Files in
    let before = prepend_known l.initial.bytes (files.rest l.initial.files) in
    let after = prepend_known l.bytes (files.rest l.files) in
    record {
      long : length l.fields ≡ 5;
      taken : TakesWhole (numbers_at l.index) before after (numbers_bytes (take l.index l.fields)) (take l.index l.fields);
      later : files.faults l.initial.files ≤ files.faults l.files;
      bytes : files.bytes l.files ≡ files.bytes l.initial.files;
      may_begin : files.may_begin l.files ≡ files.may_begin l.initial.files;
    }
