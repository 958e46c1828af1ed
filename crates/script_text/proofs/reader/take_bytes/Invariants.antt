use Rattle.std.proofs.Common.{◌≡◌, ◌≤◌, take, length}
use Rattle.std.specs.Prelude.{IsTrue}
use Rattle.std.specs.Io.KnownBytes.{Consumes, prepend_known}
use Rattle.script_text.specs.Reader.{is_one_line}
use Rattle.script_text.proofs.reader.take_bytes.Given as goal

-- the bytes of the line so far were taken
abbrev pub invariant-loop-length : goal.invariant-loop-length
invariant-loop-length g l =
    let files = g.F.Files in
    let before = prepend_known l.initial.piece (files.rest l.initial.files) in
    let after = prepend_known l.piece (files.rest l.files) in
    record {
      one_line : IsTrue (is_one_line (take l.length l.line));
      taken : Consumes before after (take l.length l.line);
      long : length l.line ≡ 200;
      later : files.faults l.initial.files ≤ files.faults l.files;
      bytes : files.bytes l.files ≡ files.bytes l.initial.files;
      may_begin : files.may_begin l.files ≡ files.may_begin l.initial.files;
    }
