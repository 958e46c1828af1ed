use Rattle.std.proofs.Common.{◌-◌, ◌≡◌, ◌≤◌, take, length}
use Rattle.std.specs.Io.KnownBytes.{Consumes}
use Rattle.script_text.proofs.bytes.Bytes.is_binary.Given as goal

-- what was taken from the file stands at the front of the buffer
abbrev pub invariant-loop-self : goal.invariant-loop-self
invariant-loop-self g l =
    let files = g.F.Files in
    let piece = l.self-inside in
    record {
      start : piece.start ≡ 0;
      within : piece.end ≤ 4096;
      sized : length piece.buf.items ≡ 4096;
      taken : Consumes (files.rest l.initial.files) (files.rest l.files) (take piece.end piece.buf.items);
      later : files.faults l.initial.files ≤ files.faults l.files;
      bytes : files.bytes l.files ≡ files.bytes l.initial.files;
      may_begin : files.may_begin l.files ≡ files.may_begin l.initial.files;
    }

abbrev pub decreases-loop-self : goal.decreases-loop-self
decreases-loop-self g l = 4 - l.self-inside.end
