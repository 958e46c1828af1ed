use Rattle.std.proofs.Common.{ℕ, List, [], Option, ◌≤◌, ◌-◌}
use Rattle.script_convert.specs.Reader.{HandedOut, MayRead}
use Rattle.script_convert.proofs.FormLaws.{RunsOn}
use Rattle.script_convert.proofs.form.convert_units.Given as goal

abbrev pub invariant-units : goal.invariant-units
invariant-units g l =
    let files = g.F.Files in
    let sink = g.K.Sink in
    record {
      run : (script : Option (List ℕ)) → HandedOut script (files.rest l.fn.files) l.fn.reader []
          → RunsOn l.lines script (files.rest l.files) l.reader (sink.written l.fn.out) (sink.written l.out);
      may : MayRead l.reader (files.rest l.files) l.number;
      few : l.number ≤ 16000000;
      read_later : files.faults l.fn.files ≤ files.faults l.files;
      write_later : sink.faults l.fn.out ≤ sink.faults l.out;
    }

abbrev pub decreases-units : goal.decreases-units
decreases-units g l = 16000000 - l.number
