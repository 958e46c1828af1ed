use Rattle.std.proofs.Common.{ℕ, List, [], Option, ◌≤◌, ◌-◌}
use Rattle.script_convert.specs.Reader.{HandedOut, MayRead}
use Rattle.session_core.specs.Standing.{IsPlaced}
use Rattle.replay_top.proofs.RunsOn.{RunsOn}
use Rattle.replay_top.proofs.script.do_units.Given as goal

abbrev pub invariant-units : goal.invariant-units
invariant-units g l =
    let files = g.F.Files in
    let sink = g.K.Sink in
    record {
      run : (script : Option (List ℕ)) → HandedOut script (files.rest l.fn.files) l.fn.reader []
          → RunsOn script (files.rest l.files) (sink.written l.fn.out) (sink.written l.out) l.reader l.number l.session l.heap;
      placed : IsPlaced l.session l.heap;
      may : MayRead l.reader (files.rest l.files) l.number;
      few : l.number ≤ 16000000;
      read_later : files.faults l.fn.files ≤ files.faults l.files;
      write_later : sink.faults l.fn.out ≤ sink.faults l.out;
    }

abbrev pub decreases-units : goal.decreases-units
decreases-units g l = 16000000 - l.number
