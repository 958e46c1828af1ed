use Rattle.std.proofs.Common.{◌≡◌, false}
use Rattle.script_tests.proofs.records.read.Given as goal

abbrev pub invariant-records : goal.invariant-records
invariant-records l = l.reader.ended ≡ false
