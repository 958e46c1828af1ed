use Rattle.std.proofs.Common.{arith}
use Rattle.script_convert.specs.Reader.{HandedOut}
use Rattle.script_convert.proofs.FormLaws.{runs_from, runs_on, units_done, units_end, units_cut}
use Rattle.script_convert.proofs.form.convert_units.Goals as goal

pub units-init : goal.units-init
units-init g c = record {
  run = λ script handed. runs_from c.args.lines script (g.F.Files.rest c.args.files.now) c.args.reader.now (g.K.Sink.written c.args.out.now) handed;
  may = c.requires;
  few = omega arith;
  read_later = omega arith;
  write_later = omega arith;
}

pub units-preserved : goal.units-preserved
units-preserved g c =
    let reads = rw c.in-Ok-Some.field-0-is at c.in-Ok-Some.ensures.reads in
    let goes = rw c.in-Ok-Some.field-0-is at c.in-Ok-Some.ensures.goes_on in
    record {
      run = λ script handed.
          let run = c.units.invariant.run script handed in
          runs_on c.args.lines script (g.F.Files.rest c.units.files) (g.F.Files.rest c.next.new.files) c.units.reader c.next.new.self
          (g.K.Sink.written c.args.out.now) (g.K.Sink.written c.units.out) (g.K.Sink.written c.write_unit.new.out) c.in-Ok-Some.item run
          (reads script run.units run.handed) c.in-Ok.ensures.writes;
      may = goes.1;
      few = goes.2;
      read_later = omega (arith, c.units.invariant.read_later, c.in-Ok-Some.ensures.cause.later);
      write_later = omega (arith, c.units.invariant.write_later, c.in-Ok.ensures.later);
    }

pub returns-in-Err-write_unit-clause-ends : goal.returns-in-Err-write_unit-clause-ends
returns-in-Err-write_unit-clause-ends g c = λ script handed.
    let reads = rw c.in-Ok-Some.field-0-is at c.in-Ok-Some.ensures.reads in
    let run = c.units.invariant.run script handed in
    units_cut c.args.lines script (g.F.Files.rest c.units.files) (g.F.Files.rest c.next.new.files) c.units.reader c.next.new.self
    (g.K.Sink.written c.args.out.now) (g.K.Sink.written c.units.out) (g.K.Sink.written c.write_unit.new.out) c.in-Ok-Some.item c.in-Err-write_unit.end run
    (reads script run.units run.handed) c.in-Err-write_unit.ensures.writes

pub returns-in-Ok-None-clause-ends : goal.returns-in-Ok-None-clause-ends
returns-in-Ok-None-clause-ends g c = λ script handed.
    let reads = rw c.in-Ok-None.field-0-is at c.in-Ok-None.ensures.reads in
    let goes = rw c.in-Ok-None.field-0-is at c.in-Ok-None.ensures.goes_on in
    let run = c.units.invariant.run script handed in
    units_done c.args.lines script (g.F.Files.rest c.units.files) (g.F.Files.rest c.next.new.files) c.units.reader (g.K.Sink.written c.args.out.now)
    (g.K.Sink.written c.units.out) run (reads script run.units run.handed) goes

pub returns-in-Err-clause-ends : goal.returns-in-Err-clause-ends
returns-in-Err-clause-ends g c = λ script handed.
    let run = c.units.invariant.run script handed in
    units_end c.args.lines script (g.F.Files.rest c.units.files) (g.F.Files.rest c.next.new.files) c.units.reader (g.K.Sink.written c.args.out.now)
    (g.K.Sink.written c.units.out) (HandedOut script (g.F.Files.rest c.next.new.files) c.next.new.self) c.in-Err.end c.end_of_unit.result run
    (c.in-Err.ensures.reads script run.units run.handed) c.end_of_unit.ensures
