use Rattle.std.proofs.Common.{arith}
use Rattle.store_model.specs.Progress.{at_start}
use Rattle.script_convert.specs.Reader.{HandedOut}
use Rattle.replay_top.proofs.RunsOn.{runs_from, runs_on}
use Rattle.replay_top.proofs.RunEnds.{ends_done, ends_reading, ends_unit}
use Rattle.replay_top.proofs.script.do_units.Goals as goal

pub units-init : goal.units-init
units-init g c = record {
  run = λ script handed. runs_from script (g.F.Files.rest c.args.files.now) (g.K.Sink.written c.args.out.now) c.args.reader.now c.args.session.now
      c.args.heap.now handed c.requires.placed;
  placed = record { at = at_start; stands = c.requires.placed };
  may = c.requires.may;
  few = omega arith;
  read_later = omega arith;
  write_later = omega arith;
}

pub units-preserved : goal.units-preserved
units-preserved g c =
    let reads = rw c.in-Ok-Some.field-0-is at c.in-Ok-Some.ensures.reads in
    let goes = rw c.in-Ok-Some.field-0-is at c.in-Ok-Some.ensures.goes_on in
    let placed = c.units.invariant.placed in
    let done = c.in-Ok.ensures.ends placed.at placed.stands in
    record {
      run = λ script handed.
          let run = c.units.invariant.run script handed in
          runs_on script (g.F.Files.rest c.units.files) (g.F.Files.rest c.next.new.files) (g.K.Sink.written c.args.out.now) (g.K.Sink.written c.units.out)
          (g.K.Sink.written c.do_item.new.out) c.units.reader c.next.new.self c.units.number c.in-Ok-Some.item c.units.session c.do_item.new.session
          c.units.heap c.do_item.new.heap run (reads script run.units run.handed) (c.in-Ok.ensures.ends run.at run.stands);
      placed = record { at = done.after; stands = done.stands };
      may = goes.1;
      few = goes.2;
      read_later = omega (arith, c.units.invariant.read_later, c.in-Ok-Some.ensures.cause.later);
      write_later = omega (arith, c.units.invariant.write_later, c.in-Ok.ensures.later);
    }

pub returns-in-Err-do_item-clause-ends : goal.returns-in-Err-do_item-clause-ends
returns-in-Err-do_item-clause-ends g c = λ script begun begun_after handed.
    let reads = rw c.in-Ok-Some.field-0-is at c.in-Ok-Some.ensures.reads in
    let run = c.units.invariant.run script handed in
    ends_unit script begun begun_after (g.F.Files.rest c.units.files) (g.F.Files.rest c.next.new.files) (g.K.Sink.written c.args.out.now)
    (g.K.Sink.written c.units.out) (g.K.Sink.written c.do_item.new.out) c.units.reader c.next.new.self c.units.number c.in-Ok-Some.item c.units.session
    c.do_item.new.session c.units.heap c.do_item.new.heap c.in-Err-do_item.stop run (reads script run.units run.handed) c.units.invariant.may
    (c.in-Err-do_item.ensures.ends run.at run.stands)

pub returns-in-Ok-None-clause-ends : goal.returns-in-Ok-None-clause-ends
returns-in-Ok-None-clause-ends g c = λ script begun begun_after handed.
    let reads = rw c.in-Ok-None.field-0-is at c.in-Ok-None.ensures.reads in
    let goes = rw c.in-Ok-None.field-0-is at c.in-Ok-None.ensures.goes_on in
    let run = c.units.invariant.run script handed in
    ends_done script begun begun_after (g.F.Files.rest c.units.files) (g.F.Files.rest c.next.new.files) (g.K.Sink.written c.args.out.now)
    (g.K.Sink.written c.units.out) c.units.reader c.units.number c.units.session c.units.heap run (reads script run.units run.handed) goes

pub returns-in-Err-clause-ends : goal.returns-in-Err-clause-ends
returns-in-Err-clause-ends g c = λ script begun begun_after handed.
    let run = c.units.invariant.run script handed in
    ends_reading script begun begun_after (g.F.Files.rest c.units.files) (g.F.Files.rest c.next.new.files) (g.K.Sink.written c.args.out.now)
    (g.K.Sink.written c.units.out) c.units.reader c.units.number c.units.session c.units.heap
    (HandedOut script (g.F.Files.rest c.next.new.files) c.next.new.self) c.in-Err.end c.stop_of_unit.result run
    (c.in-Err.ensures.reads script run.units run.handed) c.stop_of_unit.ensures
