use Rattle.std.proofs.Common.{sym, ◌∙◌, arith, ap}
use Rattle.script_convert.specs.Reader.{HandedRecords}
use Rattle.script_convert.proofs.RecordsRead.{record_fails, next_handed, next_goes_on}
use Rattle.script_convert.proofs.reader.next_record.Goals as goal

pub returns-in-Ok-clause-reads : goal.returns-in-Ok-clause-reads
returns-in-Ok-clause-reads g c = λ script units handed.
    next_handed script (g.F.Files.rest c.args.files.now) (g.F.Files.rest c.next.new.files) c.args.reader.now c.next.new.self units c.in-Ok.item handed
    c.in-Ok.ensures.reads

pub returns-in-Ok-clause-goes_on : goal.returns-in-Ok-clause-goes_on
returns-in-Ok-clause-goes_on g c =
    next_goes_on (g.F.Files.rest c.args.files.now) (g.F.Files.rest c.next.new.files) c.args.reader.now c.next.new.self c.in-Ok.item c.requires
    c.in-Ok.ensures.reads

pub returns-in-Err-clause-reads : goal.returns-in-Err-clause-reads
returns-in-Err-clause-reads g c = λ script units handed.
    record_fails script (g.F.Files.rest c.args.files.now) (g.F.Files.rest c.next.new.files) c.args.reader.now c.next.new.self units c.in-Err.end
    c.unit.result c.end_of_record.result (HandedRecords script (g.F.Files.rest c.next.new.files) c.next.new.self) handed c.in-Err.ensures.reads
    c.unit.ensures c.end_of_record.ensures
