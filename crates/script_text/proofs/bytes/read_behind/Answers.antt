use Rattle.script_text.proofs.MarkReading.{reads_behind}
use Rattle.script_text.proofs.bytes.read_behind.Goals as goal

pub returns-clause-reads : goal.returns-clause-reads
returns-clause-reads g c =
    reads_behind c.args.from c.args.buf.now c.read.new.buf (g.F.Files.rest c.args.files.now) (g.F.Files.rest c.read.new.self) c.read.result
    c.requires c.read.auto.buf c.read.ensures.bound c.read.ensures.taken
