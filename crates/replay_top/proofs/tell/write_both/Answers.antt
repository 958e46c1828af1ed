use Rattle.std.proofs.Common.{refl}
use Rattle.std.proofs.lemmas.Result.{err_from_is_err_and}
use Rattle.replay_top.proofs.Pieces.{writes_first, writes_both}
use Rattle.replay_top.proofs.tell.write_both.Goals as goal

pub returns-in_err-write_all-clause-writes : goal.returns-in_err-write_all-clause-writes
returns-in_err-write_all-clause-writes g c =
    let failed = err_from_is_err_and c.from_residual.result c.from_residual.ensures.1 in
    writes_first (g.E.Sink.written c.args.err.now) (g.E.Sink.written c.write_all.new.out) c.args.first.now c.args.second.now _
    c.from_residual.result failed.0 refl failed.1 c.in_err-write_all.ensures.writes

pub returns-clause-writes : goal.returns-clause-writes
returns-clause-writes g c =
    writes_both (g.E.Sink.written c.args.err.now) (g.E.Sink.written c.write_all.new.out) (g.E.Sink.written c.write_all-2.new.out) c.args.first.now c.args.second.now _
    c.write_all-2.result refl c.in_ok-write_all.ensures.writes c.write_all-2.ensures.writes
