use Rattle.std.proofs.Common.{◌++◌, codes, refl}
use Rattle.std.specs.Prelude.{decimal}
use Rattle.std.proofs.lemmas.Result.{err_from_is_err_and}
use Rattle.replay_top.proofs.Pieces.{writes_first, writes_both}
use Rattle.replay_top.proofs.tell.write_request.Goals as goal

pub returns-in_err-write_number-clause-writes : goal.returns-in_err-write_number-clause-writes
returns-in_err-write_number-clause-writes g c =
    let failed = err_from_is_err_and c.from_residual.result c.from_residual.ensures.1 in
    writes_first (g.E.Sink.written c.args.err.now) (g.E.Sink.written c.write_number.new.err)
    (codes " + " ++ decimal c.args.request) ((codes " > " ++ decimal c.args.limit) ++ codes "\n") _
    c.from_residual.result failed.0 refl failed.1 c.in_err-write_number.ensures.writes

pub returns-clause-writes : goal.returns-clause-writes
returns-clause-writes g c =
    writes_both (g.E.Sink.written c.args.err.now) (g.E.Sink.written c.write_number.new.err) (g.E.Sink.written c.write_most.new.err)
    (codes " + " ++ decimal c.args.request) ((codes " > " ++ decimal c.args.limit) ++ codes "\n") _
    c.write_most.result refl c.in_ok-write_number.ensures.writes c.write_most.ensures.writes
