use Rattle.std.proofs.Common.{ap, Err}
use Rattle.replay_top.proofs.Complete.{complete_err}
use Rattle.replay_top.proofs.top.run_replay.Goals as goal

pub returns-in-Err-clause-complete : goal.returns-in-Err-clause-complete
returns-in-Err-clause-complete g c =
    complete_err (g.F.Files.bytes c.args.files.now c.args.name.now) (g.F.Files.begun c.args.files.now) (g.F.Files.begun c.replay.new.files) (g.F.Files.rest c.replay.new.files) (g.K.Sink.written c.args.out.now) (g.K.Sink.written c.replay.new.out) c.replay.new.heap c.in-Err.stop _ _ _
    c.in-Err.ensures.ends c.stop_status.ensures (λ e. c.in-Err.ensures.read (ap Err e)) (λ e. c.in-Err.ensures.write (ap Err e))
