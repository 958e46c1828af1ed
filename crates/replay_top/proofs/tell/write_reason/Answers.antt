use Rattle.std.proofs.Common.{ℕ, List, ◌++◌, codes, refl, subst}
use Rattle.std.proofs.lemmas.Result.{err_from_is_err_and}
use Rattle.std.specs.Io.KnownBytes.{Appends}
use Rattle.store_model.specs.ErrorText.{reason_text}
use Rattle.script_convert.specs.Written.{WritesPart}
use Rattle.replay_top.proofs.Pieces.{writes_first, writes_both}
use Rattle.replay_top.proofs.tell.write_reason.Goals as goal

pub returns-in_err-write_both-clause-writes : goal.returns-in_err-write_both-clause-writes
returns-in_err-write_both-clause-writes g c =
    let before = g.E.Sink.written c.args.err.now in
    let after = g.E.Sink.written c.write_both.new.err in
    let failed = err_from_is_err_and c.from_residual.result c.from_residual.ensures.1 in
    writes_first before after (codes ": " ++ reason_text c.args.reason) (codes "\n") _ c.from_residual.result failed.0 refl failed.1
    (subst (λ (name : List ℕ). WritesPart before after (codes ": " ++ name)) c.reason_name.ensures c.in_err-write_both.ensures.writes)

pub returns-clause-writes : goal.returns-clause-writes
returns-clause-writes g c =
    let before = g.E.Sink.written c.args.err.now in
    let after = g.E.Sink.written c.write_both.new.err in
    writes_both before after (g.E.Sink.written c.write_all.new.out) (codes ": " ++ reason_text c.args.reason) (codes "\n") _ c.write_all.result refl
    (subst (λ (name : List ℕ). Appends before after (codes ": " ++ name)) c.reason_name.ensures c.in_ok-write_both.ensures.writes)
    c.write_all.ensures.writes
