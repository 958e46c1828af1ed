use Rattle.std.proofs.Common.{ℕ, List, ◌++◌, subst, ◌∙◌}
use Rattle.script_convert.specs.Written.{Writes}
use Rattle.replay_top.proofs.tell.write_number.Goals as goal

pub returns-clause-writes : goal.returns-clause-writes
returns-clause-writes g c =
    subst (λ (digits : List ℕ). Writes (g.E.Sink.written c.args.err.now) (g.E.Sink.written c.write_both.new.err) (c.args.text.now ++ digits) c.write_both.result)
    (c.as_bytes.ensures.value ∙ c.format.ensures.text) c.write_both.ensures.writes
