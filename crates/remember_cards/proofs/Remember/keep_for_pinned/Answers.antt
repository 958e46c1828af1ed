use Rattle.std.proofs.lemmas.Result.{on_ok_weaker}
use Rattle.remember_cards.specs.Remembering.{Remembering}
use Rattle.remember_cards.proofs.KeptLaws.{kept_covered}
use Rattle.remember_cards.proofs.Remember.keep_for_pinned.Goals as goal

pub returns-clause-covered : goal.returns-clause-covered
returns-clause-covered c =
    let old : Remembering = record { card = c.self.inside.card; entries = c.self.inside.entries; kept = c.self.inside.kept } in
    on_ok_weaker c.keep.result (λ e. λ i. kept_covered old c.keep.new.self c.args.a i e) c.keep.ensures.ok
