use Rattle.std.proofs.Common.{IfOk, OnErr, subst}
use Rattle.parts_model.specs.Parts.{HeapParts}
use Rattle.parts_model.specs.Births.{TakesBlock, TakesNone, with_old_blocks}
use Rattle.heap_parts.specs.contracts.parts.Parts.{the_view}
use Rattle.heap_parts.proofs.BirthCalls.{keeps_live, takes, takes_none}
use Rattle.heap_parts.proofs.parts.Parts.take_block.Goals as goal

pub returns-clause-taken : goal.returns-clause-taken
returns-clause-taken c =
    let e = c.take.ensures in let before : HeapParts = the_view c.self.inside in
    let keeps = keeps_live before c.take.new.self c.take.new.space e.kept e.outside e.arena_words e.sizes.small e.sizes.page in
    subst (λ (h : HeapParts). IfOk c.take.result (λ place. TakesBlock h (with_old_blocks before c.take.new.self c.take.new.space) c.args.n place)) c.self.view_is
    (takes before c.take.new.self c.take.new.space c.args.n c.take.result keeps e.taken e.elsewhere)

pub returns-clause-err : goal.returns-clause-err
returns-clause-err c =
    let e = c.take.ensures in let before : HeapParts = the_view c.self.inside in
    let keeps = keeps_live before c.take.new.self c.take.new.space e.kept e.outside e.arena_words e.sizes.small e.sizes.page in
    subst (λ (h : HeapParts). OnErr c.take.result (TakesNone h (with_old_blocks before c.take.new.self c.take.new.space))) c.self.view_is
    (takes_none before c.take.new.self c.take.new.space c.take.result keeps e.err)
