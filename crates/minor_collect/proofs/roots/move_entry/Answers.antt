use Rattle.std.proofs.Common.{IsTrue, sym, subst}
use Rattle.object_model.specs.Sets.{is_in}
use Rattle.heap_parts.specs.Parts.{HeapParts}
use Rattle.heap_parts.specs.contracts.parts.Parts.{the_view}
use Rattle.heap_parts.proofs.FinalLaws.{with_finals}
use Rattle.minor_collect.specs.Registered.{MovesEntry, registered_places}
use Rattle.minor_collect.proofs.EntrySteps.{entry_moved}
use Rattle.minor_collect.proofs.roots.move_entry.Goals as goal

pub returns : goal.returns
returns c =
    let before : HeapParts = the_view c.parts.inside in
    subst (λ (h : HeapParts). MovesEntry h (with_finals before c.moved.new.self) c.args.from c.args.to) c.parts.view_is
    (entry_moved before c.parts.inside.finals c.moved.new.self c.args.from c.args.to
    (subst (λ (h : HeapParts). IsTrue (is_in c.args.from (registered_places h))) (sym c.parts.view_is) c.requires) c.moved.ensures.registered c.moved.ensures.rest)
