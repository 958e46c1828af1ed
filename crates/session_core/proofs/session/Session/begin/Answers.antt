use Rattle.std.proofs.Common.{◌≡◌, Option, Some, refl, sym, ap, subst, ◌∙◌}
use Rattle.type_table.specs.declared.info.TypeInfo.{TypeInfo}
use Rattle.type_table.specs.Table.{Table}
use Rattle.object_model.specs.declared.settings.Settings.{Settings}
use Rattle.store_model.specs.Store.{empty_store}
use Rattle.heap_core.specs.Heap.{StandsFor}
use Rattle.heap_core.specs.Commands.{IsFresh}
use Rattle.session_core.specs.Seen.{SessionSeen, IsForHeap}
use Rattle.session_core.proofs.Items.{no_table, begins_again, begins_first}
use Rattle.session_core.proofs.session.Session.begin.Goals as goal

pub returns-clause-begins : goal.returns-clause-begins
returns-clause-begins c =
    let settings = ap (λ (s : SessionSeen). s.settings) c.self.view_is in
    let for_heap : c.self.inside.for_heap ≡ Some c.in-Some.types = sym c.take.ensures.value ∙ c.in-Some.is in
    let types : c.self.inside.types ≡ Some c.in-Some.types = subst (λ (t : Option (Table TypeInfo)). IsForHeap t c.self.inside.types) for_heap c.self.invariant.1 in
    begins_first c.args.self.now _ c.args.heap.now c.start.new.self c.in-Some.types (sym (ap (λ (s : SessionSeen). s.types) c.self.view_is) ∙ types)
    refl settings (ap (λ (s : SessionSeen). s.names) c.self.view_is) c.requires
    (subst (λ (s : Settings). IsFresh c.start.new.self s c.in-Some.types) settings c.in_ok-start.ensures.started)
    (subst (λ (s : Settings). StandsFor c.start.new.self (empty_store s)) settings c.in_ok-start.ensures.empty)

pub returns-then-is_none-clause-begins : goal.returns-then-is_none-clause-begins
returns-then-is_none-clause-begins c =
    begins_again c.args.self.now c.args.self.now c.args.heap.now
    (sym (ap (λ (s : SessionSeen). s.types) c.self.view_is) ∙ no_table c.self.inside.types c.is_none.result c.is_none.ensures c.if-is_none.true) refl c.requires
