use Rattle.std.proofs.Common.{subst}
use Rattle.object_model.specs.declared.settings.Settings.{Settings}
use Rattle.store_model.specs.Store.{empty_store}
use Rattle.heap_core.specs.Heap.{StandsFor}
use Rattle.heap_core.specs.Commands.{IsFresh}
use Rattle.heap_core.proofs.TestStores.{tight_started}
use Rattle.heap_core.proofs.tests.start_tight.Goals as goal

pub returns : goal.returns
returns c =
    tight_started c.in_ok-types.ensures
    (subst (λ (s : Settings). IsFresh c.start.new.self s c.in_ok-types.types) c.tight.ensures c.in_ok-start.ensures.started)
    (subst (λ (s : Settings). StandsFor c.start.new.self (empty_store s)) c.tight.ensures c.in_ok-start.ensures.empty)
