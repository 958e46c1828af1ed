use Rattle.heap_core.specs.declared.heap.State.TheVariants.{Started}
use Rattle.heap_core.proofs.TestStores.{standing, first_full, retypes}
use Rattle.heap_core.proofs.Calls.{in_state}
use Rattle.heap_core.proofs.tests.types_of_first.Goals as goal

pub type_of-before-requires-clause-standing : goal.type_of-before-requires-clause-standing
type_of-before-requires-clause-standing c = standing c.requires

pub type_of-before-requires-clause-full : goal.type_of-before-requires-clause-full
type_of-before-requires-clause-full c = first_full c.requires

pub type_by_words-requires : goal.type_by_words-requires
type_by_words-requires c =
    retypes (in_state c.args.heap.now c.heap.inside.state (Started c.in-Started.parts) c.heap.view_is c.in-Started.is) c.requires
