use Rattle.heap_space.proofs.Fields.{base-held, empty-large}
use Rattle.heap_space.proofs.areas.Areas.empty_large.Goals as goal

pub large_index-index-requires-clause-held : goal.large_index-index-requires-clause-held
large_index-index-requires-clause-held c =
    base-held c.self.inside c.self.invariant _ c.self.view_is _ c.requires.0 c.requires.1 _ c.deref.ensures.value

pub invariant_of-self : goal.invariant_of-self
invariant_of-self c =
    (empty-large c.self.inside c.self.invariant _ c.self.view_is _ c.requires.0 c.requires.1 _ _ c.deref.ensures.value
    c.large_index-index.ensures.inside c.large_index-index.ensures.found c.index_mut-large.ensures.value _ c.empty.ensures).0

pub returns : goal.returns
returns c =
    (empty-large c.self.inside c.self.invariant _ c.self.view_is _ c.requires.0 c.requires.1 _ _ c.deref.ensures.value
    c.large_index-index.ensures.inside c.large_index-index.ensures.found c.index_mut-large.ensures.value _ c.empty.ensures).1
