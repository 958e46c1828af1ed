use Rattle.rawref_links.proofs.TieLaws.{AreTied-new}
use Rattle.rawref_links.proofs.Links.new.Goals as goal

pub invariant_of-result : goal.invariant_of-result
invariant_of-result c = rw (c.in_ok-new.ensures, c.in_ok-new-2.ensures, c.new-3.ensures.items) AreTied-new
