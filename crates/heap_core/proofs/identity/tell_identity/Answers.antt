use Rattle.heap_core.proofs.FullSlots.{ident_ready}
use Rattle.heap_core.proofs.TellCalls.{on_ident}
use Rattle.heap_core.proofs.identity.tell_identity.Goals as goal

pub tell_home-requires-clause-full : goal.tell_home-requires-clause-full
tell_home-requires-clause-full c = (ident_ready c.args.parts.now c.args.root c.requires).full

pub returns-clause-does : goal.returns-clause-does
returns-clause-does c = on_ident c.args.parts.now c.tell_home.new.parts c.args.root c.tell_home.result c.tell_home.ensures.tells
