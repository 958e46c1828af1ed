use Rattle.std.proofs.Common.{ℕ, [], ◌∷◌, Option, sym, subst}
use Rattle.text_model.specs.declared.command.Command.TheVariants.{NextDead}
use Rattle.text_model.specs.declared.line.Line.TheVariants.{NextDeadIs}
use Rattle.store_model.specs.Structs.{take_dead}
use Rattle.heap_parts.specs.Parts.{HeapParts}
use Rattle.heap_core.specs.Commands.{PartsDo}
use Rattle.heap_core.proofs.StructCalls.{next_dead_does}
use Rattle.heap_core.proofs.structures.take_dead.Goals as goal

pub returns : goal.returns
returns c =
    let now : HeapParts = c.args.parts.now in
    subst (λ (h : HeapParts). PartsDo now h NextDead (NextDeadIs c.next_dead.result ∷ [])) (sym c.next_dead.ensures.taken)
    (subst (λ (number : Option ℕ). PartsDo now (record now { links = take_dead now.links.structs now.links.dead }) NextDead (NextDeadIs number ∷ []))
    (sym c.next_dead.ensures.oldest) (next_dead_does now))
