use Rattle.std.proofs.Common.{ℕ, ◌<◌, ◌^◌, [], ◌∷◌, sym, subst, rules, of_calls}
use Rattle.text_model.specs.declared.command.Command.TheVariants.{Hash}
use Rattle.text_model.specs.declared.line.Line.TheVariants.{HashIs}
use Rattle.heap_core.specs.Commands.{PartsDo}
use Rattle.heap_core.proofs.FullSlots.{hash_ready}
use Rattle.heap_core.proofs.TellCalls.{hash_does}
use Rattle.heap_core.proofs.identity.tell_hash.Goals as goal

pub tell_home-requires-clause-full : goal.tell_home-requires-clause-full
tell_home-requires-clause-full c = (hash_ready c.args.parts.now c.args.root c.requires).full

pub returns-clause-does : goal.returns-clause-does
returns-clause-does c =
    let home : ℕ = c.in_ok-tell_home.field-0 in
    let small : home < 2 ^ 64 = search (rules, of_calls) in
    subst (λ (v : ℕ). PartsDo c.args.parts.now c.tell_home.new.parts (Hash c.args.root) (HashIs v ∷ [])) (sym c.hash_of.ensures)
    (hash_does c.args.parts.now c.tell_home.new.parts c.args.root home small c.in_ok-tell_home.ensures.tells)
