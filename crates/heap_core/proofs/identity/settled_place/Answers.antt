use Rattle.std.proofs.Common.{ℕ, [], ◌∷◌, Some, sym, subst}
use Rattle.text_model.specs.declared.command.Command.TheVariants.{Place}
use Rattle.text_model.specs.declared.line.Line.TheVariants.{PlaceIs}
use Rattle.heap_parts.specs.Parts.{HeapParts, place_in}
use Rattle.heap_core.specs.Commands.{PartsDo}
use Rattle.heap_core.proofs.IdentityCalls.{young_place_does, old_place_does, below-as, above-as}
use Rattle.heap_core.proofs.identity.settled_place.Goals as goal

pub returns-then-place-lt-FIRST_OLD : goal.returns-then-place-lt-FIRST_OLD
returns-then-place-lt-FIRST_OLD c = young_place_does c.args.parts.now c.args.root c.requires (below-as c.place-place.result (place_in c.args.parts.now c.args.root) c.place-place.ensures c.if-place-lt-FIRST_OLD.true)

pub returns : goal.returns
returns c =
    let now : HeapParts = c.args.parts.now in
    subst (λ (p : ℕ). PartsDo now now (Place c.args.root) (PlaceIs (Some p) ∷ [])) (sym c.place-place.ensures)
    (old_place_does now c.args.root c.requires (above-as c.place-place.result (place_in now c.args.root) c.place-place.ensures c.if-place-lt-FIRST_OLD.false))
