use Rattle.std.proofs.Common.{ℕ, IfOk, sym, ap, ◌∙◌, subst}
use Rattle.heap_parts.specs.Parts.{HeapParts, place_in, home_in}
use Rattle.heap_parts.specs.Homes.{CanReserve, ReservesHome}
use Rattle.heap_core.specs.Telling.{PartsTell}
use Rattle.heap_core.proofs.IdentityCalls.{above-as}
use Rattle.heap_core.proofs.TellCalls.{tells_place, tells_again, can_reserve, needs_home, on_reserved, on_none}
use Rattle.heap_core.proofs.identity.tell_home.Goals as goal

pub returns-then-is_settled-clause-tells : goal.returns-then-is_settled-clause-tells
returns-then-is_settled-clause-tells c =
    let now : HeapParts = c.args.parts.now in
    subst (λ (p : ℕ). PartsTell now now c.args.root p) (sym c.place-place.ensures)
    (tells_place now c.args.root c.requires.full (above-as c.place-place.result (place_in now c.args.root) c.place-place.ensures c.if-is_settled.true))

pub returns-in-Some-clause-tells : goal.returns-in-Some-clause-tells
returns-in-Some-clause-tells c =
    let now : HeapParts = c.args.parts.now in
    tells_again now c.args.root c.in-Some.home c.requires.full (ap (home_in now) (sym c.place-place.ensures) ∙ (sym c.home.ensures ∙ c.in-Some.is))

pub reserve_home-requires : goal.reserve_home-requires
reserve_home-requires c =
    let now : HeapParts = c.args.parts.now in
    subst (CanReserve now) (sym c.place-place.ensures) (can_reserve now c.args.root c.requires.standing c.requires.full
    (needs_home now c.args.root c.place-place.result c.place-place.ensures c.if-is_settled.false (sym c.home.ensures ∙ c.in_default.is)))

pub returns-clause-tells : goal.returns-clause-tells
returns-clause-tells c =
    let now : HeapParts = c.args.parts.now in
    on_reserved now c.reserve_home.new.self c.args.root c.reserve_home.result c.requires.full
    (needs_home now c.args.root c.place-place.result c.place-place.ensures c.if-is_settled.false (sym c.home.ensures ∙ c.in_default.is))
    (subst (λ (p : ℕ). IfOk c.reserve_home.result (λ home. ReservesHome now c.reserve_home.new.self p home)) c.place-place.ensures c.reserve_home.ensures.reserves)

pub returns-clause-err : goal.returns-clause-err
returns-clause-err c = on_none c.args.parts.now c.reserve_home.new.self c.reserve_home.result c.reserve_home.ensures.err
