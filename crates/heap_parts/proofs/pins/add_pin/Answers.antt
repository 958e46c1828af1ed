use Rattle.std.proofs.Common.{◌==◌, ℕ, List, position, sym, ap, ◌∙◌, arith}
use Rattle.heap_parts.proofs.PinIndex.{IsPinAt, pin_at, not_pinned, more-at, read-count}
use Rattle.heap_parts.proofs.pins.add_pin.Goals as goal

pub push_reserved-requires : goal.push_reserved-requires
push_reserved-requires c =
    c.requires.room (not_pinned c.args.pins.now.items c.args.place (ap (position (λ pin. pin.0 == c.args.place)) (sym c.deref.ensures.value) ∙ (sym c.pin_index.ensures ∙ c.in_default.is))).counted

pub returns-in_default-clause-pins : goal.returns-in_default-clause-pins
returns-in_default-clause-pins c =
    let pins : List (ℕ × ℕ) = c.args.pins.now.items in let place : ℕ = c.args.place in
    c.push_reserved.ensures.items
    ∙ sym (not_pinned pins place (ap (position (λ pin. pin.0 == place)) (sym c.deref.ensures.value) ∙ (sym c.pin_index.ensures ∙ c.in_default.is))).more

pub overflow_add-index_mut : goal.overflow_add-index_mut
overflow_add-index_mut c =
    let pins : List (ℕ × ℕ) = c.args.pins.now.items in let place : ℕ = c.args.place in
    let at : IsPinAt pins place c.in-Some.i = pin_at pins place c.in-Some.i (ap (position (λ pin. pin.0 == place)) (sym c.deref.ensures.value) ∙ (sym c.pin_index.ensures ∙ c.in-Some.is)) in
    let counted = read-count pins place c.in-Some.i c.index_mut.result.now at c.index_mut.ensures.value in
    let few = c.requires.fits in omega (arith, counted, few)

pub returns-clause-pins : goal.returns-clause-pins
returns-clause-pins c =
    let pins : List (ℕ × ℕ) = c.args.pins.now.items in let place : ℕ = c.args.place in
    let at : IsPinAt pins place c.in-Some.i = pin_at pins place c.in-Some.i (ap (position (λ pin. pin.0 == place)) (sym c.deref.ensures.value) ∙ (sym c.pin_index.ensures ∙ c.in-Some.is)) in
    more-at pins place c.in-Some.i c.index_mut.result.now at c.index_mut.ensures.value
