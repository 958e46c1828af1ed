use Rattle.std.proofs.Common.{◌==◌, ◌-◌, ℕ, List, position, sym, ap, ◌∙◌, arith}
use Rattle.heap_parts.proofs.PinIndex.{IsPinAt, pin_at, not_pinned, less-at, read-key, read-count}
use Rattle.heap_parts.proofs.pins.take_pin.Goals as goal

pub returns-in_default-clause-left : goal.returns-in_default-clause-left
returns-in_default-clause-left c =
    let pins : List (ℕ × ℕ) = c.args.pins.now.items in let place : ℕ = c.args.place in
    let none = (not_pinned pins place (ap (position (λ pin. pin.0 == place)) (sym c.deref.ensures.value) ∙ (sym c.pin_index.ensures ∙ c.in_default.is))).counted in
    let some = c.requires in omega (arith, none, some)

pub returns-in_default-clause-pins : goal.returns-in_default-clause-pins
returns-in_default-clause-pins c =
    let pins : List (ℕ × ℕ) = c.args.pins.now.items in let place : ℕ = c.args.place in
    sym (not_pinned pins place (ap (position (λ pin. pin.0 == place)) (sym c.deref.ensures.value) ∙ (sym c.pin_index.ensures ∙ c.in_default.is))).less

pub overflow_sub-left : goal.overflow_sub-left
overflow_sub-left c =
    let pins : List (ℕ × ℕ) = c.args.pins.now.items in let place : ℕ = c.args.place in
    let at : IsPinAt pins place c.in-Some.i = pin_at pins place c.in-Some.i (ap (position (λ pin. pin.0 == place)) (sym c.deref.ensures.value) ∙ (sym c.pin_index.ensures ∙ c.in-Some.is)) in
    let counted = read-count pins place c.in-Some.i c.index.result.now at c.index.ensures in
    let some = c.requires in omega (arith, counted, some)

pub returns-then-left-eq0-clause-left : goal.returns-then-left-eq0-clause-left
returns-then-left-eq0-clause-left c =
    let pins : List (ℕ × ℕ) = c.args.pins.now.items in let place : ℕ = c.args.place in
    let at : IsPinAt pins place c.in-Some.i = pin_at pins place c.in-Some.i (ap (position (λ pin. pin.0 == place)) (sym c.deref.ensures.value) ∙ (sym c.pin_index.ensures ∙ c.in-Some.is)) in
    ap (λ (n : ℕ). n - 1) (read-count pins place c.in-Some.i c.index.result.now at c.index.ensures)

pub returns-then-left-eq0-clause-pins : goal.returns-then-left-eq0-clause-pins
returns-then-left-eq0-clause-pins c =
    let pins : List (ℕ × ℕ) = c.args.pins.now.items in let place : ℕ = c.args.place in
    let at : IsPinAt pins place c.in-Some.i = pin_at pins place c.in-Some.i (ap (position (λ pin. pin.0 == place)) (sym c.deref.ensures.value) ∙ (sym c.pin_index.ensures ∙ c.in-Some.is)) in
    c.remove.ensures.items ∙ at.gone (sym (ap (λ (n : ℕ). n - 1) (read-count pins place c.in-Some.i c.index.result.now at c.index.ensures)) ∙ c.if-left-eq0.true)

pub returns-else-left-eq0-clause-left : goal.returns-else-left-eq0-clause-left
returns-else-left-eq0-clause-left c =
    let pins : List (ℕ × ℕ) = c.args.pins.now.items in let place : ℕ = c.args.place in
    let at : IsPinAt pins place c.in-Some.i = pin_at pins place c.in-Some.i (ap (position (λ pin. pin.0 == place)) (sym c.deref.ensures.value) ∙ (sym c.pin_index.ensures ∙ c.in-Some.is)) in
    ap (λ (n : ℕ). n - 1) (read-count pins place c.in-Some.i c.index.result.now at c.index.ensures)

pub returns-else-left-eq0-clause-pins : goal.returns-else-left-eq0-clause-pins
returns-else-left-eq0-clause-pins c =
    let pins : List (ℕ × ℕ) = c.args.pins.now.items in let place : ℕ = c.args.place in
    let at : IsPinAt pins place c.in-Some.i = pin_at pins place c.in-Some.i (ap (position (λ pin. pin.0 == place)) (sym c.deref.ensures.value) ∙ (sym c.pin_index.ensures ∙ c.in-Some.is)) in
    less-at pins place c.in-Some.i c.index_mut.result.now.0 (c.index.result.now.1 - 1) at (read-key pins place c.in-Some.i c.index_mut.result.now at c.index_mut.ensures.value)
    (ap (λ (n : ℕ). n - 1) (read-count pins place c.in-Some.i c.index.result.now at c.index.ensures)) c.if-left-eq0.false
