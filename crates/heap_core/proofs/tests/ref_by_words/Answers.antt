use Rattle.std.proofs.Common.{◌≡◌, ◌≤◌, ◌<◌, ℕ, [], sym, ap, ◌∙◌, subst, arith}
use Rattle.text_model.specs.declared.command.Command.TheVariants.{Link}
use Rattle.heap_parts.specs.Parts.{HeapParts, place_in}
use Rattle.heap_parts.specs.Remembers.{CanRemember, RemembersItems}
use Rattle.heap_parts.specs.Effects.{with_word_at, ref_place}
use Rattle.heap_core.specs.Commands.{PartsDo}
use Rattle.heap_core.proofs.Ready.{link_ready, link_few}
use Rattle.heap_core.proofs.BarrierCalls.{link_can, link_ready_after, link_young_does, link_old_does}
use Rattle.heap_core.proofs.tests.ref_by_words.Goals as goal

young-at : (place root : ℕ) → place ≡ root → place < 4294967296 → root < 4294967296
young-at place root is low = omega (arith, is, low)

old-at : (place root : ℕ) → place ≡ root → 4294967296 ≤ place → 4294967296 ≤ root
old-at place root is high = omega (arith, is, high)

pub put_ref_word-requires-clause-object : goal.put_ref_word-requires-clause-object
put_ref_word-requires-clause-object c = (link_ready c.args.parts.now c.args.root c.args.i c.args.from c.requires).object

pub put_ref_word-requires-clause-item : goal.put_ref_word-requires-clause-item
put_ref_word-requires-clause-item c = (link_ready c.args.parts.now c.args.root c.args.i c.args.from c.requires).item_in

pub returns-then-place-lt-FIRST_OLD : goal.returns-then-place-lt-FIRST_OLD
returns-then-place-lt-FIRST_OLD c =
    let now : HeapParts = c.args.parts.now in
    subst (λ (h : HeapParts). PartsDo now h (Link c.args.root c.args.i c.args.from) [])
    (sym (c.put_ref_word.ensures ∙ ap (λ (to : ℕ). with_word_at now (ref_place now c.args.root c.args.i) to) c.place-to.ensures))
    (link_young_does now c.args.root c.args.i c.args.from c.requires (young-at c.place-place.result (place_in now c.args.root) c.place-place.ensures c.if-place-lt-FIRST_OLD.true))

pub remember_items-requires : goal.remember_items-requires
remember_items-requires c =
    let now : HeapParts = c.args.parts.now in
    subst (λ (p : ℕ). CanRemember now p c.args.i 1) (sym c.place-place.ensures)
    (link_can now c.args.root c.args.i c.args.from c.requires (old-at c.place-place.result (place_in now c.args.root) c.place-place.ensures c.if-place-lt-FIRST_OLD.false)
    (link_few now c.args.root c.args.i c.args.from c.requires))

pub put_ref_word-requires-2-clause-object : goal.put_ref_word-requires-2-clause-object
put_ref_word-requires-2-clause-object c =
    let now : HeapParts = c.args.parts.now in let new : HeapParts = c.remember_items.new.self in
    (link_ready_after now new c.args.root c.args.i c.args.from c.requires (old-at c.place-place.result (place_in now c.args.root) c.place-place.ensures c.if-place-lt-FIRST_OLD.false)
    (subst (λ (p : ℕ). RemembersItems now new p c.args.i 1) c.place-place.ensures c.in_ok-remember_items.ensures.remembers)).object

pub put_ref_word-requires-2-clause-item : goal.put_ref_word-requires-2-clause-item
put_ref_word-requires-2-clause-item c =
    let now : HeapParts = c.args.parts.now in let new : HeapParts = c.remember_items.new.self in
    (link_ready_after now new c.args.root c.args.i c.args.from c.requires (old-at c.place-place.result (place_in now c.args.root) c.place-place.ensures c.if-place-lt-FIRST_OLD.false)
    (subst (λ (p : ℕ). RemembersItems now new p c.args.i 1) c.place-place.ensures c.in_ok-remember_items.ensures.remembers)).item_in

pub returns : goal.returns
returns c =
    let now : HeapParts = c.args.parts.now in let new : HeapParts = c.remember_items.new.self in
    subst (λ (h : HeapParts). PartsDo now h (Link c.args.root c.args.i c.args.from) [])
    (sym (c.put_ref_word-2.ensures ∙ ap (λ (to : ℕ). with_word_at new (ref_place new c.args.root c.args.i) to) c.place-to.ensures))
    (link_old_does now new c.args.root c.args.i c.args.from c.requires (old-at c.place-place.result (place_in now c.args.root) c.place-place.ensures c.if-place-lt-FIRST_OLD.false)
    (subst (λ (p : ℕ). RemembersItems now new p c.args.i 1) c.place-place.ensures c.in_ok-remember_items.ensures.remembers))
