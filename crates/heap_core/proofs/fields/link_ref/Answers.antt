use Rattle.std.proofs.Common.{◌≡◌, ◌≤◌, ◌<◌, ℕ, ◌+◌, [], sym, ap, ◌∙◌, subst, arith}
use Rattle.text_model.specs.declared.command.Command.TheVariants.{Link}
use Rattle.heap_parts.specs.Parts.{HeapParts, place_in}
use Rattle.heap_parts.specs.Remembers.{CanRemember, RemembersItems}
use Rattle.heap_parts.specs.Effects.{with_word_at}
use Rattle.heap_core.specs.declared.found.Found.{Found}
use Rattle.heap_core.specs.Commands.{AreReady, PartsDo}
use Rattle.heap_core.proofs.Ready.{link_few}
use Rattle.heap_core.proofs.BarrierCalls.{link_can, link_young_does, link_old_does}
use Rattle.heap_core.proofs.FoundCalls.{Sees, link_finds, link_sees, found_after, ref_after}
use Rattle.heap_core.proofs.fields.link_ref.Goals as goal

young-at : (place root : ℕ) → place ≡ root → place < 4294967296 → root < 4294967296
young-at place root is low = omega (arith, is, low)

old-at : (place root : ℕ) → place ≡ root → 4294967296 ≤ place → 4294967296 ≤ root
old-at place root is high = omega (arith, is, high)

at-root : (heap : HeapParts) (root : ℕ) (seen : Found) → Sees heap root seen → seen.place ≡ place_in heap root
at-root heap root seen s = ap (λ (f : Found). f.place) s.is

young-written : (now new : HeapParts) (root i from to : ℕ) (seen : Found) → AreReady now (Link root i from) → Sees now root seen → seen.place < 4294967296
    → to ≡ place_in now from → new ≡ with_word_at now (seen.view.ref_start + i) to → PartsDo now new (Link root i from) []
young-written now new root i from to seen ready s low is written =
    subst (λ (h : HeapParts). PartsDo now h (Link root i from) []) (sym (written ∙ ap (λ (p : ℕ). with_word_at now (seen.view.ref_start + i) p) is))
    (subst (λ (f : Found). PartsDo now (with_word_at now (f.view.ref_start + i) (place_in now from)) (Link root i from) []) (sym s.is)
    (link_young_does now root i from ready (young-at seen.place (place_in now root) (at-root now root seen s) low)))

-- what is known after the item of a settled object was remembered
remembered : (now new : HeapParts) (root i : ℕ) (seen : Found) → Sees now root seen → RemembersItems now new seen.place i 1 → RemembersItems now new (place_in now root) i 1
remembered now new root i seen s r = subst (λ (p : ℕ). RemembersItems now new p i 1) (at-root now root seen s) r

old-written : (now mid new : HeapParts) (root i from to : ℕ) (seen : Found) → AreReady now (Link root i from) → Sees now root seen → 4294967296 ≤ seen.place
    → RemembersItems now mid seen.place i 1 → to ≡ place_in now from → new ≡ with_word_at mid (seen.view.ref_start + i) to → PartsDo now new (Link root i from) []
old-written now mid new root i from to seen ready s high r is written =
    let high_root = old-at seen.place (place_in now root) (at-root now root seen s) high in
    let more = remembered now mid root i seen s r in
    subst (λ (h : HeapParts). PartsDo now h (Link root i from) []) (sym (written ∙ ap (λ (p : ℕ). with_word_at mid (seen.view.ref_start + i) p) is))
    (subst (λ (start : ℕ). PartsDo now (with_word_at mid (start + i) (place_in now from)) (Link root i from) []) (sym (ref_after now mid root i from seen ready s high_root more))
    (link_old_does now mid root i from ready high_root more))

pub unreachable-requires : goal.unreachable-requires
unreachable-requires c = link_finds c.args.parts.now c.args.root c.args.i c.args.from c.args.found c.requires.ready c.requires.found c.in_default.is

pub write_ref-requires-clause-seen : goal.write_ref-requires-clause-seen
write_ref-requires-clause-seen c =
    (link_sees c.args.parts.now c.args.root c.args.i c.args.from c.args.found c.in-Some.seen c.requires.ready c.requires.found c.in-Some.is).0.found

pub write_ref-requires-clause-item : goal.write_ref-requires-clause-item
write_ref-requires-clause-item c =
    (link_sees c.args.parts.now c.args.root c.args.i c.args.from c.args.found c.in-Some.seen c.requires.ready c.requires.found c.in-Some.is).1

pub returns-then-seen-lt-FIRST_OLD-clause-does : goal.returns-then-seen-lt-FIRST_OLD-clause-does
returns-then-seen-lt-FIRST_OLD-clause-does c =
    young-written c.args.parts.now c.write_ref.new.parts c.args.root c.args.i c.args.from c.place-to.result c.in-Some.seen c.requires.ready
    (link_sees c.args.parts.now c.args.root c.args.i c.args.from c.args.found c.in-Some.seen c.requires.ready c.requires.found c.in-Some.is).0
    c.if-seen-lt-FIRST_OLD.true c.place-to.ensures c.write_ref.ensures

pub remember_items-requires : goal.remember_items-requires
remember_items-requires c =
    let now : HeapParts = c.args.parts.now in
    let s = (link_sees now c.args.root c.args.i c.args.from c.args.found c.in-Some.seen c.requires.ready c.requires.found c.in-Some.is).0 in
    subst (λ (p : ℕ). CanRemember now p c.args.i 1) (sym (at-root now c.args.root c.in-Some.seen s))
    (link_can now c.args.root c.args.i c.args.from c.requires.ready
    (old-at c.in-Some.seen.place (place_in now c.args.root) (at-root now c.args.root c.in-Some.seen s) c.if-seen-lt-FIRST_OLD.false)
    (link_few now c.args.root c.args.i c.args.from c.requires.ready))

pub write_ref-requires-2-clause-seen : goal.write_ref-requires-2-clause-seen
write_ref-requires-2-clause-seen c =
    let now : HeapParts = c.args.parts.now in
    let s = (link_sees now c.args.root c.args.i c.args.from c.args.found c.in-Some.seen c.requires.ready c.requires.found c.in-Some.is).0 in
    found_after now c.remember_items.new.self c.args.root c.args.i c.args.from c.in-Some.seen c.requires.ready s
    (old-at c.in-Some.seen.place (place_in now c.args.root) (at-root now c.args.root c.in-Some.seen s) c.if-seen-lt-FIRST_OLD.false)
    (remembered now c.remember_items.new.self c.args.root c.args.i c.in-Some.seen s c.in_ok-remember_items.ensures.remembers)

pub write_ref-requires-2-clause-item : goal.write_ref-requires-2-clause-item
write_ref-requires-2-clause-item c =
    (link_sees c.args.parts.now c.args.root c.args.i c.args.from c.args.found c.in-Some.seen c.requires.ready c.requires.found c.in-Some.is).1

pub returns-clause-does : goal.returns-clause-does
returns-clause-does c =
    old-written c.args.parts.now c.remember_items.new.self c.write_ref-2.new.parts c.args.root c.args.i c.args.from c.place-to.result c.in-Some.seen c.requires.ready
    (link_sees c.args.parts.now c.args.root c.args.i c.args.from c.args.found c.in-Some.seen c.requires.ready c.requires.found c.in-Some.is).0
    c.if-seen-lt-FIRST_OLD.false c.in_ok-remember_items.ensures.remembers c.place-to.ensures c.write_ref-2.ensures
