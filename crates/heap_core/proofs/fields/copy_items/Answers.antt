use Rattle.std.proofs.Common.{◌≡◌, ◌≤◌, ◌<◌, ℕ, sym, ap, subst, arith}
use Rattle.heap_parts.specs.Parts.{HeapParts, place_in}
use Rattle.heap_parts.specs.Remembers.{CanRemember, RemembersItems}
use Rattle.heap_core.specs.declared.found.Found.{Found}
use Rattle.heap_core.proofs.FoundCalls.{Sees}
use Rattle.heap_core.proofs.CopyCalls.{copy_can}
use Rattle.heap_core.proofs.CopyFound.{target_finds, source_finds, target_sees, source_sees, copy_still, young_copied, old_copied}
use Rattle.heap_core.proofs.fields.copy_items.Goals as goal

at-root : (heap : HeapParts) (root : ℕ) (seen : Found) → Sees heap root seen → seen.place ≡ place_in heap root
at-root heap root seen s = ap (λ (f : Found). f.place) s.is

low-at : (heap : HeapParts) (root : ℕ) (seen : Found) → Sees heap root seen → seen.place < 4294967296 → place_in heap root < 4294967296
low-at heap root seen s low = subst (λ (p : ℕ). p < 4294967296) (at-root heap root seen s) low

high-at : (heap : HeapParts) (root : ℕ) (seen : Found) → Sees heap root seen → 4294967296 ≤ seen.place → 4294967296 ≤ place_in heap root
high-at heap root seen s high = subst (λ (p : ℕ). 4294967296 ≤ p) (at-root heap root seen s) high

remembered : (heap new : HeapParts) (root item n : ℕ) (seen : Found) → Sees heap root seen → RemembersItems heap new seen.place item n → RemembersItems heap new (place_in heap root) item n
remembered heap new root item n seen s r = subst (λ (p : ℕ). RemembersItems heap new p item n) (at-root heap root seen s) r

pub unreachable-requires : goal.unreachable-requires
unreachable-requires c = target_finds c.args.parts.now c.args.root c.args.i c.args.from c.args.j c.args.n c.requires.ready c.args.found c.requires.found c.in_default.is

pub unreachable-requires-in_default-source : goal.unreachable-requires-in_default-source
unreachable-requires-in_default-source c = source_finds c.args.parts.now c.args.root c.args.i c.args.from c.args.j c.args.n c.requires.ready c.args.source c.requires.source c.in_default-source.is

pub copy_refs-requires-clause-to : goal.copy_refs-requires-clause-to
copy_refs-requires-clause-to c =
    (target_sees c.args.parts.now c.args.root c.args.i c.args.from c.args.j c.args.n c.requires.ready c.args.found c.in-Some.target c.requires.found c.in-Some.is).0.found

pub copy_refs-requires-clause-from : goal.copy_refs-requires-clause-from
copy_refs-requires-clause-from c =
    (source_sees c.args.parts.now c.args.root c.args.i c.args.from c.args.j c.args.n c.requires.ready c.args.source c.in-Some-source.seen c.requires.source c.in-Some-source.is).0.found

pub copy_refs-requires-clause-items : goal.copy_refs-requires-clause-items
copy_refs-requires-clause-items c =
    (target_sees c.args.parts.now c.args.root c.args.i c.args.from c.args.j c.args.n c.requires.ready c.args.found c.in-Some.target c.requires.found c.in-Some.is).1

pub copy_refs-requires-clause-from_items : goal.copy_refs-requires-clause-from_items
copy_refs-requires-clause-from_items c =
    (source_sees c.args.parts.now c.args.root c.args.i c.args.from c.args.j c.args.n c.requires.ready c.args.source c.in-Some-source.seen c.requires.source c.in-Some-source.is).1

pub returns-then-target-lt-FIRST_OLD-clause-does : goal.returns-then-target-lt-FIRST_OLD-clause-does
returns-then-target-lt-FIRST_OLD-clause-does c =
    let t = (target_sees c.args.parts.now c.args.root c.args.i c.args.from c.args.j c.args.n c.requires.ready c.args.found c.in-Some.target c.requires.found c.in-Some.is).0 in
    let s = (source_sees c.args.parts.now c.args.root c.args.i c.args.from c.args.j c.args.n c.requires.ready c.args.source c.in-Some-source.seen c.requires.source c.in-Some-source.is).0 in
    young_copied c.args.parts.now c.copy_refs.new.parts c.args.root c.args.i c.args.from c.args.j c.args.n c.in-Some.target c.in-Some-source.seen c.requires.ready t s
    (low-at c.args.parts.now c.args.root c.in-Some.target t c.if-target-lt-FIRST_OLD.true) c.copy_refs.ensures

pub remember_items-requires : goal.remember_items-requires
remember_items-requires c =
    let now : HeapParts = c.args.parts.now in
    let t = (target_sees c.args.parts.now c.args.root c.args.i c.args.from c.args.j c.args.n c.requires.ready c.args.found c.in-Some.target c.requires.found c.in-Some.is).0 in
    subst (λ (p : ℕ). CanRemember now p c.args.i c.args.n) (sym (at-root now c.args.root c.in-Some.target t))
    (copy_can now c.args.root c.args.i c.args.from c.args.j c.args.n c.requires.ready (high-at now c.args.root c.in-Some.target t c.if-target-lt-FIRST_OLD.false))

pub copy_refs-requires-2-clause-to : goal.copy_refs-requires-2-clause-to
copy_refs-requires-2-clause-to c =
    let now : HeapParts = c.args.parts.now in
    let t = (target_sees c.args.parts.now c.args.root c.args.i c.args.from c.args.j c.args.n c.requires.ready c.args.found c.in-Some.target c.requires.found c.in-Some.is).0 in
    let s = (source_sees c.args.parts.now c.args.root c.args.i c.args.from c.args.j c.args.n c.requires.ready c.args.source c.in-Some-source.seen c.requires.source c.in-Some-source.is).0 in
    (copy_still now c.remember_items.new.self c.args.root c.args.i c.args.from c.args.j c.args.n c.in-Some.target c.in-Some-source.seen c.requires.ready t s (high-at now c.args.root c.in-Some.target t c.if-target-lt-FIRST_OLD.false)
    (remembered now c.remember_items.new.self c.args.root c.args.i c.args.n c.in-Some.target t c.in_ok-remember_items.ensures.remembers)).0.found

pub copy_refs-requires-2-clause-from : goal.copy_refs-requires-2-clause-from
copy_refs-requires-2-clause-from c =
    let now : HeapParts = c.args.parts.now in
    let t = (target_sees c.args.parts.now c.args.root c.args.i c.args.from c.args.j c.args.n c.requires.ready c.args.found c.in-Some.target c.requires.found c.in-Some.is).0 in
    let s = (source_sees c.args.parts.now c.args.root c.args.i c.args.from c.args.j c.args.n c.requires.ready c.args.source c.in-Some-source.seen c.requires.source c.in-Some-source.is).0 in
    (copy_still now c.remember_items.new.self c.args.root c.args.i c.args.from c.args.j c.args.n c.in-Some.target c.in-Some-source.seen c.requires.ready t s (high-at now c.args.root c.in-Some.target t c.if-target-lt-FIRST_OLD.false)
    (remembered now c.remember_items.new.self c.args.root c.args.i c.args.n c.in-Some.target t c.in_ok-remember_items.ensures.remembers)).1.found

pub copy_refs-requires-2-clause-items : goal.copy_refs-requires-2-clause-items
copy_refs-requires-2-clause-items c =
    (target_sees c.args.parts.now c.args.root c.args.i c.args.from c.args.j c.args.n c.requires.ready c.args.found c.in-Some.target c.requires.found c.in-Some.is).1

pub copy_refs-requires-2-clause-from_items : goal.copy_refs-requires-2-clause-from_items
copy_refs-requires-2-clause-from_items c =
    (source_sees c.args.parts.now c.args.root c.args.i c.args.from c.args.j c.args.n c.requires.ready c.args.source c.in-Some-source.seen c.requires.source c.in-Some-source.is).1

pub returns-clause-does : goal.returns-clause-does
returns-clause-does c =
    let now : HeapParts = c.args.parts.now in
    let t = (target_sees c.args.parts.now c.args.root c.args.i c.args.from c.args.j c.args.n c.requires.ready c.args.found c.in-Some.target c.requires.found c.in-Some.is).0 in
    let s = (source_sees c.args.parts.now c.args.root c.args.i c.args.from c.args.j c.args.n c.requires.ready c.args.source c.in-Some-source.seen c.requires.source c.in-Some-source.is).0 in
    old_copied now c.remember_items.new.self c.copy_refs-2.new.parts c.args.root c.args.i c.args.from c.args.j c.args.n c.in-Some.target c.in-Some-source.seen c.requires.ready t s (high-at now c.args.root c.in-Some.target t c.if-target-lt-FIRST_OLD.false)
    (remembered now c.remember_items.new.self c.args.root c.args.i c.args.n c.in-Some.target t c.in_ok-remember_items.ensures.remembers) c.copy_refs-2.ensures
