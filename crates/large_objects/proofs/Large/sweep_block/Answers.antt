use Rattle.std.proofs.Common.{◌≡◌, ℕ, List, [], ◌∷◌, ◌++◌, arith, sym, ap, ◌∙◌, subst}
use Rattle.heap_space.specs.Extents.{Extent}
use Rattle.object_header.specs.Words.{survives_sweep}
use Rattle.large_objects.specs.Blocks.{begin_elsewhere}
use Rattle.large_objects.specs.Sweep.{swept, left_over, freed_births}
use Rattle.large_objects.specs.Large.{HasBlocks}
use Rattle.large_objects.proofs.NextLaws.{next-block, block-within, block-has, block-second}
use Rattle.large_objects.proofs.SweepLaws.{at-next, first-next, live-kept, space-kept, births-kept, outside-kept, live-freed, space-freed, births-freed}
use Rattle.large_objects.proofs.Large.sweep_block.Goals as goal

pub read-header-requires : goal.read-header-requires
read-header-requires c = block-has _ _ (next-block _ _ _ c.lowest_waiting-a.ensures)

pub overflow_add-a : goal.overflow_add-a
overflow_add-a c = let w = block-within _ _ (next-block _ _ _ c.lowest_waiting-a.ensures) in omega (arith, w.1)

pub read-requires : goal.read-requires
read-requires c = block-second _ _ (next-block _ _ _ c.lowest_waiting-a.ensures)

pub returns-then-survives_sweep-clause-swept : goal.returns-then-survives_sweep-clause-swept
returns-then-survives_sweep-clause-swept c = λ live a waiting h.
    let large = c.args.self.now in let m = c.args.space.now in let r = c.lowest_waiting-a.result in
    let next = c.lowest_waiting-a.ensures in
    let here = c.keep.ensures.kept live waiting (first-next large m r live a waiting next h) in
    let same = live-kept m r live (ap survives_sweep (sym c.read-header.ensures) ∙ sym c.survives_sweep.ensures ∙ c.if-survives_sweep.true) in
    at-next (λ (b : ℕ). HasBlocks c.keep.new.self c.keep.new.space (left_over m b live) waiting) large m r live a waiting next
    (subst (λ (xs : List Extent). HasBlocks c.keep.new.self c.keep.new.space xs waiting) (sym same) here) h

pub returns-then-survives_sweep-clause-space : goal.returns-then-survives_sweep-clause-space
returns-then-survives_sweep-clause-space c = λ live a waiting h.
    let large = c.args.self.now in let m = c.args.space.now in let r = c.lowest_waiting-a.result in
    let same = space-kept m r (ap survives_sweep (sym c.read-header.ensures) ∙ sym c.survives_sweep.ensures ∙ c.if-survives_sweep.true) in
    at-next (λ (b : ℕ). c.keep.new.space ≡ swept m b) large m r live a waiting c.lowest_waiting-a.ensures (c.keep.ensures.space ∙ sym same) h

pub returns-then-survives_sweep-clause-births : goal.returns-then-survives_sweep-clause-births
returns-then-survives_sweep-clause-births c = λ live a waiting h.
    let large = c.args.self.now in let m = c.args.space.now in let r = c.lowest_waiting-a.result in
    let xs = c.args.freed.now.items in
    at-next (λ (b : ℕ). xs ≡ xs ++ freed_births m b) large m r live a waiting c.lowest_waiting-a.ensures
    (births-kept m r xs (ap survives_sweep (sym c.read-header.ensures) ∙ sym c.survives_sweep.ensures ∙ c.if-survives_sweep.true)) h

pub returns-then-survives_sweep-clause-outside : goal.returns-then-survives_sweep-clause-outside
returns-then-survives_sweep-clause-outside c =
    outside-kept c.args.self.now c.args.space.now c.keep.new.space c.lowest_waiting-a.result c.lowest_waiting-a.ensures c.keep.ensures.space

pub returns-clause-swept : goal.returns-clause-swept
returns-clause-swept c = λ live a waiting h.
    let large = c.args.self.now in let m = c.args.space.now in let r = c.lowest_waiting-a.result in
    let next = c.lowest_waiting-a.ensures in
    let here = c.free.ensures.freed live waiting (first-next large m r live a waiting next h) in
    let same = live-freed m r live (ap survives_sweep (sym c.read-header.ensures) ∙ sym c.survives_sweep.ensures ∙ c.if-survives_sweep.false) in
    at-next (λ (b : ℕ). HasBlocks c.free.new.self c.free.new.space (left_over m b live) waiting) large m r live a waiting next
    (subst (λ (xs : List Extent). HasBlocks c.free.new.self c.free.new.space xs waiting) (sym same) here) h

pub returns-clause-space : goal.returns-clause-space
returns-clause-space c = λ live a waiting h.
    let large = c.args.self.now in let m = c.args.space.now in let r = c.lowest_waiting-a.result in
    let same = space-freed m r (ap survives_sweep (sym c.read-header.ensures) ∙ sym c.survives_sweep.ensures ∙ c.if-survives_sweep.false) in
    at-next (λ (b : ℕ). c.free.new.space ≡ swept m b) large m r live a waiting c.lowest_waiting-a.ensures (c.free.ensures.space ∙ sym same) h

pub returns-clause-births : goal.returns-clause-births
returns-clause-births c = λ live a waiting h.
    let large = c.args.self.now in let m = c.args.space.now in let r = c.lowest_waiting-a.result in
    let xs = c.args.freed.now.items in
    let same = births-freed m r (ap survives_sweep (sym c.read-header.ensures) ∙ sym c.survives_sweep.ensures ∙ c.if-survives_sweep.false) in
    at-next (λ (b : ℕ). c.push.new.self.items ≡ xs ++ freed_births m b) large m r live a waiting c.lowest_waiting-a.ensures
    (c.in_ok-push.ensures.items ∙ ap (λ (v : ℕ). xs ++ v ∷ []) c.read.ensures ∙ ap (λ (ys : List ℕ). xs ++ ys) (sym same)) h

pub returns-then-survives_sweep-clause-stands : goal.returns-then-survives_sweep-clause-stands
returns-then-survives_sweep-clause-stands c =
    let next = c.lowest_waiting-a.ensures in
    record { live = next.live; waiting = next.waiting; blocks = c.keep.ensures.kept next.live next.waiting next.blocks }

pub returns-clause-stands : goal.returns-clause-stands
returns-clause-stands c =
    let next = c.lowest_waiting-a.ensures in
    record { live = begin_elsewhere c.lowest_waiting-a.result next.live; waiting = next.waiting; blocks = c.free.ensures.freed next.live next.waiting next.blocks }
