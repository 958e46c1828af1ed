use Rattle.std.proofs.Common.{◌≡◌, ℕ, List, take, map, get_or, ap, subst, arith}
use Rattle.std.proofs.lemmas.List.{take_all}
use Rattle.heap_space.specs.Extents.{Extent}
use Rattle.heap_phases.specs.Ending.{husk_of}
use Rattle.heap_phases.proofs.HuskTable.{IsFilledWith, filled_none, filled_next, filled_table}
use Rattle.heap_phases.proofs.dead.list_husks.Goals as goal

pub loop-block-init : goal.loop-block-init
loop-block-init c = filled_none c.clear.new.self.entries c.clear.ensures.ordered c.clear.ensures.empty

pub loop-block-preserved : goal.loop-block-preserved
loop-block-preserved c =
    let words : ℕ = (get_or c.args.blocks.now c.loop-block.block-index (0, 0)).1 in
    filled_next c.args.blocks.now (husk_of c.args.space.now) c.loop-block.block-index c.loop-block.husks.entries c.insert.new.self.entries c.birth_at.result words c.loop-block-test.true c.loop-block.invariant
    (ap (λ (b : ℕ). (b, words)) c.birth_at.ensures) c.in_ok-insert.ensures.ordered c.in_ok-insert.ensures.updates.0

pub returns : goal.returns
returns c =
    let blocks : List Extent = c.args.blocks.now in
    let all : take c.loop-block.block-index blocks ≡ blocks = take_all c.loop-block.block-index blocks (omega (arith, c.loop-block-test.false)) in
    record {
      are = filled_table c.loop-block.husks.entries (map (husk_of c.args.space.now) blocks)
          (subst (λ (xs : List Extent). IsFilledWith c.loop-block.husks.entries (map (husk_of c.args.space.now) xs)) all c.loop-block.invariant);
    }
