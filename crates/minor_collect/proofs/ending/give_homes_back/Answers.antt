use Rattle.std.proofs.Common.{◌≡◌, ℕ, suc, ◌+◌, ◌++◌, List, [], ◌∷◌, slice_index_or, take, sym, ◌∙◌, ap, subst, arith}
use Rattle.std.proofs.Math.Seq.{take-suc}
use Rattle.std.proofs.lemmas.List.{take_all}
use Rattle.minor_collect.specs.Gives.{GaveAll}
use Rattle.minor_collect.proofs.PlacesSteps.{get_in}
use Rattle.minor_collect.proofs.GiveSteps.{GivesTo, gives_can, gives_more}
use Rattle.minor_collect.proofs.ending.give_homes_back.Goals as goal

pub give_home_back-requires : goal.give_home_back-requires
give_home_back-requires c = gives_can c.args.parts.now c.loop-p.parts c.args.dead.now (take c.loop-p.p-index c.args.dead.now) (slice_index_or c.args.dead.now c.loop-p.p-index 0) c.requires c.loop-p.invariant
    (get_in c.args.dead.now c.loop-p.p-index c.loop-p-test.true)

pub loop-p-preserved : goal.loop-p-preserved
loop-p-preserved c =
    let next : take (c.loop-p.p-index + 1) c.args.dead.now ≡ take c.loop-p.p-index c.args.dead.now ++ slice_index_or c.args.dead.now c.loop-p.p-index 0 ∷ [] =
    ap (λ (k : ℕ). take k c.args.dead.now) (let e : c.loop-p.p-index + 1 ≡ suc c.loop-p.p-index = omega (arith) in e) ∙ take-suc c.args.dead.now c.loop-p.p-index 0 c.loop-p-test.true in
    subst (λ (done : List ℕ). GivesTo c.args.parts.now c.give_home_back.new.parts c.args.dead.now done) (sym next)
    (gives_more c.args.parts.now c.loop-p.parts c.give_home_back.new.parts c.args.dead.now (take c.loop-p.p-index c.args.dead.now) (slice_index_or c.args.dead.now c.loop-p.p-index 0) c.loop-p.invariant
    (get_in c.args.dead.now c.loop-p.p-index c.loop-p-test.true) c.give_home_back.ensures)

pub returns : goal.returns
returns c = λ giving gives gone.
    subst (λ (done : List ℕ). GaveAll giving c.args.parts.now c.loop-p.parts done) (take_all c.loop-p.p-index c.args.dead.now (omega (arith, c.loop-p-test.false))) (c.loop-p.invariant.each giving gives gone)
