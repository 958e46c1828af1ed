use Rattle.std.proofs.Common.{◌≡◌, ◌-◌, ℕ, Bool, nat_eq, Result, arith, subst, ap, ◌∙◌}
use Rattle.std.specs.Prelude.{IfOk, reverse}
use Rattle.std.specs.declared.alloc.AllocFailed.{AllocFailed}
use Rattle.indexmap.specs.IndexSet.{insert_key}
use Rattle.remember_cards.specs.Entries.{Marks}
use Rattle.remember_cards.proofs.MarkLaws.{marked_none, marked_step, marked_all}
use Rattle.remember_cards.proofs.marks.ArrayMarks.mark.Goals as goal

pub loop-card-init : goal.loop-card-init
loop-card-init c =
    let order = c.requires.order in let room = c.in_ok-reserve.ensures.ok in (
      omega (arith, order),
      omega arith,
      omega (arith, room, order),
      ap (λ (m : Marks). m.is_whole) c.self.view_is,
      marked_none c.reserve.new.self.keys c.args.self.now.cards c.args.last (ap reverse c.reserve.ensures.keys ∙ ap (λ (m : Marks). m.cards) c.self.view_is),
    )

pub unwrap-requires : goal.unwrap-requires
unwrap-requires c = let room = c.loop-card.invariant.2 in let more = c.loop-card-test.true in c.insert.ensures.succeeds (omega (arith, room, more))

pub loop-card-preserved : goal.loop-card-preserved
loop-card-preserved c =
    let i = c.loop-card.invariant in let more = c.loop-card-test.true in let high = i.1 in let room = i.2 in
    let left = c.insert.ensures.spare in
    let keys : c.insert.new.self.keys ≡ insert_key nat_eq c.loop-card.self-inside.cards.keys (c.loop-card.card - 1) =
    subst (λ (r : Result Bool (AllocFailed ℕ)). IfOk r (λ _. c.insert.new.self.keys ≡ insert_key nat_eq c.loop-card.self-inside.cards.keys (c.loop-card.card - 1))) c.unwrap.ensures c.insert.ensures.keys in (
      omega (arith, more),
      omega (arith, high),
      omega (arith, room, left, more),
      i.3,
      marked_step c.loop-card.self-inside.cards.keys c.insert.new.self.keys c.args.self.now.cards c.loop-card.card c.args.last (omega (arith, more)) high keys i.4,
    )

pub returns-clause-ok : goal.returns-clause-ok
returns-clause-ok c =
    let i = c.loop-card.invariant in let low = i.0 in let ended = c.loop-card-test.false in
    marked_all c.loop-card.self-inside.is_whole c.loop-card.self-inside.cards.keys c.args.self.now c.loop-card.card c.args.first c.args.last (omega (arith, low, ended)) c.requires.order i.3 i.4
