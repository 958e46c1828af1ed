use Rattle.std.proofs.Common.{◌∙◌}
use Rattle.heap_parts.proofs.WeakBirthCalls.{weak_young, weak_old, none_unlisted, young-listed, old-listed}
use Rattle.heap_parts.proofs.parts.Parts.bear_weak.Goals as goal

pub bear_young-requires-clause-room : goal.bear_young-requires-clause-room
bear_young-requires-clause-room c = young-listed c.args.self.now c.list_weak.new.self c.args.root c.args.info c.in_ok-list_weak.ensures.ok c.requires.young

pub bear_young-requires-clause-target : goal.bear_young-requires-clause-target
bear_young-requires-clause-target c = λ other. absurd (other c.requires.weak)

pub bear_old-requires-clause-room : goal.bear_old-requires-clause-room
bear_old-requires-clause-room c =
    old-listed c.args.self.now c.bear_young.new.self c.args.root c.args.info (c.bear_young.ensures.same c.if-bear_young.false ∙ c.in_ok-list_weak.ensures.ok) c.requires.old

pub bear_old-requires-clause-target : goal.bear_old-requires-clause-target
bear_old-requires-clause-target c = λ other. absurd (other c.requires.weak)

pub returns-then-bear_young-clause-born : goal.returns-then-bear_young-clause-born
returns-then-bear_young-clause-born c =
    weak_young c.args.self.now c.list_weak.new.self c.bear_young.new.self c.place_weak.new.self c.args.root c.args.type_id c.args.info c.args.target
    c.requires.young.slot c.in_ok-list_weak.ensures.ok (c.bear_young.ensures.bears c.if-bear_young.true) c.place_weak.ensures

pub returns-in-Err-clause-err : goal.returns-in-Err-clause-err
returns-in-Err-clause-err c =
    none_unlisted c.args.self.now c.bear_young.new.self c.bear_old.new.self c.unlist_weak.new.self
    (c.bear_young.ensures.same c.if-bear_young.false ∙ c.in_ok-list_weak.ensures.ok) c.in-Err.ensures.err c.unlist_weak.ensures

pub returns-clause-born : goal.returns-clause-born
returns-clause-born c =
    weak_old c.args.self.now c.list_weak.new.self c.bear_young.new.self c.bear_old.new.self c.place_weak-2.new.self c.args.root c.args.type_id c.args.info c.args.target
    c.requires.young.slot c.in_ok-list_weak.ensures.ok (c.bear_young.ensures.same c.if-bear_young.false) (c.bear_young.ensures.full c.if-bear_young.false)
    c.in_default.ensures.born c.place_weak-2.ensures
