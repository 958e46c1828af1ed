use Rattle.std.proofs.Common.{ℕ, List, [], ◌∷◌, ◌++◌, sym, ap, ◌∙◌, subst}
use Rattle.text_model.specs.declared.line.Line.{Line}
use Rattle.text_model.specs.declared.line.Line.TheVariants.{Born}
use Rattle.heap_parts.specs.WeakBirths.{BearsWeak}
use Rattle.heap_core.proofs.BirthLaws.{none_keeps}
use Rattle.heap_core.proofs.BearLaws.{on_err}
use Rattle.heap_core.proofs.WeakBearLaws.{weak_room, new_weak_bears}
use Rattle.heap_core.proofs.weak.bear_weak_in_room.Goals as goal

pub bear_weak-requires : goal.bear_weak-requires
bear_weak-requires c =
    weak_room c.args.parts.now c.args.root c.args.type_id c.args.info c.requires.may c.requires.known

pub returns-in_err-old-clause-err : goal.returns-in_err-old-clause-err
returns-in_err-old-clause-err c = on_err c.from_residual-in_err-old.result (none_keeps c.args.parts.now c.bear_weak.new.self c.in_err-old.ensures.err)

pub returns-clause-bears : goal.returns-clause-bears
returns-clause-bears c =
    let now = c.args.parts.now in let birth : ℕ = c.next_birth-birth.result in
    new_weak_bears now c.bear_weak.new.self c.args.root c.args.type_id c.args.target birth c.in_ok-old.old c.args.info c.args.out.now.items c.push_reserved.new.self.items
    c.requires.may c.requires.known c.ranges.type_id.fits c.next_birth-birth.ensures c.if-birth-gt-LAST_BIRTH.false
    (subst (λ (p : ℕ). BearsWeak c.in_ok-old.old now c.bear_weak.new.self c.args.root c.args.type_id c.args.info p) c.place-place.ensures c.in_ok-old.ensures.born)
    (c.push_reserved.ensures.items ∙ ap (λ (ls : List Line). ls ++ Born birth c.in_ok-old.old ∷ []) c.reserve.ensures.items)
