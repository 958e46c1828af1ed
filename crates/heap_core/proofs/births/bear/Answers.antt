use Rattle.std.proofs.Common.{true, false, List, [], ◌∷◌, ◌++◌, sym, ap, ◌∙◌, subst}
use Rattle.text_model.specs.declared.line.Line.{Line}
use Rattle.text_model.specs.declared.line.Line.TheVariants.{Born}
use Rattle.heap_parts.specs.Parts.{HeapParts}
use Rattle.heap_parts.specs.Births.{TakesNone, HasOldRoom}
use Rattle.heap_core.proofs.BirthLaws.{none_keeps}
use Rattle.heap_core.proofs.BearLaws.{fits_found, old_room, bears_young, bears_old, on_err}
use Rattle.heap_core.proofs.births.bear.Goals as goal

pub try_young-requires : goal.try_young-requires
try_young-requires c = fits_found c.args.parts.now c.args.root c.args.type_id c.args.items c.args.info c.requires.may c.requires.known

pub returns-then-try_young-clause-bears : goal.returns-then-try_young-clause-bears
returns-then-try_young-clause-bears c =
    let birth = c.next_birth-birth.result in
    bears_young c.args.parts.now c.try_young.new.parts c.args.root c.args.type_id c.args.items birth c.args.info c.args.out.now.items c.push_reserved.new.self.items
    c.requires.may c.requires.known
    c.ranges.type_id.fits c.next_birth-birth.ensures c.if-birth-gt-LAST_BIRTH.false (c.try_young.ensures.small c.if-try_young.true) (c.try_young.ensures.bears c.if-try_young.true)
    (c.push_reserved.ensures.items ∙ ap (λ (ls : List Line). ls ++ Born birth false ∷ []) c.reserve.ensures.items)

pub bear_old-requires-clause-room : goal.bear_old-requires-clause-room
bear_old-requires-clause-room c =
    subst (λ (h : HeapParts). HasOldRoom h c.args.root c.args.info c.args.items) (sym (c.try_young.ensures.same c.if-try_young.false))
    (old_room c.args.parts.now c.args.root c.args.type_id c.args.items c.args.info
    (fits_found c.args.parts.now c.args.root c.args.type_id c.args.items c.args.info c.requires.may c.requires.known))

pub returns-in_err-bear_old-clause-err : goal.returns-in_err-bear_old-clause-err
returns-in_err-bear_old-clause-err c =
    on_err c.from_residual-in_err-bear_old.result (none_keeps c.args.parts.now c.bear_old.new.self
    (subst (λ (h : HeapParts). TakesNone h c.bear_old.new.self) (c.try_young.ensures.same c.if-try_young.false) c.in_err-bear_old.ensures.err))

pub returns-clause-bears : goal.returns-clause-bears
returns-clause-bears c =
    let birth = c.next_birth-birth.result in
    bears_old c.args.parts.now c.try_young.new.parts c.bear_old.new.self c.args.root c.args.type_id c.args.items birth c.args.info c.args.out.now.items c.push_reserved-2.new.self.items
    c.requires.may c.requires.known
    c.ranges.type_id.fits c.next_birth-birth.ensures c.if-birth-gt-LAST_BIRTH.false (λ few place fits. c.try_young.ensures.full c.if-try_young.false few place fits)
    (c.try_young.ensures.same c.if-try_young.false) c.in_ok-bear_old.ensures.born
    (c.push_reserved-2.ensures.items ∙ ap (λ (ls : List Line). ls ++ Born birth true ∷ []) c.reserve.ensures.items)
