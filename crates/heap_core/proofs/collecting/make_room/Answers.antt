use Rattle.std.proofs.Common.{refl, sym, ap, ◌∙◌}
use Rattle.heap_parts.specs.Parts.{HeapParts}
use Rattle.collect_laws.proofs.BlockLaws.{told_into, untold}
use Rattle.collect_laws.proofs.RoomLaws.{has_room, finds_no_room}
use Rattle.heap_core.proofs.RoomCalls.{standing_after, counted_fit, with_error, without_error, appended_none, appended_where}
use Rattle.heap_core.proofs.collecting.make_room.Goals as goal

pub returns-then-is_err : goal.returns-then-is_err
returns-then-is_err c = (refl, with_error c.make_collections.result (sym c.is_err.ensures.value ∙ c.if-is_err.true) c.make_collections.ensures.due)

pub returns-then-is_err-2 : goal.returns-then-is_err-2
returns-then-is_err-2 c = (
  appended_none c.append.result c.append.new.self.items c.args.out.now.items _ (sym c.is_err-2.ensures.value ∙ c.if-is_err-2.true) c.append.ensures.items,
  (c.args.words, untold (without_error c.make_collections.result (sym c.is_err.ensures.value ∙ c.if-is_err.false) c.make_collections.ensures.makes)),
)

pub exceeds_limit-requires-clause-standing : goal.exceeds_limit-requires-clause-standing
exceeds_limit-requires-clause-standing c =
    standing_after (without_error c.make_collections.result (sym c.is_err.ensures.value ∙ c.if-is_err.false) c.make_collections.ensures.makes) c.requires.standing

pub counted_words-requires : goal.counted_words-requires
counted_words-requires c =
    counted_fit (standing_after (without_error c.make_collections.result (sym c.is_err.ensures.value ∙ c.if-is_err.false) c.make_collections.ensures.makes) c.requires.standing)

pub returns-then-exceeds_limit : goal.returns-then-exceeds_limit
returns-then-exceeds_limit c =
    let made = without_error c.make_collections.result (sym c.is_err.ensures.value ∙ c.if-is_err.false) c.make_collections.ensures.makes in
    let appended = appended_where c.append.result c.append.new.self.items c.args.out.now.items _ (sym c.is_err-2.ensures.value ∙ c.if-is_err-2.false) c.append.ensures.items in (
      refl,
      finds_no_room c.args.words c.counted_words.result c.parts.inside.settings.limit (told_into made c.clear.ensures.items appended)
          (sym c.exceeds_limit.ensures ∙ c.if-exceeds_limit.true) c.counted_words.ensures (ap (λ (heap : HeapParts). heap.setup.settings.limit) c.parts.view_is),
    )

pub returns : goal.returns
returns c =
    let made = without_error c.make_collections.result (sym c.is_err.ensures.value ∙ c.if-is_err.false) c.make_collections.ensures.makes in
    let appended = appended_where c.append.result c.append.new.self.items c.args.out.now.items _ (sym c.is_err-2.ensures.value ∙ c.if-is_err-2.false) c.append.ensures.items in
    let told = told_into made c.clear.ensures.items appended in
    record { made = told; room = has_room c.args.words told c.requires.standing.store c.requires.standing.stands (sym c.exceeds_limit.ensures ∙ c.if-exceeds_limit.false) }
