use Rattle.std.proofs.Common.{Bool, ap, ◌∙◌}
use Rattle.parts_model.specs.Parts.{HeapParts}
use Rattle.parts_model.specs.Headers.{keeps_cards}
use Rattle.parts_model.specs.Births.{old_header}
use Rattle.heap_parts.specs.contracts.parts.Parts.{the_view}
use Rattle.heap_parts.proofs.BirthCalls.{taken_room, bears_old}
use Rattle.heap_parts.proofs.parts.Parts.bear_old.Goals as goal

pub bear_at-requires-clause-room : goal.bear_at-requires-clause-room
bear_at-requires-clause-room c =
    taken_room c.args.self.now c.take_block.new.self c.words-n.result c.in_ok-place.place c.args.root c.args.info c.args.items
    c.requires.room c.words-n.ensures c.in_ok-place.ensures.taken

pub returns-clause-born : goal.returns-clause-born
returns-clause-born c =
    bears_old c.args.self.now c.take_block.new.self (the_view c.self-2.inside) c.words-n.result c.in_ok-place.place c.args.root c.args.type_id c.old_header-header.result c.args.info c.args.items c.args.target
    c.in_ok-place.ensures.taken c.words-n.ensures
    (c.old_header-header.ensures.value ∙ ap (λ (b : Bool). old_header c.args.type_id b)
    (c.keeps_cards.ensures ∙ ap (λ (h : HeapParts). keeps_cards h.setup.settings.card c.args.info.shape c.args.items) c.self.view_is))
    (c.self-2.view_is ∙ c.bear_at.ensures)
