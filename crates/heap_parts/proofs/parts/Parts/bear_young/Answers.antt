use Rattle.std.proofs.Common.{ℕ, sym, subst}
use Rattle.type_table.specs.Words.{words_in}
use Rattle.nursery_gaps.specs.Nursery.{Fits}
use Rattle.parts_model.specs.Parts.{HeapParts}
use Rattle.parts_model.specs.Births.{HasNurseryRoom}
use Rattle.heap_parts.specs.contracts.parts.Parts.{the_view}
use Rattle.heap_parts.proofs.BirthCalls.{young_room}
use Rattle.heap_parts.proofs.parts.Parts.bear_young.Goals as goal

pub returns-in_default-clause-full : goal.returns-in_default-clause-full
returns-in_default-clause-full c = λ f place fits.
    c.in_default.ensures.none place (subst (λ (k : ℕ). Fits c.self.inside.nursery k place) (sym c.words-n.ensures)
    (subst (λ (h : HeapParts). Fits h.nursery (words_in c.args.info.shape c.args.items) place) (sym c.self.view_is) fits))

pub bear_at-requires-clause-room : goal.bear_at-requires-clause-room
bear_at-requires-clause-room c =
    young_room (the_view c.self.inside) c.bump.new.self c.in-Some.place c.words-n.result c.args.root c.args.info c.args.items
    (subst (λ (h : HeapParts). HasNurseryRoom h c.args.root c.args.info c.args.items) (sym c.self.view_is) c.requires.room) c.words-n.ensures c.in-Some.ensures.lowest
