use Rattle.std.proofs.Common.{◌∙◌, ap, subst, sym, arith}
use Rattle.type_table.specs.Words.{words_in}
use Rattle.heap_space.specs.Memory.{Memory}
use Rattle.heap_space.specs.Places.{word_at}
use Rattle.object_view.specs.Views.{HasObject, view_at}
use Rattle.object_view.proofs.InitLaws.{lies-part}
use Rattle.object_view.proofs.WholeLaws.{has_object-born, view_at-born}
use Rattle.object_view.proofs.NewbornLaws.{header-plain}
use Rattle.memory_tests.proofs.views.newborn.Goals as goal

pub init-requires-clause-room : goal.init-requires-clause-room
init-requires-clause-room c =
    lies-part c.args.space.now.blocks 5 12 5 (words_in c.args.info.shape c.args.len) c.requires.room (omega arith) (omega (arith, c.requires.small))

pub view-requires : goal.view-requires
view-requires c =
    let P : Memory → Type 0 = λ m. HasObject m c.args.types.now 5 in
    let room = lies-part c.args.space.now.blocks 5 12 5 (words_in c.args.info.shape c.args.len) c.requires.room (omega arith) (omega (arith, c.requires.small)) in
    subst P (sym c.init.ensures) (has_object-born c.args.space.now c.args.types.now 5 7 7 9 c.args.len 0 c.args.info c.requires.known (header-plain 7 (omega arith)) room)

pub returns-clause-view : goal.returns-clause-view
returns-clause-view c =
    let room = lies-part c.args.space.now.blocks 5 12 5 (words_in c.args.info.shape c.args.len) c.requires.room (omega arith) (omega (arith, c.requires.small)) in
    c.view.ensures.value ∙ ap (λ m. view_at c.args.types.now (word_at m.blocks) 5) c.init.ensures
    ∙ view_at-born c.args.space.now.blocks c.args.types.now 5 7 7 9 c.args.len 0 c.args.info c.requires.known (header-plain 7 (omega arith)) room
