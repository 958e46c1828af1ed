use Rattle.std.proofs.Common.{◌+◌, replicate, [], ◌∷◌, ap, ap₂, sym, ◌∙◌, arith}
use Rattle.type_table.specs.Words.{words_in}
use Rattle.object_view.specs.Births.{born_rest}
use Rattle.object_view.proofs.InitLaws.{has_room, room-writes, room-has, room-part, writes-two, writes-more, writes-word, array-room, array-rest}
use Rattle.object_view.proofs.birth.init.Goals as goal

pub write-requires : goal.write-requires
write-requires c = let r = has_room c.args.space.now c.args.info.shape c.args.a c.args.birth.len c.arena_words-ordered.ensures.ordered c.requires.room in room-has c.args.a r (omega arith) (omega (arith, r.some))

pub overflow_add-a : goal.overflow_add-a
overflow_add-a c = let r = has_room c.args.space.now c.args.info.shape c.args.a c.args.birth.len c.arena_words-ordered.ensures.ordered c.requires.room in omega (arith, r.some, r.fits)

pub write-requires-2 : goal.write-requires-2
write-requires-2 c = let r = has_room c.args.space.now c.args.info.shape c.args.a c.args.birth.len c.arena_words-ordered.ensures.ordered c.requires.room in room-has (c.args.a + 1) (room-writes c.write.new.self c.args.a c.args.birth.header r c.write.ensures) (omega arith) (omega (arith, r.some))

pub overflow_add-a-in-Fixed : goal.overflow_add-a-in-Fixed
overflow_add-a-in-Fixed c = let r = has_room c.args.space.now c.args.info.shape c.args.a c.args.birth.len c.arena_words-ordered.ensures.ordered c.requires.room in omega (arith, r.some, r.fits)

pub fill_zero-requires : goal.fill_zero-requires
fill_zero-requires c =
    let r = has_room c.args.space.now c.args.info.shape c.args.a c.args.birth.len c.arena_words-ordered.ensures.ordered c.requires.room in
    let size = ap (λ s. words_in s c.args.birth.len) c.in-Fixed.is in
    room-part (c.args.a + 2) (c.from.result + c.from-in-Fixed.result) (room-writes c.write-2.new.self (c.args.a + 1) c.args.birth.number (room-writes c.write.new.self c.args.a c.args.birth.header r c.write.ensures) c.write-2.ensures) (omega arith)
    (omega (arith, size, c.from.ensures, c.from-in-Fixed.ensures))

pub overflow_add-a-in-IntArray : goal.overflow_add-a-in-IntArray
overflow_add-a-in-IntArray c = let r = has_room c.args.space.now c.args.info.shape c.args.a c.args.birth.len c.arena_words-ordered.ensures.ordered c.requires.room in omega (arith, r.some, r.fits)

pub write-requires-in-IntArray : goal.write-requires-in-IntArray
write-requires-in-IntArray c =
    let r = has_room c.args.space.now c.args.info.shape c.args.a c.args.birth.len c.arena_words-ordered.ensures.ordered c.requires.room in
    (array-room c.args.info.shape c.args.birth.len (room-writes c.write-2.new.self (c.args.a + 1) c.args.birth.number (room-writes c.write.new.self c.args.a c.args.birth.header r c.write.ensures) c.write-2.ensures) c.in-IntArray.is).third

pub overflow_add-a-in-IntArray-2 : goal.overflow_add-a-in-IntArray-2
overflow_add-a-in-IntArray-2 c =
    let r = has_room c.args.space.now c.args.info.shape c.args.a c.args.birth.len c.arena_words-ordered.ensures.ordered c.requires.room in
    omega (arith, (array-room c.args.info.shape c.args.birth.len r c.in-IntArray.is).fits)

pub fill_zero-requires-in-IntArray : goal.fill_zero-requires-in-IntArray
fill_zero-requires-in-IntArray c =
    let r = has_room c.args.space.now c.args.info.shape c.args.a c.args.birth.len c.arena_words-ordered.ensures.ordered c.requires.room in
    let wrote = (room-writes c.write-2.new.self (c.args.a + 1) c.args.birth.number (room-writes c.write.new.self c.args.a c.args.birth.header r c.write.ensures) c.write-2.ensures) in
    (array-room c.args.info.shape c.args.birth.len (room-writes c.write-in-IntArray.new.self (c.args.a + 2) c.args.birth.len wrote c.write-in-IntArray.ensures) c.in-IntArray.is).items

pub overflow_add-a-in-Weak : goal.overflow_add-a-in-Weak
overflow_add-a-in-Weak c = let r = has_room c.args.space.now c.args.info.shape c.args.a c.args.birth.len c.arena_words-ordered.ensures.ordered c.requires.room in omega (arith, r.some, r.fits)

pub write-requires-in-Weak : goal.write-requires-in-Weak
write-requires-in-Weak c =
    let r = has_room c.args.space.now c.args.info.shape c.args.a c.args.birth.len c.arena_words-ordered.ensures.ordered c.requires.room in
    let size = ap (λ s. words_in s c.args.birth.len) c.in-Weak.is in
    room-has (c.args.a + 2) (room-writes c.write-2.new.self (c.args.a + 1) c.args.birth.number (room-writes c.write.new.self c.args.a c.args.birth.header r c.write.ensures) c.write-2.ensures) (omega arith) (omega (arith, size))

pub returns-in-Fixed : goal.returns-in-Fixed
returns-in-Fixed c =
    writes-two c.args.space.now c.write.new.self c.write-2.new.self c.fill_zero.new.self c.args.a c.args.birth.header c.args.birth.number
    (replicate (c.from.result + c.from-in-Fixed.result) 0) (born_rest c.args.info.shape c.args.birth.len c.args.birth.target)
    c.write.ensures c.write-2.ensures c.fill_zero.ensures
    (ap₂ (λ i r. replicate (i + r) 0) c.from.ensures c.from-in-Fixed.ensures ∙ sym (ap (λ s. born_rest s c.args.birth.len c.args.birth.target) c.in-Fixed.is))

pub returns-in-IntArray : goal.returns-in-IntArray
returns-in-IntArray c =
    writes-two c.args.space.now c.write.new.self c.write-2.new.self c.fill_zero-in-IntArray.new.self c.args.a c.args.birth.header c.args.birth.number
    (c.args.birth.len ∷ replicate c.args.birth.len 0) (born_rest c.args.info.shape c.args.birth.len c.args.birth.target)
    c.write.ensures c.write-2.ensures
    (writes-more c.write-2.new.self c.write-in-IntArray.new.self c.fill_zero-in-IntArray.new.self c.args.a c.args.birth.len (replicate c.args.birth.len 0) c.write-in-IntArray.ensures c.fill_zero-in-IntArray.ensures)
    (sym (array-rest c.args.info.shape c.args.birth.len c.args.birth.target c.in-IntArray.is))

pub returns-in-Weak : goal.returns-in-Weak
returns-in-Weak c =
    writes-two c.args.space.now c.write.new.self c.write-2.new.self c.write-in-Weak.new.self c.args.a c.args.birth.header c.args.birth.number
    (c.args.birth.target ∷ []) (born_rest c.args.info.shape c.args.birth.len c.args.birth.target) c.write.ensures c.write-2.ensures
    (writes-word c.write-2.new.self c.write-in-Weak.new.self (c.args.a + 2) c.args.birth.target c.write-in-Weak.ensures)
    (sym (ap (λ s. born_rest s c.args.birth.len c.args.birth.target) c.in-Weak.is))
