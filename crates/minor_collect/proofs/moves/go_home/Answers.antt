use Rattle.std.proofs.Common.{ℕ, [], subst, sym}
use Rattle.std.specs.Ordering.{nat_cmp}
use Rattle.std.specs.FinMap as map_of
use Rattle.heap_space.specs.Memory.{Memory}
use Rattle.heap_parts.specs.Parts.{HeapParts}
use Rattle.heap_parts.specs.contracts.parts.Parts.{the_view}
use Rattle.minor_collect.specs.Calls.{Settled, settled_memory}
use Rattle.minor_collect.proofs.SettleLaws.{CanMoveWords, settle_moves}
use Rattle.minor_collect.proofs.RelocateLaws.{room_of_home, can_go_home}
use Rattle.minor_collect.proofs.moves.go_home.Goals as goal

pub settled_header-head-requires-clause-object : goal.settled_header-head-requires-clause-object
settled_header-head-requires-clause-object c = (can_go_home c.args.parts.now c.args.p c.args.n c.args.home c.requires.waits c.requires.home).object

pub settled_header-head-requires-clause-words : goal.settled_header-head-requires-clause-words
settled_header-head-requires-clause-words c = (can_go_home c.args.parts.now c.args.p c.args.n c.args.home c.requires.waits c.requires.home).size

pub settled_header-head-requires-clause-block : goal.settled_header-head-requires-clause-block
settled_header-head-requires-clause-block c = (can_go_home c.args.parts.now c.args.p c.args.n c.args.home c.requires.waits c.requires.home).block

pub move_words-requires-clause-source : goal.move_words-requires-clause-source
move_words-requires-clause-source c =
    (subst (λ (now : HeapParts). CanMoveWords c.requires.waits.stage now c.args.p c.args.n c.args.home) (sym c.parts.view_is) (can_go_home c.args.parts.now c.args.p c.args.n c.args.home c.requires.waits c.requires.home)).source

pub move_words-requires-clause-target : goal.move_words-requires-clause-target
move_words-requires-clause-target c =
    (subst (λ (now : HeapParts). CanMoveWords c.requires.waits.stage now c.args.p c.args.n c.args.home) (sym c.parts.view_is) (can_go_home c.args.parts.now c.args.p c.args.n c.args.home c.requires.waits c.requires.home)).target

pub move_words-requires-clause-apart : goal.move_words-requires-clause-apart
move_words-requires-clause-apart c = (can_go_home c.args.parts.now c.args.p c.args.n c.args.home c.requires.waits c.requires.home).apart

pub move_words-requires-clause-n : goal.move_words-requires-clause-n
move_words-requires-clause-n c = (can_go_home c.args.parts.now c.args.p c.args.n c.args.home c.requires.waits c.requires.home).wide

pub returns : goal.returns
returns c =
    let before : HeapParts = the_view c.parts.inside in
    let head : ℕ = c.settled_header-head.result in
    λ stage spot middle waits.
    let room = room_of_home stage c.args.parts.now spot c.args.p c.args.home middle waits.there waits.waits c.requires.home in
    let moved = settle_moves stage c.args.parts.now spot [] c.args.p c.args.n c.args.home head (map_of.remove c.args.parts.now.shadows c.args.p) middle room waits
    (c.settled_header-head.ensures _ spot.placing.waiting middle.mid.blocks) in
    subst (λ (homes : map_of.FinMap nat_cmp ℕ). Settled stage c.args.parts.now (record before { memory = c.move_words.new.space; shadows = homes }) spot c.args.p c.args.n c.args.home) (sym c.take_home.ensures.taken)
    (subst (λ (m : Memory). Settled stage c.args.parts.now (record before { memory = m; shadows = map_of.remove before.shadows c.args.p }) spot c.args.p c.args.n c.args.home) (sym c.move_words.ensures)
    (subst (λ (h : HeapParts). Settled stage c.args.parts.now (record h { memory = settled_memory h.memory c.args.p c.args.n c.args.home head; shadows = map_of.remove h.shadows c.args.p }) spot c.args.p c.args.n c.args.home) (sym c.parts.view_is) moved))
