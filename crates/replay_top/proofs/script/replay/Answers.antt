use Rattle.std.proofs.Common.{Err, ◌∙◌, ap, sym, subst}
use Rattle.std.proofs.lemmas.Result.{err_from_is_err_and}
use Rattle.store_model.specs.Progress.{at_start}
use Rattle.heap_core.specs.Heap.{HeapSeen}
use Rattle.session_core.specs.Standing.{StandsAt}
use Rattle.session_core.proofs.Places.{stands_first}
use Rattle.replay_top.proofs.RunEnds.{ends_unbegun, ends_unread, ends_marking}
use Rattle.replay_top.proofs.script.replay.Goals as goal

pub returns-in_default-clause-ends : goal.returns-in_default-clause-ends
returns-in_default-clause-ends g c =
    ends_unbegun (g.F.Files.bytes c.args.files.now c.args.name.now) (g.F.Files.begun c.args.files.now) (g.F.Files.begun c.begin_file.new.self)
    (g.F.Files.rest c.begin_file.new.self) (g.K.Sink.written c.args.out.now) c.args.heap.now c.in_default.ensures.counted c.requires.closed

pub returns-in_err-bytes-clause-ends : goal.returns-in_err-bytes-clause-ends
returns-in_err-bytes-clause-ends g c =
    let p = err_from_is_err_and c.from_residual.result c.from_residual.ensures.1 in
    ends_unread (g.F.Files.bytes c.args.files.now c.args.name.now) (g.F.Files.begun c.args.files.now) (g.F.Files.begun c.begin_file.new.self)
    (g.F.Files.rest c.begin_file.new.self) (g.K.Sink.written c.args.out.now) c.args.heap.now c.from_residual.result (p.1 ∙ ap Err p.2)

pub returns-in_err-session-clause-ends : goal.returns-in_err-session-clause-ends
returns-in_err-session-clause-ends g c =
    let p = err_from_is_err_and c.from_residual-in_err-session.result c.from_residual-in_err-session.ensures.1 in
    ends_unread (g.F.Files.bytes c.args.files.now c.args.name.now) (g.F.Files.begun c.args.files.now) (g.F.Files.begun c.begin_file.new.self)
    (g.F.Files.rest c.begin_file.new.self) (g.K.Sink.written c.args.out.now) c.args.heap.now c.from_residual-in_err-session.result (p.1 ∙ ap Err p.2)

pub do_units-requires-clause-may : goal.do_units-requires-clause-may
do_units-requires-clause-may g c = c.in-Ok-over.ensures.begins.1

pub do_units-requires-clause-placed : goal.do_units-requires-clause-placed
do_units-requires-clause-placed g c =
    let P : HeapSeen → Type 0 = λ heap. StandsAt c.in_ok-session.session heap at_start in
    subst P (sym c.requires.closed) (stands_first c.in_ok-session.session c.in_ok-session.ensures)

pub returns-clause-ends : goal.returns-clause-ends
returns-clause-ends g c =
    ends_marking (g.F.Files.bytes c.args.files.now c.args.name.now) (g.F.Files.rest c.begin_file.new.self) (g.F.Files.begun c.args.files.now)
    (g.F.Files.begun c.over.new.files) (g.F.Files.rest c.over.new.files) (g.K.Sink.written c.args.out.now) c.args.heap.now c.in-Ok.ensures.begun
    c.requires.closed c.in-Err.ensures.breaks
