use Rattle.std.proofs.Common.{Err, ◌∙◌, ap, subst}
use Rattle.std.proofs.lemmas.Result.{err_from_is_err_and}
use Rattle.script_convert.specs.Convert.{Converts}
use Rattle.script_convert.proofs.FormEnds.{ends_unbegun, ends_unread, ends_marking}
use Rattle.script_convert.proofs.form.convert.Goals as goal

pub returns-in_default-clause-converts : goal.returns-in_default-clause-converts
returns-in_default-clause-converts g c =
    ends_unbegun (g.F.Files.bytes c.args.files.now c.args.name.now) (g.F.Files.begun c.args.files.now) (g.F.Files.begun c.begin_file.new.self)
    (g.F.Files.rest c.begin_file.new.self) (g.K.Sink.written c.args.out.now) c.in_default.ensures.counted

pub returns-in_err-bytes-clause-converts : goal.returns-in_err-bytes-clause-converts
returns-in_err-bytes-clause-converts g c =
    let p = err_from_is_err_and c.from_residual.result c.from_residual.ensures.1 in
    ends_unread (g.F.Files.bytes c.args.files.now c.args.name.now) (g.F.Files.begun c.args.files.now) (g.F.Files.begun c.begin_file.new.self)
    (g.F.Files.rest c.begin_file.new.self) (g.K.Sink.written c.args.out.now) c.from_residual.result (p.1 ∙ ap Err p.2)

pub returns-clause-converts : goal.returns-clause-converts
returns-clause-converts g c =
    ends_marking (g.F.Files.bytes c.args.files.now c.args.name.now) (g.F.Files.rest c.begin_file.new.self) (g.F.Files.begun c.args.files.now)
    (g.F.Files.begun c.over.new.files) (g.F.Files.rest c.over.new.files) (g.K.Sink.written c.args.out.now) c.in-Ok.ensures.begun c.in-Err.ensures.breaks
