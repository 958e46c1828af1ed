use Rattle.std.proofs.Common.{◌≡◌, ◌≤◌, ◌-◌, ◌^◌, ◌⊎◌, suc, Err, [], ◌∷◌, inl, inr, ap, ◌∙◌, arith}
use Rattle.std.specs.Io.KnownBytes.{prepend_known}
use Rattle.std.proofs.KnownBytes.{Consumes-nil}
use Rattle.std.proofs.lemmas.Result.{err_from_is_err_and}
use Rattle.text_model.specs.Binary.{groups_of}
use Rattle.text_model.specs.BinaryReading.{groups_at}
use Rattle.script_binary.proofs.Parts.{takes_error, takes_no_byte, takes_behind}
use Rattle.script_binary.proofs.NumberLaws.{groups_at-end, passes_group, takes_last, refuses_longer, refuses_high, takes_more}
use Rattle.script_binary.proofs.number.+take_groups.Goals as goal
use Rattle.script_binary.proofs.number.+take_groups.Goals.{then-high-eq0-via-then-high-eq0, then-high-eq0-via-else-high-eq0+then-high-ge-HIGH_LIMIT}

pub returns-in_err-byte-clause-taken : goal.returns-in_err-byte-clause-taken
returns-in_err-byte-clause-taken g t c =
    let more = c.args.more in
    let before = prepend_known c.args.bytes.now (g.F.Files.rest c.args.files.now) in
    let after = prepend_known c.take_byte.new.bytes (g.F.Files.rest c.take_byte.new.files) in
    let answer = c.from_residual.result in
    let end = c.in_err-byte.field-0.0 in
    let error = err_from_is_err_and answer c.from_residual.ensures.1 in
    takes_error (groups_at (suc more)) (groups_of more) before after answer end (error.1 ∙ ap Err error.2)
    (takes_no_byte (groups_at (suc more)) (groups_of more) [] before before after end (Consumes-nil before) (groups_at-end (suc more)) c.in_err-byte.ensures.byte)

pub returns-then-byte-lt128-clause-taken : goal.returns-then-byte-lt128-clause-taken
returns-then-byte-lt128-clause-taken g t c =
    let before = prepend_known c.args.bytes.now (g.F.Files.rest c.args.files.now) in
    let after = prepend_known c.take_byte.new.bytes (g.F.Files.rest c.take_byte.new.files) in
    takes_last c.args.more c.in_ok-byte.byte c.from.result before after c.from.ensures c.if-byte-lt128.true c.in_ok-byte.ensures.byte

pub returns-then-more-eq0-clause-taken : goal.returns-then-more-eq0-clause-taken
returns-then-more-eq0-clause-taken g t c =
    let before = prepend_known c.args.bytes.now (g.F.Files.rest c.args.files.now) in
    let after = prepend_known c.take_byte.new.bytes (g.F.Files.rest c.take_byte.new.files) in
    refuses_longer c.args.more c.in_ok-byte.byte before after (omega arith) (omega arith) c.in_ok-byte.ensures.byte

pub returns-in_err-high-clause-taken : goal.returns-in_err-high-clause-taken
returns-in_err-high-clause-taken g t c =
    let more = c.args.more in
    let before = prepend_known c.args.bytes.now (g.F.Files.rest c.args.files.now) in
    let mid = prepend_known c.take_byte.new.bytes (g.F.Files.rest c.take_byte.new.files) in
    let after = prepend_known c.take_groups.new.bytes (g.F.Files.rest c.take_groups.new.files) in
    let byte = c.in_ok-byte.byte in
    let answer = c.from_residual-in_err-high.result in
    let end = c.in_err-high.field-0.0 in
    let error = err_from_is_err_and answer c.from_residual-in_err-high.ensures.1 in
    takes_error (groups_at (suc more)) (groups_of more) before after answer end (error.1 ∙ ap Err error.2)
    (takes_behind (groups_at (suc (more - 1))) (groups_at (suc more)) (groups_of (more - 1)) (groups_of more) (byte ∷ []) before mid after end
    c.in_ok-byte.ensures.byte (passes_group more (more - 1) byte (omega arith) (omega arith)) c.in_err-high.ensures.taken)

pub returns-then-high-eq0-clause-taken : goal.returns-then-high-eq0-clause-taken
returns-then-high-eq0-clause-taken g t c =
    let more = c.args.more in
    let before = prepend_known c.args.bytes.now (g.F.Files.rest c.args.files.now) in
    let mid = prepend_known c.take_byte.new.bytes (g.F.Files.rest c.take_byte.new.files) in
    let after = prepend_known c.take_groups.new.bytes (g.F.Files.rest c.take_groups.new.files) in
    let high = c.in_ok-high.high in
    let not : (high ≡ 0) ⊎ (2 ^ 57 ≤ high) = elim c.then-high-eq0.branch [
      | then-high-eq0-via-then-high-eq0 w ↦ inl (omega arith)
      | then-high-eq0-via-else-high-eq0+then-high-ge-HIGH_LIMIT w ↦ inr (omega arith)
    ] in
    refuses_high more (more - 1) c.in_ok-byte.byte high before mid after (omega arith) (omega arith) c.in_ok-byte.ensures.byte not
    c.in_ok-high.ensures.taken

pub returns-clause-taken : goal.returns-clause-taken
returns-clause-taken g t c =
    let more = c.args.more in
    let before = prepend_known c.args.bytes.now (g.F.Files.rest c.args.files.now) in
    let mid = prepend_known c.take_byte.new.bytes (g.F.Files.rest c.take_byte.new.files) in
    let after = prepend_known c.take_groups.new.bytes (g.F.Files.rest c.take_groups.new.files) in
    takes_more more (more - 1) c.in_ok-byte.byte c.from-2.result c.in_ok-high.high before mid after (omega arith) (omega arith) (omega arith)
    (omega arith) c.in_ok-byte.ensures.byte (omega arith) (omega arith) c.in_ok-high.ensures.taken
