use Rattle.std.proofs.Common.{◌≡◌, ℕ, ◌+◌, ◌<◌, List, [], ◌∷◌, ◌++◌, take, length, set, sym, ap, ◌∙◌, subst, arith, length-append, length-take}
use Rattle.std.specs.Io.KnownBytes.{Consumes, prepend_known}
use Rattle.std.proofs.KnownBytes.{Consumes-trans}
use Rattle.std.proofs.lemmas.Bool.{ne_eqb}
use Rattle.std.proofs.lemmas.List.{take_more_set, length-set}
use Rattle.script_text.specs.Reader.{is_one_line}
use Rattle.script_text.proofs.KnownLines.{is_one_line-push, consumes_then_nothing}
use Rattle.script_text.proofs.reader.take_bytes.Goals as goal

pub returns-in-None-2-clause-taken : goal.returns-in-None-2-clause-taken
returns-in-None-2-clause-taken g c =
    let rest = g.F.Files.rest in
    let seen = c.loop-length.invariant in
    let before = prepend_known c.args.piece.now (rest c.args.files.now) in
    let mid = prepend_known c.loop-length.piece (rest c.loop-length.files) in
    let after = prepend_known c.next_byte.new.self (rest c.next_byte.new.files) in
    let line = take c.loop-length.length c.loop-length.line in
    let end = rw c.in-None-2.is at c.in_ok-next_byte.ensures.byte in (
      record { one_line = seen.one_line; within = omega arith },
      omega arith,
      consumes_then_nothing before mid after line seen.taken end.0,
      end.1,
    )

pub loop-length-preserved : goal.loop-length-preserved
loop-length-preserved g c =
    let rest = g.F.Files.rest in
    let seen = c.loop-length.invariant in
    let before = prepend_known c.args.piece.now (rest c.args.files.now) in
    let mid = prepend_known c.loop-length.piece (rest c.loop-length.files) in
    let after = prepend_known c.next_byte.new.self (rest c.next_byte.new.files) in
    let line = c.loop-length.line in
    let n = c.loop-length.length in
    let byte = c.in-Some.byte in
    let next = rw c.in-Some.is at c.in_ok-next_byte.ensures.byte in
    let within : n < length line = omega arith in
    let more : take (n + 1) (set line n byte) ≡ take n line ++ byte ∷ [] =
    take_more_set line n byte within in
    let other = ne_eqb byte 10 c.in-Some.byte-test.1 in
    let taken = Consumes-trans before mid after (take n line) (byte ∷ []) seen.taken next in
    record {
      one_line = ap is_one_line more ∙ is_one_line-push (take n line) byte seen.one_line other;
      taken = let P : List ℕ → Type 0 = Consumes before after in subst P (sym more) taken;
      long = length-set line n byte ∙ seen.long;
      later = omega (arith, c.in_ok-next_byte.ensures.cause.later);
      bytes = c.in_ok-next_byte.ensures.bytes ∙ seen.bytes;
      may_begin = c.in_ok-next_byte.ensures.may_begin ∙ seen.may_begin;
    }

pub returns-in-None-3-clause-taken : goal.returns-in-None-3-clause-taken
returns-in-None-3-clause-taken g c =
    let rest = g.F.Files.rest in
    let seen = c.loop-length.invariant in
    let before = prepend_known c.args.piece.now (rest c.args.files.now) in
    let mid = prepend_known c.loop-length.piece (rest c.loop-length.files) in
    let after = prepend_known c.next_byte-2.new.self (rest c.next_byte-2.new.files) in
    let line = take c.loop-length.length c.loop-length.line in
    let end = rw c.in-None-3.is at c.in_ok-next_byte-2.ensures.byte in
    let full : c.loop-length.length ≡ 200 = omega arith in (
      record { one_line = rw (← full) seen.one_line; within = omega arith },
      omega arith,
      rw (← full) (consumes_then_nothing before mid after line seen.taken end.0),
      end.1,
    )

pub returns-in-Some-eq10-2-clause-taken : goal.returns-in-Some-eq10-2-clause-taken
returns-in-Some-eq10-2-clause-taken g c =
    let rest = g.F.Files.rest in
    let seen = c.loop-length.invariant in
    let before = prepend_known c.args.piece.now (rest c.args.files.now) in
    let mid = prepend_known c.loop-length.piece (rest c.loop-length.files) in
    let after = prepend_known c.next_byte-2.new.self (rest c.next_byte-2.new.files) in
    let line = take c.loop-length.length c.loop-length.line in
    let byte = rw c.in-Some-eq10-2.is at c.in_ok-next_byte-2.ensures.byte in
    let next = rw c.in-Some-eq10-2.field-0-test at byte in
    let full : c.loop-length.length ≡ 200 = omega arith in (
      record { one_line = rw (← full) seen.one_line; within = omega arith },
      rw (← full) (Consumes-trans before mid after line (10 ∷ []) seen.taken next),
    )

pub returns-in-Some-2-clause-taken : goal.returns-in-Some-2-clause-taken
returns-in-Some-2-clause-taken g c =
    let rest = g.F.Files.rest in
    let seen = c.loop-length.invariant in
    let before = prepend_known c.args.piece.now (rest c.args.files.now) in
    let mid = prepend_known c.loop-length.piece (rest c.loop-length.files) in
    let after = prepend_known c.next_byte-2.new.self (rest c.next_byte-2.new.files) in
    let line = take c.loop-length.length c.loop-length.line in
    let byte = c.in-Some-2.field-0 in
    let next = rw c.in-Some-2.is at c.in_ok-next_byte-2.ensures.byte in
    let full : c.loop-length.length ≡ 200 = omega arith in (
      line ++ byte ∷ [],
      is_one_line-push line byte seen.one_line (ne_eqb byte 10 c.in-Some-2.field-0-test.1),
      omega (
        arith,
        length-append line (byte ∷ []),
        length-take c.loop-length.length c.loop-length.line,
      ),
      Consumes-trans before mid after line (byte ∷ []) seen.taken next,
    )
