use Rattle.std.proofs.Common.{◌≡◌, ◌*◌, ◌+◌, ◌-◌, get_or, sym, ◌∙◌, arith}
use Rattle.std.proofs.lemmas.Bool.{le-leb, and_from}
use Rattle.script_text.proofs.Numerals.{digit_read, digit_passes, overflows, all_read}
use Rattle.script_text.proofs.numbers.parse_digits.Goals as goal

pub returns-in_err-checked_mul : goal.returns-in_err-checked_mul
returns-in_err-checked_mul c =
    c.from_residual.ensures ∙ sym (overflows c.loop-byte.value c.loop-byte.byte-index c.args.digits.now (omega arith) c.loop-byte.invariant.value (omega (arith, c.in_err-checked_mul.ensures)))

pub returns-in_err-value : goal.returns-in_err-value
returns-in_err-value c =
    c.from_residual-in_err-value.ensures ∙ sym (overflows c.loop-byte.value c.loop-byte.byte-index c.args.digits.now (omega arith) c.loop-byte.invariant.value (omega (arith, c.in_err-value.ensures, c.in_ok-checked_mul.ensures)))

pub loop-byte-preserved : goal.loop-byte-preserved
loop-byte-preserved c =
    let ds = c.args.digits.now in
    let i = c.loop-byte.byte-index in
    let more = c.in_ok-value.ensures in
    let ten = c.in_ok-checked_mul.ensures in
    let cases = c.if-not-is_ascii_digit.ensures.cases in
    let value : c.in_ok-value.value ≡ c.loop-byte.value * 10 + (get_or ds i 0 - 48) = omega arith in
    record {
      value = rw value (digit_read c.loop-byte.value i ds (omega arith) c.loop-byte.invariant.value);
      fits = omega arith;
      digits = digit_passes i ds (omega arith) (and_from _ _ (le-leb 48 (get_or ds i 0) cases.0) (le-leb (get_or ds i 0) 57 cases.1)) ∙ c.loop-byte.invariant.digits;
    }

pub returns : goal.returns
returns c = sym (all_read c.loop-byte.value c.loop-byte.byte-index c.args.digits.now (omega arith) c.loop-byte.invariant.value c.loop-byte.invariant.digits (omega arith))
