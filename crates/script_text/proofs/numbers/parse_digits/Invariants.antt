use Rattle.std.proofs.Common.{◌≡◌, ◌+◌, ◌*◌, ◌^◌, ◌<◌, drop, length}
use Rattle.text_model.specs.Numbers.{value_of, all_digits}
use Rattle.script_text.proofs.numbers.parse_digits.Given as goal

abbrev pub invariant-loop-byte : goal.invariant-loop-byte
invariant-loop-byte l = record {
  value : l.value * 10 ^ length (drop l.byte-index l.digits) + value_of (drop l.byte-index l.digits) ≡ value_of l.digits;
  fits : l.value < 2 ^ 64;
  digits : all_digits (drop l.byte-index l.digits) ≡ all_digits l.digits;
}
