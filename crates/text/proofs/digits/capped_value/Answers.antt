use Rattle.std.proofs.Common.{rules, arith, ◌≡◌, ◌+◌, ◌*◌, ◌-◌, slice_index_or, take}
use Rattle.std.specs.Str.Parse.{digits_value}
use Rattle.text.proofs.DigitValues.{rest_digits, value_more}
use Rattle.text.proofs.digits.capped_value.Goals as goal

pub loop-byte-preserved : goal.loop-byte-preserved
loop-byte-preserved c =
    let i = c.loop-byte.byte-index in
    let w = c.args.word.now in
    let parts = rest_digits w i (search rules) c.loop-byte.invariant.digits in
    let v : digits_value 10 (take (i + 1) w) ≡ digits_value 10 (take i w) * 10 + (slice_index_or w i 0 - 48) = value_more w i (search rules) parts.0 in
    record {
      digits = parts.1;
      value_is = omega (arith, v, c.loop-byte.invariant.value_is, c.min-value.ensures, c.from.ensures, c.from-in-loop-byte.ensures, c.from-in-loop-byte-2.ensures);
    }
