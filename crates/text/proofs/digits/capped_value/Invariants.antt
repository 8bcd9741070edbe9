use Rattle.std.proofs.Common.{◌≡◌, IsTrue, min, take, drop}
use Rattle.std.specs.Str.{all_ascii_digits}
use Rattle.std.specs.Str.Parse.{digits_value}
use Rattle.text.proofs.digits.capped_value.Given as goal

abbrev pub invariant-loop-byte : goal.invariant-loop-byte
invariant-loop-byte l = record {
  digits : IsTrue (all_ascii_digits (drop l.byte-index l.word));
  value_is : l.value ≡ min (digits_value 10 (take l.byte-index l.word)) l.cap;
}
