-- The digits before the index write the value, which has 32 bits.
use Rattle.std.proofs.Common.{◌≡◌, ◌^◌, ◌<◌, take}
use Rattle.std.specs.Str.Parse.{AllDigits, digits_value}
use Rattle.words.proofs.number.numeral_value.Given as goal

abbrev pub invariant-loop-byte : goal.invariant-loop-byte
invariant-loop-byte l = record {
  digits : AllDigits l.base (take l.byte-index l.digits);
  writes : l.value ≡ digits_value l.base (take l.byte-index l.digits);
  small : l.value < 2 ^ 32;
}
