use Rattle.std.proofs.Common.{◌≡◌, ◌+◌, ◌<◌, ◌≤◌, ◌^◌, true, take, length, unsigned_abs}
use Rattle.std.specs.Char.{is_ascii_digit}
use Rattle.std.specs.List.{list_all}
use Rattle.hdr_input.specs.declared.number.Number.{Number}
use Rattle.hdr_input.specs.Decimals.{HasDigitsOf, with_digits}
use Rattle.hdr_input.proofs.wide.parsing.with_digits.Given as goal

-- the digits so far were appended
abbrev pub invariant-loop-byte : goal.invariant-loop-byte
invariant-loop-byte l = record {
  digits : list_all is_ascii_digit (take l.byte-index l.text) ≡ true;
  bound : unsigned_abs l.number.exponent ≤ unsigned_abs l.fn.start.exponent + l.byte-index;
  value : unsigned_abs l.fn.start.exponent + length l.text < 2 ^ 62 → (x : Number)
      → HasDigitsOf l.fn.start x → HasDigitsOf l.number (with_digits x (take l.byte-index l.text) l.is_fraction);
}
