use Rattle.std.proofs.Common.{◌≡◌, ◌-◌, ◌++◌, string_bytes}
use Rattle.hdr_draw.specs.Numbers.{last_digits}
use Rattle.hdr_draw.proofs.number.push_last_digits.Given as goal

abbrev pub invariant-loop-index : goal.invariant-loop-index
invariant-loop-index l =
    string_bytes l.text ++ last_digits (l.digits - l.index) l.number ≡ string_bytes l.initial.text ++ last_digits l.digits l.number
