-- Worked rows, by computing.
use Rattle.std.proofs.Common.{◌≡◌, false, Some, None, codes, refl}
use Rattle.hdr_log.specs.Parts.{number_of, split_at_byte}
use Rattle.hdr_log.specs.Grammar.{time_of, is_decimal, nanos_of}
use Rattle.hdr_log.specs.Texts.{max_thousandths}

time_row : time_of (codes "18446744073709551615.0") ≡ Some 18446744073709551615000000000
unfolding time_of split_at_byte number_of nanos_of
time_row = refl

time_over : time_of (codes "18446744073709551616.0") ≡ None
unfolding time_of split_at_byte number_of nanos_of
time_over = refl

no_seconds : time_of (codes ".5") ≡ None
unfolding time_of split_at_byte number_of nanos_of
no_seconds = refl

max_row : max_thousandths 2 3 ≡ 667
max_row = refl

decimal_row : is_decimal (codes ".") ≡ false
unfolding split_at_byte
decimal_row = refl
