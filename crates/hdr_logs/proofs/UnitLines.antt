-- Comments that have a unit.
use Rattle.std.proofs.Common.{◌≡◌, ℕ, ◌+◌, true, List, [], ◌∷◌, ◌++◌, length, slice_index, refl, subst, lit≤, arith}
use Rattle.std.specs.Char.{is_ascii_whitespace}
use Rattle.std.specs.Str.{IsTrimAsciiEnd, IsAsciiWhitespaceFrom}
use Rattle.hdr_input.specs.declared.unit.Unit.{Unit}
use Rattle.hdr_input.specs.declared.unit.Unit.TheVariants.{Nanoseconds, Microseconds, Milliseconds, Seconds}
use Rattle.hdr_logs.specs.Headers.{unit_comment, unit_line}

-- the last byte of a line is white space
last_byte : (line : List ℕ) (n : ℕ) → length line ≡ n + 1 → is_ascii_whitespace (slice_index line n) ≡ true → IsAsciiWhitespaceFrom line n
last_byte line n long is = λ i low high.
    let same : n ≡ i = omega (arith, long) in
    subst (λ k. is_ascii_whitespace (slice_index line k) ≡ true) same is

pub read_back : (unit : Unit) → IsTrimAsciiEnd (35 ∷ unit_comment unit ++ 10 ∷ []) (unit_line unit)
read_back Nanoseconds = (19, refl, refl, lit≤ tt, last_byte (35 ∷ unit_comment Nanoseconds ++ 10 ∷ []) 19 refl refl, λ h. refl)
read_back Microseconds = (19, refl, refl, lit≤ tt, last_byte (35 ∷ unit_comment Microseconds ++ 10 ∷ []) 19 refl refl, λ h. refl)
read_back Milliseconds = (19, refl, refl, lit≤ tt, last_byte (35 ∷ unit_comment Milliseconds ++ 10 ∷ []) 19 refl refl, λ h. refl)
read_back Seconds = (18, refl, refl, lit≤ tt, last_byte (35 ∷ unit_comment Seconds ++ 10 ∷ []) 18 refl refl, λ h. refl)
