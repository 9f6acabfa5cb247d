-- What is recorded in each second of a run, and what is written for it.
use Rattle.std.specs.Prelude.{◌≡◌, ◌==◌, ℕ, ◌-◌, ◌*◌, ◌^◌, if◌then◌else◌, List, [], None, true}
use Rattle.std.specs.Bool.{MatchBool}
use Rattle.hdr_model.specs.Plain.{Plain, empty_plain}
use Rattle.hdr_model.specs.Recording.{after_reset}
use Rattle.hdr_model.specs.Correction.{after_correct}
use Rattle.hdrhistogram.specs.V2.{IsV2}
use Rattle.hdrhistogram.specs.LogLeaving.{IsIntervalText}
use Rattle.hdr_load.specs.declared.second.Second.{Second}

-- nothing is recorded in the first second
abbrev pub new_second : ℕ → Second
new_second sigfig = record { number = 0; histogram = empty_plain 1 2 sigfig true }

-- `s` without its samples, and with the same bins
abbrev pub after_second : Second → Second
after_second s = record { number = s.number; histogram = after_reset s.histogram }

-- what is recorded so far in the second of index `number`: nothing, if that is not the current second `s`
abbrev pub recorded_in : Second → ℕ → Plain
recorded_in s number = if s.number == number then s.histogram else after_reset s.histogram

-- a response is recorded in its second, with correction
abbrev pub after_response : Second → ℕ → ℕ → ℕ → Second
after_response s number response interval =
    record { number = number; histogram = after_correct (2 ^ 64 - 1) (recorded_in s number) response 1 interval }

-- a second with samples is written as an interval of one second, with the greatest value divided by 1,000
abbrev pub IsIntervalOf : Second → List ℕ → Type 0
IsIntervalOf s text =
    MatchBool (s.histogram.total == 0) (text ≡ []) (IsIntervalText IsV2 s.histogram None (s.number * 1_000_000_000) 1_000_000_000 1_000 text)

-- the current second `s` is written before a response of another second is recorded
abbrev pub IsWrittenBefore : Second → ℕ → List ℕ → Type 0
IsWrittenBefore s number text = MatchBool (s.number == number) (text ≡ []) (IsIntervalOf s text)
