-- Limits of changes: by how many percent a percentile may grow.
use Rattle.std.specs.Prelude.{◌≡◌, ◌≢◌, ℕ, ◌+◌, ◌*◌, ◌^◌, ◌<◌, ◌≤◌, List, ◌∷◌, ◌++◌, codes, length, slice_index, true, Option, Some}
use Rattle.std.specs.Char.{is_ascii_digit}
use Rattle.hdr_base.specs.Fractions.{Ratio}
use Rattle.hdr_compare.specs.Changes.{ExceedsBy, FallsBelowBy, IsOpen}
use Rattle.hdr_compare.specs.Shifts.{AreShifted}
use Rattle.hdr_compare.specs.declared.changes.Measured.{Measured}
use Rattle.hdr_input.specs.declared.number.Number.{Number}
use Rattle.hdr_runs.specs.declared.limit.LimitVerdict.{LimitVerdict}
use Rattle.hdr_runs.specs.declared.point.Point.{Point}
use Rattle.hdr_runs.specs.declared.limit.LimitVerdict.TheVariants.{Kept, Broken, Undecided, Few}

-- growth by p percent is that to num / den, where num = den + p parts of a hundred
abbrev pub parts_of : ℕ → ℕ
parts_of decimals = 100 * 10 ^ decimals

-- two fractions are the same number
abbrev pub IsSameFraction : Ratio → Ratio → Type 0
IsSameFraction p q = p.num * q.den ≡ q.num * p.den

-- a text begins with a digit
abbrev pub BeginsWithDigit : List ℕ → Type 0
BeginsWithDigit text = (digit : ℕ) × (rest : List ℕ) × (text ≡ digit ∷ rest) × (is_ascii_digit digit ≡ true)

-- a text is PERCENTILE>+AMOUNT%: the percentile has no `>` (62), and the amount begins with a digit
pub record IsLimitText (text percentile amount : List ℕ) : Type 0 where
  pub whole : text ≡ percentile ++ (codes ">+" ++ (amount ++ codes "%"))
  pub first : (i : ℕ) → i < length percentile → slice_index percentile i ≢ 62
  pub digit : BeginsWithDigit amount

abbrev pub grown : Number → ℕ
grown percent = parts_of percent.decimals + percent.digits

-- a percentage has at most 3 decimals, and with a hundred percent it is at most 10,000,000 parts
pub record IsAmount (percent : Number) : Type 0 where
  pub few : percent.decimals ≤ 3
  pub within : grown percent ≤ 10000000

-- whether y is above num / den times x: beyond chance it is, or it is below; chance can make both; or x or y has no end
abbrev pub IsVerdictAt : (num den : ℕ) → Measured → Measured → LimitVerdict → Type 0
IsVerdictAt num den x y Broken = ExceedsBy num den x y
IsVerdictAt num den x y Kept = FallsBelowBy num den x y
IsVerdictAt num den x y Undecided = (ExceedsBy num den x y → ⊥) × (FallsBelowBy num den x y → ⊥) × (IsOpen x.high y.low → ⊥)
IsVerdictAt num den x y Few = (FallsBelowBy num den x y → ⊥) × IsOpen x.high y.low

-- whether y grew from x by more than a percentage, in the smallest units in which both can be compared
pub record IsLimitVerdict (percent : Number) (x y : Measured) (verdict : LimitVerdict) : Type 0 where
  pub before : Measured
  pub after : Measured
  pub are_shifted : AreShifted x y before after
  pub is_verdict : IsVerdictAt (grown percent) (parts_of percent.decimals) before after verdict

-- whether a percentile of a run grew from that of another: without one of them it is not known
abbrev pub IsVerdictOfRuns : Number → Option Point → Option Point → LimitVerdict → Type 0
IsVerdictOfRuns percent (Some x) (Some y) verdict = IsLimitVerdict percent x.measured y.measured verdict
IsVerdictOfRuns percent before after verdict = verdict ≡ Few
