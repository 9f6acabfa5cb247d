-- Laws of what tallies with bounds count.
use Rattle.std.specs.Prelude.{◌≡◌, ℕ, zero, suc, ◌≤◌, List, [], ◌∷◌, ◌++◌, replicate, refl}
use Rattle.std.proofs.Common.{sym, ◌∙◌, subst, append_assoc}
use Rattle.std.proofs.lemmas.List.{append-nil}
use Rattle.hdr_input.specs.declared.number.Number.{Number}
use Rattle.hdr_input.specs.declared.bound_tally.BoundTally.{BoundTally}
use Rattle.hdr_input.specs.declared.wide.Wide.{Wide}
use Rattle.hdr_model.specs.Correction.{missing}
use Rattle.hdr_input.specs.Bounds.{Counts, HasCounted, of_units}
use Rattle.hdr_input.specs.Decimals.{StandsFor}
use Rattle.hdr_input.specs.Numbers.{in_units}

-- some numbers are counted
abbrev pub CountsSome : BoundTally → BoundTally → Type 0
CountsSome old new = (numbers : List Number) × Counts old numbers new

-- the missing samples before a number, in units of a tally
abbrev pub missing_of : BoundTally → Number → List Number
missing_of t x = of_units t.tally.decimals (missing (in_units x.digits x.decimals t.tally.decimals) t.tally.interval)

-- samples are the missing ones before a number; there are none if no interval is expected
pub record AreMissing (t : BoundTally) (x : Number) (samples : List Number) : Type 0 where
  pub none : t.tally.interval ≡ 0 → samples ≡ []
  pub all : t.tally.decimals ≤ 18 → samples ≡ missing_of t x

-- the number that a wide one stands for is counted, with the missing samples before it
abbrev pub CountsOne : Wide → BoundTally → BoundTally → Type 0
CountsOne wide old new = (x : Number) → StandsFor wide x
    → (samples : List Number) × AreMissing old x samples × Counts old (x ∷ samples) new

-- a list, some times
abbrev pub repeated : ℕ → List Number → List Number
repeated zero numbers = []
repeated (suc count) numbers = repeated count numbers ++ numbers

-- the number that a wide one stands for is counted some times, each with the missing samples before it
abbrev pub CountsEach : Wide → ℕ → BoundTally → BoundTally → Type 0
CountsEach wide count old new = (x : Number) → StandsFor wide x → old.tally.decimals ≤ 18 → Counts old (repeated count (x ∷ missing_of old x)) new

-- it is counted some times, alone if no interval is expected
pub record CountsTimes (wide : Wide) (count : ℕ) (old new : BoundTally) : Type 0 where
  pub copies : old.tally.interval ≡ 0 → (x : Number) → StandsFor wide x → Counts old (replicate count x) new
  pub each : CountsEach wide count old new

-- nothing is counted where nothing changes
pub counts_nothing : (t : BoundTally) → CountsSome t t
counts_nothing t = (
  [],
  record {
    ends = refl;
    all = λ S h. let P : List Number → Type 0 = λ numbers. HasCounted t numbers in subst P (sym (append-nil S)) h;
  },
)

-- what is counted after the first is counted after both
pub counts_after : (a b c : BoundTally) → CountsSome a b → CountsSome b c → CountsSome a c
counts_after a b c first more = (
  first.0 ++ more.0,
  record {
    ends = more.1.ends ∙ first.1.ends;
    all = λ S h. let P : List Number → Type 0 = λ numbers. HasCounted c numbers in subst P (append_assoc S first.0 more.0) (more.1.all (S ++ first.0) (first.1.all S h));
  },
)
