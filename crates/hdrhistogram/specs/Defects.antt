-- The defects of V2 bytes, and decoding them step by step: the first defect decides.
use Rattle.std.specs.Prelude.{◌≡◌, ℕ, ◌<◌, List, [], length, take, Option, Some, None, Result, Ok, Err}
use Rattle.std.specs.Io.KnownBytes.{Consumes}
use Rattle.hdrhistogram.specs.declared.serialization.errors.DeserializeError.{DeserializeError}
use Rattle.hdrhistogram.specs.declared.serialization.errors.DeserializeError.TheVariants.{IoError, InvalidCookie, UnsupportedFeature, UnsuitableCounterType, InvalidParameters, UsizeTypeTooSmall, EncodedArrayTooLong, OutOfMemory}

-- cut: the bytes end too soon; other_cookie: another format; unsupported: compressed, shifted or
-- scaled; bad_bounds: no histogram has these bounds; too_great: a count is above the counter's
-- greatest; past_bins: a nonzero count is past the last bin; too_far: a bin's index is above
-- `u64::MAX` (the errors of `Deserializer`)
pub data Defect : Type 0 where
  cut : Defect
  other_cookie : Defect
  unsupported : Defect
  bad_bounds : Defect
  too_great : Defect
  past_bins : Defect
  too_far : Defect

-- one step of decoding and then another
infixl 10 ◌>>=◌
abbrev pub ◌>>=◌ : {A B : Type 0} → Result A Defect → (A → Result B Defect) → Result B Defect
(Ok x) >>= f = f x
(Err e) >>= f = Err e

-- the value, unless it has a defect
abbrev pub unless : {A : Type 0} → Option Defect → A → Result A Defect
unless None x = Ok x
unless (Some f) x = Err f

-- the defect that an error names; running out of memory names none
abbrev pub defect_of_error : DeserializeError → Option Defect
defect_of_error (IoError cause) = Some cut
defect_of_error InvalidCookie = Some other_cookie
defect_of_error UnsupportedFeature = Some unsupported
defect_of_error InvalidParameters = Some bad_bounds
defect_of_error UnsuitableCounterType = Some too_great
defect_of_error EncodedArrayTooLong = Some past_bins
defect_of_error UsizeTypeTooSmall = Some too_far
defect_of_error OutOfMemory = None

-- the error is `OutOfMemory` only if the condition holds
abbrev pub RunsOutOnly : Type 0 → DeserializeError → Type 0
RunsOutOnly Condition OutOfMemory = Condition
RunsOutOnly Condition e = Unit {0}

-- the bytes have this defect, if one is named
abbrev pub FailsBy : {A : Type 0} → Option Defect → Result A Defect → Type 0
FailsBy None read = Unit {0}
FailsBy (Some f) read = read ≡ Err f

-- a function's result, seen by `view`, is what the bytes decode to, unless memory runs out
abbrev pub Gives : {X Y : Type 0} → (X → Y) → Result X DeserializeError → Result Y Defect → Type 0
Gives view (Ok x) read = read ≡ Ok (view x)
Gives view (Err e) read = FailsBy (defect_of_error e) read

-- no byte was taken after what decides: each proper prefix of the bytes is incomplete
abbrev pub TakesNoMore : {Y : Type 0} → (List ℕ → Result Y Defect) → List ℕ → Type 0
TakesNoMore read taken = (n : ℕ) → n < length taken → read (take n taken) ≡ Err cut

-- a function took bytes from a reader, no more than it needs, and its result is what they decode
-- to, with nothing after them
abbrev pub TakesAs : {X Y : Type 0} → Option (List ℕ) → Option (List ℕ) → (X → Y) → (List ℕ → Result (Y × List ℕ) Defect) → Result X DeserializeError → Type 0
TakesAs old new view read result = (taken : List ℕ) × Consumes old new taken × Gives (λ x. (view x, [])) result (read taken) × TakesNoMore read taken

-- the bytes that a function took from a reader have the defect of this error, and it took no more
-- than that
abbrev pub TakesDefect : {Y : Type 0} → Option (List ℕ) → Option (List ℕ) → (List ℕ → Result Y Defect) → DeserializeError → Type 0
TakesDefect old new read e = (taken : List ℕ) × Consumes old new taken × FailsBy (defect_of_error e) (read taken) × TakesNoMore read taken

-- a check returns `Ok` only without a defect, and otherwise the error of this one, unless memory
-- runs out
abbrev pub Checks : {X : Type 0} → Result X DeserializeError → Option Defect → Type 0
Checks (Ok x) defect = defect ≡ None
Checks (Err e) defect = FailsBy {A = ℕ} (defect_of_error e) (unless defect 0)
