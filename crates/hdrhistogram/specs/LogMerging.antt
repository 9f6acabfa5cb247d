-- The result of merging a log: the histograms of its chosen intervals are added in order, up to the
-- first error.
use Rattle.std.specs.Prelude.{◌≡◌, ℕ, ◌+◌, ◌<◌, ◌≤◌, length, Bool, true, false, ◌&&◌, nat_le, if◌then◌else◌, List, [], ◌∷◌, Option, Some, None, Result, Ok, Err}
use Rattle.hdr_base.specs.Classes.{Resolution, resolution_of}
use Rattle.hdr_model.specs.Plain.{Plain, resolution, empty_plain}
use Rattle.hdr_model.specs.Merging.{after_add}
use Rattle.hdr_model.specs.Joining.{after_adds, AreParts, joined_samples}
use Rattle.hdr_model.specs.Samples.{Fits}
use Rattle.hdr_model.specs.CallErrors.{IsBounds, IsCreationError}
use Rattle.hdr_model.specs.declared.errors.CreationError.{CreationError}
use Rattle.hdr_model.specs.declared.errors.CreationError.TheVariants as make
use Rattle.hdr_log.specs.Grammar.{Interval}
use Rattle.hdr_log.specs.Timed.{TimedInterval, timed_intervals}
use Rattle.hdr_log.specs.Texts.{base64_bytes}
use Rattle.hdrhistogram.specs.Chosen.{Filter, is_chosen}
use Rattle.hdrhistogram.specs.FieldRead.{IsHeldIn}
use Rattle.hdrhistogram.specs.V2Read.{ReadsV2}
use Rattle.hdrhistogram.specs.declared.serialization.errors.DeserializeError.{DeserializeError}
use Rattle.hdrhistogram.specs.declared.serialization.errors.FieldDecodeError.{FieldDecodeError}
use Rattle.hdrhistogram.specs.declared.serialization.errors.FieldDecodeError.TheVariants as field
use Rattle.hdrhistogram.specs.declared.serialization.interval_log.merge.MergeError.{MergeError}
use Rattle.hdrhistogram.specs.declared.serialization.interval_log.merge.MergeError.TheVariants.{Creation, Parse, Base64, Decode, OutOfMemory}

-- the state of a merge: its histogram, the numbers of intervals read and chosen, and the number of
-- chosen ones that are coarser than the histogram
pub record Merging : Type 0 where
  pub histogram : Plain
  pub intervals : ℕ
  pub chosen : ℕ
  pub coarser : ℕ

-- a merge starts with an empty histogram that grows
abbrev pub new_merging : ℕ → Merging
new_merging sigfig = record { histogram = empty_plain 1 2 sigfig true; intervals = 0; chosen = 0; coarser = 0 }

-- 1 if the classes of a histogram do not all lie in classes of the resolution (`IsFiner`), and 0
-- otherwise; the sum of that
unfoldable pub one_if_coarser : Resolution → Plain → ℕ
one_if_coarser g h = if nat_le (resolution h).unit g.unit && nat_le g.digits (resolution h).digits then 0 else 1

abbrev pub coarser_of : Resolution → List Plain → ℕ
coarser_of g [] = 0
coarser_of g (h ∷ hs) = one_if_coarser g h + coarser_of g hs

-- the state after an interval that is not chosen, and after one whose histogram is added
abbrev pub past_interval : Merging → Merging
past_interval m = record { histogram = m.histogram; intervals = m.intervals + 1; chosen = m.chosen; coarser = m.coarser }

abbrev pub with_interval : ℕ → Merging → Plain → Merging
with_interval greatest m source =
    record {
      histogram = after_add greatest m.histogram source;
      intervals = m.intervals + 1;
      chosen = m.chosen + 1;
      coarser = m.coarser + one_if_coarser (resolution m.histogram) source;
    }

-- the histogram that an interval's bytes decode to is added, whatever follows it
abbrev pub BytesMerge : ℕ → Merging → Result (Plain × ℕ) DeserializeError → Result Merging MergeError → Type 0
BytesMerge greatest m (Ok found) r = r ≡ Ok (with_interval greatest m found.0)
BytesMerge greatest m (Err e) r = r ≡ Err (Decode (m.intervals + 1) e)

-- the bytes of a field are decoded, with counters of 64 bits
abbrev pub FieldMerges : ℕ → Merging → Option (List ℕ) → Result Merging MergeError → Type 0
FieldMerges greatest m None r = r ≡ Err (Base64 (m.intervals + 1))
FieldMerges greatest m (Some bytes) r = (found : Result (Plain × ℕ) DeserializeError) × ReadsV2 18446744073709551615 bytes found × BytesMerge greatest m found r

-- an interval that is not chosen is only counted
abbrev pub IntervalMerges : ℕ → Merging → Bool → Interval → Result Merging MergeError → Type 0
IntervalMerges greatest m true interval r = FieldMerges greatest m (base64_bytes interval.field) r
IntervalMerges greatest m false interval r = r ≡ Ok (past_interval m)

-- an interval is chosen by its tag and its time, and an invalid line is an error of the merge
abbrev pub ItemMerges : ℕ → Filter → Merging → Result TimedInterval ℕ → Result Merging MergeError → Type 0
ItemMerges greatest filter m (Ok i) r = IntervalMerges greatest m (is_chosen filter i.interval.tag i.time) i.interval r
ItemMerges greatest filter m (Err at) r = r ≡ Err (Parse at)

-- a step with an error ends the merge; otherwise the rest follows
abbrev pub MergesOn : (Merging → Result Merging MergeError → Type 0) → Result Merging MergeError → Result Merging MergeError → Type 0
MergesOn Rest (Ok m) r = Rest m r
MergesOn Rest (Err e) r = r ≡ Err e

abbrev pub ItemsMerge : ℕ → Filter → List (Result TimedInterval ℕ) → Merging → Result Merging MergeError → Type 0
ItemsMerge greatest filter [] m r = r ≡ Ok m
ItemsMerge greatest filter (item ∷ items) m r =
    (step : Result Merging MergeError) × ItemMerges greatest filter m item step × MergesOn (ItemsMerge greatest filter items) step r

-- a log is merged into a histogram of these digits, if there is one
abbrev pub Merges : ℕ → Filter → ℕ → List ℕ → Result Merging MergeError → Type 0
Merges greatest filter sigfig log r = ItemsMerge greatest filter (timed_intervals log) (new_merging sigfig) r

-- the error of creating the histogram, and the error of decoding an interval's field
abbrev pub creation_error : CreationError → MergeError
creation_error make.OutOfMemory = OutOfMemory
creation_error e = Creation e

abbrev pub field_error : ℕ → FieldDecodeError → MergeError
field_error interval field.NotBase64 = Base64 interval
field_error interval (field.Decode e) = Decode interval e
field_error interval field.OutOfMemory = OutOfMemory

-- the error of a step is one of `Ends`, or memory ran out
abbrev pub IsStepError : (MergeError → Type 0) → MergeError → Type 0
IsStepError Ends (Creation e) = ⊥
IsStepError Ends OutOfMemory = Unit {0}
IsStepError Ends e = Ends e

-- a merge fails if no histogram has these digits, and otherwise with the first error of the log, or
-- memory ran out
abbrev pub IsMergeError : ℕ → Filter → ℕ → List ℕ → MergeError → Type 0
IsMergeError greatest filter sigfig log (Creation make.OutOfMemory) = ⊥
IsMergeError greatest filter sigfig log (Creation e) = IsCreationError 1 2 sigfig e
IsMergeError greatest filter sigfig log OutOfMemory = IsBounds 1 2 sigfig
IsMergeError greatest filter sigfig log e = IsBounds 1 2 sigfig × Merges greatest filter sigfig log (Err e)

-- a histogram and the numbers of chosen and of coarser intervals are the result of a merge
abbrev pub IsMergedBy : (Result Merging MergeError → Type 0) → Plain → ℕ → ℕ → Type 0
IsMergedBy Ends histogram chosen coarser =
    (intervals : ℕ) × Ends (Ok (record { histogram = histogram; intervals = intervals; chosen = chosen; coarser = coarser }))

-- the same, for any number of coarser intervals
abbrev pub IsMerged : (Result Merging MergeError → Type 0) → Plain → ℕ → Type 0
IsMerged Ends histogram chosen = (coarser : ℕ) × IsMergedBy Ends histogram chosen coarser

-- creating the histogram fails by name only for more than 5 digits
abbrev pub IsOfDigits : ℕ → MergeError → Type 0
IsOfDigits sigfig (Creation e) = (e ≡ make.SigFigExceedsMax) × (5 < sigfig)
IsOfDigits sigfig e = Unit {0}

-- the histograms of the chosen intervals among these
abbrev pub ChosenFirst : Bool → Interval → (List Plain → Type 0) → List Plain → Type 0
ChosenFirst true interval Rest hs = (h : Plain) × (rest : List Plain) × (hs ≡ h ∷ rest) × IsHeldIn 18446744073709551615 interval.field h × Rest rest
ChosenFirst false interval Rest hs = Rest hs

abbrev pub AreChosen : Filter → List (Result TimedInterval ℕ) → List Plain → Type 0
AreChosen filter [] hs = hs ≡ []
AreChosen filter (Ok i ∷ items) hs = ChosenFirst (is_chosen filter i.interval.tag i.time) i.interval (AreChosen filter items) hs
AreChosen filter (Err at ∷ items) hs = ⊥

-- the histograms of the chosen intervals of a log
abbrev pub AreChosenIn : Filter → List ℕ → List Plain → Type 0
AreChosenIn filter log hs = AreChosen filter (timed_intervals log) hs

-- a merge added these histograms in order, and counted them and those that are coarser than the sum
abbrev pub HasAdded : ℕ → ℕ → Merging → List Plain → Type 0
HasAdded greatest sigfig m hs =
    (m.histogram ≡ after_adds greatest (empty_plain 1 2 sigfig true) hs) × (m.chosen ≡ length hs) × (m.coarser ≡ coarser_of (resolution_of 1 sigfig) hs)

-- a log is merged without error, and the samples of its chosen histograms fit the sum, whose classes
-- are not finer
pub record MergesSamples (greatest sigfig : ℕ) (filter : Filter) (log : List ℕ) (m : Merging) (Ls : List (List ℕ)) : Type 0 where
  pub histograms : List Plain
  pub counts : 1 ≤ greatest
  pub bounds : IsBounds 1 2 sigfig
  pub merged : Merges greatest filter sigfig log (Ok m)
  pub chosen : AreChosenIn filter log histograms
  pub parts : AreParts 18446744073709551615 (resolution_of 1 sigfig) histograms Ls
  pub fits : Fits greatest (resolution_of 1 sigfig) (joined_samples Ls)
