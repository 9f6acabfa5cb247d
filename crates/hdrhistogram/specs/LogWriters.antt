-- The writer of a log, by what it holds.
use Rattle.std.specs.Prelude.{◌≡◌, ℕ, List, Option}
use Rattle.std.specs.Option.{option_map}
use Rattle.std.specs.Duration.{as_nanos}
use Rattle.std.specs.declared.time.Duration.{Duration}
use Rattle.std.specs.Borrow.{MutBor}
use Rattle.hdr_log.specs.Tags.{tag_text}
use Rattle.hdr_log.specs.declared.tag.Tag.{Tag}
use Rattle.hdr_model.specs.Plain.{Plain}
use Rattle.hdrhistogram.specs.LogLeaving.{IsIntervalText}
use Rattle.hdrhistogram.specs.declared.serialization.interval_log.writer.IntervalLogWriter.{IntervalLogWriter}

-- the writer that the log is written to
abbrev pub sink : {W S : Type 0} → IntervalLogWriter W S → MutBor W
sink log = log.writer

-- the serializer of histograms
abbrev pub serializer_of : {W S : Type 0} → IntervalLogWriter W S → MutBor S
serializer_of log = log.serializer

-- the divisor of greatest values
abbrev pub divisor_of : {W S : Type 0} → IntervalLogWriter W S → ℕ
divisor_of log = log.max_value_divisor

-- it still has the same writer, serializer and divisor
pub record IsSameLog {W S : Type 0} (old new : IntervalLogWriter W S) : Type 0 where
  pub writer : (sink new).ghost_name ≡ (sink old).ghost_name
  pub serializer : (serializer_of new).ghost_name ≡ (serializer_of old).ghost_name
  pub divisor : divisor_of new ≡ divisor_of old

-- the line that a writer writes of a histogram's interval, by the arguments of the call
abbrev pub IsLineFor : {W S : Type 0} → IntervalLogWriter W S → (Plain → List ℕ → Type 0) → Plain → Option Tag → Duration → Duration → List ℕ → Type 0
IsLineFor log writes h tag start duration text = IsIntervalText writes h (option_map tag_text tag) (as_nanos start) (as_nanos duration) (divisor_of log) text
