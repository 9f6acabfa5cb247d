-- What the writer and the serializer that `begin_log_with` borrows hold when the borrow ends.
use Rattle.std.specs.Prelude.{◌≡◌, ℕ, List, Option, Result, IfErr}
use Rattle.std.specs.Borrow.{Fml, MutBor, RattleType, RestsIfErr}
use Rattle.hdrhistogram.specs.LogLeaving.{WriteFails}
use Rattle.hdrhistogram.specs.LogStarts.{LogStart, IsStartText}
use Rattle.hdrhistogram.specs.LogWriters.{sink, serializer_of}
use Rattle.hdrhistogram.specs.declared.serialization.interval_log.errors.IntervalLogWriterError.{IntervalLogWriterError}
use Rattle.hdrhistogram.specs.declared.serialization.interval_log.writer.IntervalLogWriter.{IntervalLogWriter}

-- the log has the writer, in which an error leaves at most a part of the start
abbrev pub writer_rests : (W : RattleType) {S E : Type 0} → (W.Denot → Option (List ℕ)) → LogStart → MutBor W.Denot → Result (IntervalLogWriter W.Denot S) (IntervalLogWriterError E) → Fml
writer_rests W contents start writer r =
    RestsIfErr W writer (λ log. (sink log).ghost_name) r (λ last. IfErr r (WriteFails (IsStartText start) (λ _. ⊥) (contents writer.now) (contents last)))

-- the log has the serializer, which an error leaves unchanged
abbrev pub serializer_rests : (S : RattleType) {W E : Type 0} → MutBor S.Denot → Result (IntervalLogWriter W S.Denot) (IntervalLogWriterError E) → Fml
serializer_rests S serializer r =
    RestsIfErr S serializer (λ log. (serializer_of log).ghost_name) r (λ last. last ≡ serializer.now)
