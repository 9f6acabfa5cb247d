-- What a log's writer holds if nothing was written.
use Rattle.std.specs.Prelude.{ℕ, List, Option}
use Rattle.std.proofs.KnownBytes.{Keeps-refl}
use Rattle.hdrhistogram.specs.LogLeaving.{WriteFails, IsSerializerError}
use Rattle.hdrhistogram.specs.declared.serialization.interval_log.errors.IntervalLogWriterError.{IntervalLogWriterError}
use Rattle.hdrhistogram.specs.declared.serialization.interval_log.errors.IntervalLogWriterError.TheVariants.{SerializeError, IoError, TimeOutOfRange, OutOfMemory}

-- an error of the serializer, or of its buffer, leaves the writer unchanged
pub unwritten : {E : Type 0} (P : List ℕ → Type 0) (Q : E → Type 0) (contents : Option (List ℕ)) (e : IntervalLogWriterError E) → IsSerializerError Q e → WriteFails P Q contents contents e
unwritten P Q contents (SerializeError e) h = (h, Keeps-refl contents)
unwritten P Q contents (IoError e) h = absurd h
unwritten P Q contents TimeOutOfRange h = absurd h
unwritten P Q contents OutOfMemory h = Keeps-refl contents
