-- What decodes a tag's intervals.
use Rattle.std.specs.Prelude.{List, map}
use Rattle.hdr_logs.specs.declared.stored.StoredInterval.{StoredInterval}
use Rattle.hdr_verdict.specs.declared.decoder.Decoder.{Decoder}

abbrev pub intervals_of : Decoder → List StoredInterval
intervals_of decoder = map (λ i. i.now) decoder.intervals.items
