use Rattle.std.proofs.Common.{take, arith}
use Rattle.std.proofs.lemmas.List.{length-take}
use Rattle.hdrhistogram.specs.V2.{written_bins}
use Rattle.hdrhistogram.proofs.PayloadWriting.{enough-each}
use Rattle.hdrhistogram.proofs.serialization.payload.encode_counts.Goals as goal

pub encode_within-requires : goal.encode_within-requires
encode_within-requires g c =
    let h = c.args.h.now in
    let bins = written_bins h in
    omega (arith, enough-each (take bins h.counts) bins (omega (arith, length-take bins h.counts)), c.requires)
