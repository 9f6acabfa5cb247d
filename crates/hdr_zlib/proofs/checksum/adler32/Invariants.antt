use Rattle.std.proofs.Common.{◌≡◌, ◌<◌, length}
use Rattle.hdr_zlib.specs.Adler.{adler32_of, sums_after}
use Rattle.hdr_zlib.proofs.checksum.adler32.Given as goal

abbrev pub invariant-loop-rest : goal.invariant-loop-rest
invariant-loop-rest l = record {
  low : l.low < 65521;
  high : l.high < 65521;
  left : sums_after l.low l.high l.rest ≡ adler32_of l.fn.bytes;
}

abbrev pub decreases-loop-rest : goal.decreases-loop-rest
decreases-loop-rest l = length l.rest
