use Rattle.std.proofs.Common.{ℕ, List, ◌≡◌, ◌≤◌, ◌+◌, ◌*◌, ◌-◌, ◌%◌, ◌++◌, drop, length}
use Rattle.hdr_zlib.specs.Adler.{sums_after}
use Rattle.hdr_zlib.proofs.checksum.sums_after_piece.Given as goal

abbrev pub invariant-loop-index : goal.invariant-loop-index
invariant-loop-index l = record {
  sum : l.sum ≤ 255 * l.index;
  weighted : l.weighted ≤ 2048 * (255 * l.index);
  sums : (high : ℕ) × (high + (length l.piece - l.index) * (l.fn.low + l.sum) ≡ l.fn.high + length l.piece * l.fn.low + l.weighted)
      × ((rest : List ℕ) → sums_after ((l.fn.low + l.sum) % 65521) (high % 65521) (drop l.index l.piece ++ rest)
      ≡ sums_after l.fn.low l.fn.high (l.piece ++ rest));
}
