use Rattle.std.proofs.Common.{◌≡◌, ℕ, ◌+◌, ◌<◌, false, nat_le}
use Rattle.hdr_verdict.specs.Rates.{together, last_of}
use Rattle.hdr_verdict.proofs.rate.window.Given as goal

abbrev pub invariant-loop-cells : goal.invariant-loop-cells
invariant-loop-cells l = record {
  samples : l.samples ≡ (together (last_of l.cells l.past)).samples;
  few : (k : ℕ) → 16 + k < l.cells → nat_le 100 (together (last_of (16 + k) l.past)).samples ≡ false;
}
