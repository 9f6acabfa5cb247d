use Rattle.std.proofs.Common.{◌≡◌, ℕ, ◌+◌, ◌*◌, ◌<◌, length, get_or}
use Rattle.std.specs.List.{slice_range}
use Rattle.hdr_verdict.specs.declared.rate.Rate.{Rate}
use Rattle.hdr_verdict.specs.Rates.{together}
use Rattle.hdr_verdict.proofs.rate.parts_of.Given as goal

abbrev pub invariant-loop-part : goal.invariant-loop-part
invariant-loop-part l = record {
  filled : (k : ℕ) (d : Rate) → k < l.part → get_or l.parts k d ≡ together (slice_range l.cells (k * l.size) (k * l.size + l.size));
  long : length l.parts ≡ 8;
}
