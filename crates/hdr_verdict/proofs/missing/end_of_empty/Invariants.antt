use Rattle.std.proofs.Common.{◌≡◌, ◌+◌, ◌≤◌, length, take, not}
use Rattle.std.specs.List.{suffix_len}
use Rattle.hdr_verdict.specs.declared.rate.Rate.{Rate}
use Rattle.hdr_verdict.specs.Missing.{is_empty}
use Rattle.hdr_verdict.proofs.missing.end_of_empty.Given as goal

abbrev pub invariant-loop-end : goal.invariant-loop-end
invariant-loop-end l = record {
  within : l.end ≤ length l.rates;
  so_far : l.end + suffix_len (λ (r : Rate). not (is_empty r)) l.rates ≡ length l.rates + suffix_len (λ (r : Rate). not (is_empty r)) (take l.end l.rates);
}

abbrev pub decreases-loop-end : goal.decreases-loop-end
decreases-loop-end l = l.end
