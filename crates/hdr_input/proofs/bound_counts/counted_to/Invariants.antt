use Rattle.std.proofs.Common.{◌≡◌, ◌%◌, ◌^◌, take}
use Rattle.hdr_input.specs.Bounds.{counted_to}
use Rattle.hdr_input.proofs.bound_counts.counted_to.Given as goal

-- those before the index are counted
abbrev pub invariant-loop-count : goal.invariant-loop-count
invariant-loop-count l = l.counted ≡ counted_to l.end (take l.count-index l.counts) % 2 ^ 64
