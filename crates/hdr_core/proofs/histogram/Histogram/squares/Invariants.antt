use Rattle.std.proofs.Common.{◌≡◌, ◌*◌, ◌^◌, ◌-◌, ◌≤◌, length, take, sum}
use Rattle.hdr_model.specs.Plain.{resolution}
use Rattle.hdr_model.specs.Deviation.{squares_from}
use Rattle.hdr_core.specs.Integers.{number_of}
use Rattle.hdr_core.specs.Shown.{plain_of}
use Rattle.hdr_core.proofs.histogram.Histogram.squares.Given as goal

abbrev pub invariant-loop-bin : goal.invariant-loop-bin
invariant-loop-bin g l =
    let h = plain_of l.self-inside in
    (l.bin ≤ length h.counts) × (number_of l.sum ≡ squares_from (resolution h) 0 (take l.bin h.counts)) × (number_of l.sum ≤ 2 ^ 128 * sum (take l.bin h.counts))

abbrev pub decreases-loop-bin : goal.decreases-loop-bin
decreases-loop-bin g l = length l.self-inside.counts.numbers - l.bin
