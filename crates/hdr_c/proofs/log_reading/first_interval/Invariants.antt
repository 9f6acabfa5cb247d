use Rattle.std.proofs.Common.{◌≡◌, ◌+◌, length, drop}
use Rattle.std.specs.Option.{option_map, option_or}
use Rattle.hdr_log.specs.Parts.{parts}
use Rattle.hdr_c.specs.Logs.{first_from}
use Rattle.hdr_c.specs.Times.{as_time}
use Rattle.hdr_c.proofs.log_reading.first_interval.Given as goal

-- what is left has the same first interval
abbrev pub invariant-loop-line : goal.invariant-loop-line
invariant-loop-line l = record {
  same : first_from l.at (option_or l.last (option_map as_time l.base)) (parts 10 l.text) ≡ first_from l.from (option_map as_time l.base) (parts 10 (drop l.from l.log));
  within : l.at + length l.text ≡ length l.log;
}

abbrev pub decreases-loop-line : goal.decreases-loop-line
decreases-loop-line l = length l.text
