use Rattle.std.proofs.Common.{◌≡◌, length}
use Rattle.std.specs.Option.{option_or, option_map}
use Rattle.std.specs.Duration.{as_nanos}
use Rattle.hdr_log.specs.Parts.{parts}
use Rattle.hdr_c.specs.Headers.{first_in, start_in, unit_in, decimals_in}
use Rattle.hdr_c.proofs.log_start.dkap_log_header_of.Given as goal

-- what was found before, or else is the first of the rest, is the first of the log
abbrev pub invariant-loop-line : goal.invariant-loop-line
invariant-loop-line l = record {
  start : option_or (option_map as_nanos l.found.start) (first_in start_in (parts 10 l.text)) ≡ first_in start_in (parts 10 l.log);
  decimals : option_or l.found.decimals (first_in decimals_in (parts 10 l.text)) ≡ first_in decimals_in (parts 10 l.log);
  unit : option_or l.found.unit (first_in unit_in (parts 10 l.text)) ≡ first_in unit_in (parts 10 l.log);
}

abbrev pub decreases-loop-line : goal.decreases-loop-line
decreases-loop-line l = length l.text
