use Rattle.std.proofs.Common.{◌≡◌, take}
use Rattle.std.specs.List.{AllWithin, count_by}
use Rattle.hdr_logs.specs.Scales.{is_coarser, IsConverted, IsIn}
use Rattle.hdr_logs.proofs.Changed.{Changed}
use Rattle.hdr_logs.proofs.scales.Converter.convert_all.Given as goal

-- the intervals so far are converted, and the others are not
abbrev pub invariant-loop-interval : goal.invariant-loop-interval
invariant-loop-interval l = record {
  count : l.converted ≡ count_by (is_coarser l.scale.decimals l.scale.unit) (take l.interval-index l.initial.intervals);
  changed : Changed IsConverted l.initial.intervals l.intervals l.interval-index;
  scale : AllWithin (IsIn l.scale.decimals l.scale.unit) l.intervals 0 l.interval-index;
}
