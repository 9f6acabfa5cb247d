use Rattle.hdr_tool.proofs.Common.{◌≡◌, ◌++◌, take, string_bytes, quantile_line}
use Rattle.std.specs.List.{flat_map}
use Rattle.hdr_tool.proofs.report.push_quantiles.Given as goal

-- the lines so far
abbrev pub invariant-loop-quantile : goal.invariant-loop-quantile
invariant-loop-quantile g l = string_bytes l.text ≡ string_bytes l.fn.text ++ flat_map (quantile_line l.histogram) (take l.quantile-index l.quantiles)
