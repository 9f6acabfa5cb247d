use Rattle.hdr_tool.proofs.Common.{◌≡◌, ◌++◌, drop, map, string_bytes, filter_map, fraction_of}
use Rattle.hdr_tool.proofs.arguments.quantiles.Given as goal

-- the quantiles so far, and those of the arguments that are left
abbrev pub invariant-loop-argument : goal.invariant-loop-argument
invariant-loop-argument l = filter_map fraction_of (map string_bytes l.arguments) ≡ l.quantiles.items ++ filter_map fraction_of (map string_bytes (drop l.argument-index l.arguments))
