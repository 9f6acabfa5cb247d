use Rattle.hdr_tool.proofs.Common.{◌≡◌, drop, map, string_bytes, are_fractions}
use Rattle.hdr_tool.proofs.arguments.are_quantiles.Given as goal

-- what is left of the arguments decides
abbrev pub invariant-loop-argument : goal.invariant-loop-argument
invariant-loop-argument l = are_fractions (map string_bytes l.arguments) ≡ are_fractions (map string_bytes (drop l.argument-index l.arguments))
