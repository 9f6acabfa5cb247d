use Rattle.hdr_tool.proofs.Common.{◌≡◌, length, map, string_bytes, no_options, options_of, view_of_options}
use Rattle.hdr_tool.proofs.arguments.take_options.Given as goal

-- what is left of the arguments has the options that all of them do
abbrev pub invariant-loop-name : goal.invariant-loop-name
invariant-loop-name l = options_of no_options (map string_bytes l.arguments) ≡ options_of (view_of_options l.options) (map string_bytes l.left)

abbrev pub decreases-loop-name : goal.decreases-loop-name
decreases-loop-name l = length l.left
