use Rattle.std.proofs.Common.{ℕ, ◌+◌, ◌*◌, ◌≤◌, length}
use Rattle.hdr_input.proofs.json_lines.at_path.+path.Given as goal

abbrev pub decreases-read_value : goal.decreases-read_value
decreases-read_value l = 2 * l.depth

abbrev pub decreases-read_items : goal.decreases-read_items
decreases-read_items l = 2 * l.depth + 1

abbrev pub decreases-read_members : goal.decreases-read_members
decreases-read_members l = 2 * l.depth + 1

abbrev pub invariant-read_items-loop-before : goal.invariant-read_items-loop-before
invariant-read_items-loop-before l = length l.reader ≤ length l.initial.reader

abbrev pub decreases-read_items-loop-before : goal.decreases-read_items-loop-before
decreases-read_items-loop-before l = length l.reader

abbrev pub invariant-read_members-loop-key : goal.invariant-read_members-loop-key
invariant-read_members-loop-key l = length l.reader ≤ length l.initial.reader

abbrev pub decreases-read_members-loop-key : goal.decreases-read_members-loop-key
decreases-read_members-loop-key l = length l.reader
