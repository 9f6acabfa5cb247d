use Rattle.hdr_tool.proofs.Common.{◌≡◌, ℕ, ◌+◌, ◌++◌, List, true, Some, Ok, length, option_map, sink, IsSameLog, number_lines, rest_run, LinesNeed, IsStep}
use Rattle.hdr_tool.proofs.LinesParts.{left_length}
use Rattle.hdr_tool.proofs.driver.run_lines.Given as goal

-- the lines so far were run, and those that are left follow; the numbers of the lines go on
abbrev pub invariant-loop-left : goal.invariant-loop-left
invariant-loop-left g l = record {
  same : IsSameLog l.fn.log l.log;
  goes : IsStep {A = Unit {0}} (rest_run l.fn.is_log l.fn.histogram l.fn.number (Some l.fn.text)) (rest_run l.fn.is_log l.histogram l.current (option_map (λ t. t.now) l.left))
      (g.W.Write.contents (sink l.fn.log).now) (g.W.Write.contents (sink l.log).now) (Ok tt);
  memory : (more : List (ℕ × List ℕ)) → LinesNeed l.fn.is_log l.histogram (number_lines l.current (option_map (λ t. t.now) l.left) ++ more) → LinesNeed l.fn.is_log l.fn.histogram (number_lines l.fn.number (Some l.fn.text) ++ more);
  grows : l.histogram.auto_resize ≡ true;
  counts : l.current + length (number_lines l.current (option_map (λ t. t.now) l.left)) ≡ l.fn.number + length (number_lines l.fn.number (Some l.fn.text));
}

abbrev pub decreases-loop-left : goal.decreases-loop-left
decreases-loop-left g l = left_length (option_map (λ t. t.now) l.left)
