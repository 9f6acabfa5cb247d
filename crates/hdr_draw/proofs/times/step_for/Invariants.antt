use Rattle.std.proofs.Common.{ℕ, ◌≤◌, ◌<◌, ◌*◌, slice_index}
use Rattle.hdr_draw.specs.Steps.{most_steps, time_steps}
use Rattle.hdr_draw.proofs.times.step_for.Given as goal

abbrev pub invariant-loop-step : goal.invariant-loop-step
invariant-loop-step l =
    (k : ℕ) → k < l.step-index → l.span ≤ most_steps (slice_index time_steps k) * (1000 * slice_index time_steps k) → ⊥
