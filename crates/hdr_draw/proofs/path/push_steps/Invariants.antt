use Rattle.std.proofs.Common.{◌≡◌, ◌++◌, string_bytes, take}
use Rattle.std.specs.List.{flat_map}
use Rattle.hdr_draw.specs.Paths.{step_text}
use Rattle.hdr_draw.proofs.path.push_steps.Given as goal

abbrev pub invariant-loop-step : goal.invariant-loop-step
invariant-loop-step l =
    string_bytes l.text ≡ string_bytes l.initial.text ++ flat_map step_text (take l.step-index l.steps)
