-- What was compared with levels.
use Rattle.std.specs.Prelude.{◌≡◌}
use Rattle.std.specs.List.{All}
use Rattle.hdr_files.specs.declared.checks.Checked.{Checked}

-- nothing was recorded of any tag
abbrev pub IsWithoutSamples : Checked → Type 0
IsWithoutSamples checked = All (λ part. part.distribution.histogram.total ≡ 0) checked.parts.items
