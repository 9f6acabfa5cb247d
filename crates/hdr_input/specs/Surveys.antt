-- Laws of surveys.
use Rattle.std.specs.Prelude.{List, [], ◌++◌}
use Rattle.std.proofs.Common.{sym, subst, append_assoc}
use Rattle.hdr_input.specs.declared.number.Number.{Number}
use Rattle.hdr_input.specs.declared.survey.Survey.{Survey}
use Rattle.hdr_input.specs.Rounding.{HasSurveyed, Surveys}

-- nothing is surveyed where nothing changes
pub surveys_nothing : (s : Survey) → Surveys s s
surveys_nothing s = ([], λ before h. h)

-- what is surveyed after the first is surveyed after both
pub surveys_after : (a b c : Survey) → Surveys a b → Surveys b c → Surveys a c
surveys_after a b c first more = (
  more.0 ++ first.0,
  λ before h. let P : List Number → Type 0 = λ numbers. HasSurveyed c numbers in subst P (sym (append_assoc more.0 first.0 before)) (more.1 (first.0 ++ before) (first.1 before h)),
)
