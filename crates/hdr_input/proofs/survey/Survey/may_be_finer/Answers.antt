use Rattle.std.proofs.Common.{◌≡◌, ◌-◌, ◌<◌, ◌≤◌, true, arith}
use Rattle.std.specs.Prelude.{nat_lt}
use Rattle.std.proofs.lemmas.Bool.Decides.{nat_tests}
use Rattle.hdr_input.specs.Rounding.{greatest_whole}
use Rattle.hdr_input.proofs.Decimals.{same_digits}
use Rattle.hdr_input.proofs.survey.Survey.may_be_finer.Goals as goal

pub returns : goal.returns
returns c = λ S h. (
  λ is.
      let few : c.args.self.now.decimals < c.saturating_sub.result = grind (arith, nat_tests) in
      (c.args.self.now.digits, h.1, omega (arith, few, h.0, c.saturating_sub.ensures)),
  λ (digits, has, few).
      let least : c.args.self.now.digits ≤ digits = same_digits (greatest_whole S) c.args.self.now.digits digits h.1 has in
      let room : c.args.self.now.decimals < c.saturating_sub.result = omega (arith, few, least, h.0, c.saturating_sub.ensures) in
      let test : nat_lt c.args.self.now.decimals c.saturating_sub.result ≡ true = grind (arith, nat_tests) in
      test,
)
