use Rattle.std.proofs.Common.{string_bytes}
use Rattle.hdr_draw.specs.Numbers.{IsDecimalOf}
use Rattle.hdr_draw.proofs.Decimals.{appended}
use Rattle.hdr_view.proofs.Amounts.{of_integer, of_plain, with_exponent}
use Rattle.hdr_view.proofs.amount.Amount.push_number.Goals as goal

pub returns-then-self-saturating_mul : goal.returns-then-self-saturating_mul
returns-then-self-saturating_mul c = λ d f.
    with_exponent c.push_exponent.result c.args.self.num c.args.self.den c.scientific-power.result.1 c.scientific-power.result.0.parts c.scientific-power.result.0.decimals
    (string_bytes c.args.text.now) (string_bytes c.push.new.text) (string_bytes c.push_exponent.new.text)
    (c.scientific-power.ensures.nearest d f) c.in_ok-push.ensures c.push_exponent.ensures

pub returns-in-Some : goal.returns-in-Some
returns-in-Some c = λ d f.
    appended c.push_grouped.result (λ x. IsDecimalOf c.args.self.num c.args.self.den x) (string_bytes c.args.text.now) (string_bytes c.push_grouped.new.text) _
    (of_integer c.args.self.num c.args.self.den c.in-Some.integer c.in-Some.ensures) c.push_grouped.ensures

pub returns : goal.returns
returns c = λ d f.
    appended c.push-2.result (λ x. IsDecimalOf c.args.self.num c.args.self.den x) (string_bytes c.args.text.now) (string_bytes c.push-2.new.text) _
    (of_plain c.args.self.num c.args.self.den c.of_fraction.result.parts c.of_fraction.result.decimals (c.of_fraction.ensures.nearest d f)) c.push-2.ensures
