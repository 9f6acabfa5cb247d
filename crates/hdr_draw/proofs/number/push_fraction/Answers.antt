use Rattle.std.proofs.Common.{string_bytes}
use Rattle.hdr_draw.specs.Numbers.{IsDecimalOf, decimal_text}
use Rattle.hdr_draw.proofs.Decimals.{of_trimmed, appended}
use Rattle.hdr_draw.proofs.number.push_fraction.Goals as goal

pub returns : goal.returns
returns c =
    let n = c.of_fraction.ensures.nearest c.requires.some c.requires.fits in
    let d : IsDecimalOf c.args.num c.args.den (decimal_text c.trimmed.result.parts c.trimmed.result.decimals) = of_trimmed _ _ _ _ _ _ n c.trimmed.ensures.few c.trimmed.ensures.same in
    appended c.push.result (λ x. IsDecimalOf c.args.num c.args.den x) (string_bytes c.args.text.now) (string_bytes c.push.new.text) _ d c.push.ensures
