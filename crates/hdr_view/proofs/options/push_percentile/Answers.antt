use Rattle.std.proofs.Common.{◌*◌, codes, string_bytes}
use Rattle.hdr_draw.specs.Numbers.{IsDecimalOf}
use Rattle.hdr_draw.proofs.Decimals.{of_trimmed}
use Rattle.hdr_view.proofs.Amounts.{prefixed}
use Rattle.hdr_view.proofs.options.push_percentile.Goals as goal

pub returns : goal.returns
returns c = λ h.
    let n = rw (c.from-percent.ensures, c.from.ensures) at c.in-Some.ensures.nearest in
    let t = c.trimmed.result in
    let d = of_trimmed (c.args.level.num * 100) c.args.level.den c.in-Some.parts 8 t.parts t.decimals n c.trimmed.ensures.few c.trimmed.ensures.same in
    prefixed c.push.result (λ x. IsDecimalOf (c.args.level.num * 100) c.args.level.den x) (codes "p") _ (string_bytes c.args.text.now) (string_bytes c.push_str.new.self)
    (string_bytes c.push.new.text) d c.in_ok-push_str.ensures.bytes c.push.ensures
