use Rattle.std.proofs.Common.{◌≡◌, max, arith, ap, ◌∙◌}
use Rattle.std.specs.Int.{div_ceil}
use Rattle.hdr_draw.proofs.Decades.{line_of_power}
use Rattle.hdr_draw.proofs.values.line_of.Goals as goal

pub returns-in-Some-clause-line : goal.returns-in-Some-clause-line
returns-in-Some-clause-line c =
    let m : c.max.result ≡ max 1 c.args.decade = omega (arith, c.max.ensures) in
    let e : c.div_ceil-every.result ≡ div_ceil 150 (max 1 c.args.decade) = c.div_ceil-every.ensures ∙ ap (λ d. div_ceil 150 d) m in
    rw e (line_of_power c.args.decade c.args.octave c.args.step c.in-Some.power c.in-Some.ensures.power)
