use Rattle.std.proofs.Common.{◌≡◌, ◌+◌, ◌≤◌, arith, rules}
use Rattle.hdr_draw.proofs.Doubled.{within_scale}
use Rattle.hdr_draw.proofs.quantiles.QuantileScale.contains.Goals as goal

pub returns : goal.returns
returns c =
    let e = c.self.inside.axis in
    let i = c.self.invariant in
    let s : e.from + e.span ≡ c.self.inside.end = omega (arith, i.0, i.1) in
    rw (← c.self.view_is) (
      λ t. record {
        logarithm = c.logarithm.result;
        of_inverse = c.logarithm.ensures.is;
        within = let l : c.logarithm.result ≤ c.self.inside.end = search (rules, t) in omega (arith, s, l);
      },
      λ h. let w = within_scale e c.args.inverse c.logarithm.result c.logarithm.ensures.is h in let l : c.logarithm.result ≤ c.self.inside.end = omega (arith, s, w) in search (rules, l),
    )
