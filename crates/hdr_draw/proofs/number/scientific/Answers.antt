use Rattle.std.proofs.Common.{rules, ◌≡◌, ◌≤◌, ◌*◌, ◌^◌, arith}
use Rattle.std.proofs.Math.Nat.{one-le-pow, mul-le-mul}
use Rattle.hdr_draw.proofs.Bounds.{power_step}
use Rattle.hdr_draw.proofs.number.scientific.Goals as goal

pub loop-preserved : goal.loop-preserved
loop-preserved c =
    let i = c.loop.invariant in
    let e : c.in-Some.longer ≡ c.loop.tens * 10 = search (rules, c.in-Some.ensures) in
    (power_step c.args.den c.loop.tens c.in-Some.longer 10 c.loop.power e i.0, omega (arith, i.1))

pub returns : goal.returns
returns c =
    let i = c.loop.invariant in
    record {
      nearest = λ h k.
          let p : 1 ≤ 10 ^ c.loop.power = one-le-pow c.loop.power 10 (omega arith) in
          let d : 1 ≤ c.args.den * 10 ^ c.loop.power = mul-le-mul h p in
          rw (← i.0) (c.of_fraction.ensures.nearest (rw (i.0) d) k);
    }
