use Rattle.std.proofs.Common.{◌≡◌, ◌+◌, ◌*◌, ◌<◌, arith}
use Rattle.std.proofs.lemmas.Grind.{div_ceil_times}
use Rattle.hdr_draw.proofs.Ticks.{first_ten, none}
use Rattle.hdr_draw.proofs.times.TimeSteps.ticks.Goals as goal

pub loop-index-init : goal.loop-index-init
loop-index-init c =
    let w = c.args.self.step * 1000 in
    let p : 0 < c.args.self.step * 1000 = omega (arith, c.args.self.some) in
    let b = rw (← c.div_ceil-first.ensures) at (div_ceil_times c.args.from w p) in
    let z : c.div_ceil-first.result + 0 ≡ c.div_ceil-first.result = omega arith in
    rw (z, c.new-ticks.ensures.items) (none w c.args.self.every c.args.from c.args.to c.div_ceil-first.result p b.1)

pub returns : goal.returns
returns c =
    let w = c.args.self.step * 1000 in
    let p : 0 < c.args.self.step * 1000 = omega (arith, c.args.self.some) in
    let b = rw (← c.div_ceil-first.ensures) at (div_ceil_times c.args.from w p) in
    let i : c.loop-index.index ≡ 10 = omega arith in
    first_ten w c.args.self.every c.args.from c.args.to c.div_ceil-first.result c.loop-index.ticks.items p b.0 b.1 (rw i at c.loop-index.invariant)
