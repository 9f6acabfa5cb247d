use Rattle.std.proofs.Common.{rules, ◌≡◌, ◌*◌, ◌<◌, arith}
use Rattle.hdr_draw.proofs.Ticks.{left_out, pushed}
use Rattle.hdr_draw.proofs.times.TimeSteps.push_tick.Goals.{else-time-from-via-then-time-from+else-time-to, else-time-from-via-else-time-from}
use Rattle.hdr_draw.proofs.times.TimeSteps.push_tick.Goals as goal

pub returns-in_ok-push : goal.returns-in_ok-push
returns-in_ok-push c =
    let w = c.args.self.step * 1000 in
    let q : c.in-Some.time ≡ c.args.number * (c.args.self.step * 1000) = search (rules, c.in-Some.ensures) in
    let p : 0 < c.args.self.step * 1000 = omega (arith, c.args.self.some) in
    rw c.in_ok-push.ensures.items (pushed w c.args.self.every c.args.from c.args.to c.args.number c.in-Some.time _ c.args.ticks.now.items c.requires p q c.if-time-from.true c.if-time-to.true (search rules))

pub returns-else-time-from : goal.returns-else-time-from
returns-else-time-from c =
    let w = c.args.self.step * 1000 in
    let q : c.in-Some.time ≡ c.args.number * (c.args.self.step * 1000) = search (rules, c.in-Some.ensures) in
    left_out w c.args.self.every c.args.from c.args.to c.args.number c.args.ticks.now.items c.requires (λ h k. elim c.else-time-from.branch [
      | else-time-from-via-then-time-from+else-time-to w ↦ absurd (omega (arith, q, k, w.if-time-to.false))
      | else-time-from-via-else-time-from w ↦ absurd (omega (arith, q, h, w.if-time-from.false))
    ])

pub returns-in_default : goal.returns-in_default
returns-in_default c = left_out (c.args.self.step * 1000) c.args.self.every c.args.from c.args.to c.args.number c.args.ticks.now.items c.requires (λ h k. absurd (c.in_default.ensures (omega arith)))
