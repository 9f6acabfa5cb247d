use Rattle.std.proofs.Common.{ℕ, ◌≡◌, ◌≤◌, ◌*◌, min, length, ap, sym, arith}
use Rattle.std.specs.List.{All, Contains}
use Rattle.hdr_draw.specs.Steps.{IsStep, IsStrictlyAscending}
use Rattle.hdr_draw.proofs.Decades.{all_drawn, left_out, pushed}
use Rattle.hdr_draw.proofs.values.ValueScale.ticks.Goals.{in-Some+in_ok-push, in_default}
use Rattle.hdr_draw.proofs.values.ValueScale.ticks.Goals as goal

pub loop-step-preserved : goal.loop-step-preserved
loop-step-preserved c =
    let xs = c.deref-step-items.result.now in
    let up : IsStrictlyAscending xs = rw c.deref-step-items.ensures.value c.in_ok-steps.ensures.ascending in
    let d = c.place-decade.result in
    let o = c.place-octave.result in
    let i = c.loop-step.step-index in
    elim c.match-line_of.branch [
      | in-Some+in_ok-push w ↦ rw (w.ticks-is, w.in_ok-push.ensures.items) (pushed d o xs i _ _ up c.loop-step-test.true c.loop-step.invariant w.in-Some.ensures.line w.in-Some.ensures.value)
      | in_default w ↦ rw w.ticks-is (left_out d o xs i _ c.loop-step.invariant w.in_default.ensures.none)
    ]

pub returns : goal.returns
returns c =
    let xs = c.deref-step-items.result.now in
    let e = c.in_ok-steps.ensures in
    let v = c.deref-step-items.ensures.value in
    let l : c.args.self.now.low ≡ c.self.inside.low = ap (λ e. e.low) (sym c.self.view_is) in
    let d : c.saturating_mul.result ≡ min (10 * c.args.self.now.low) 18446744073709551615 = omega (arith, l, c.saturating_mul.ensures) in
    let o : c.saturating_mul-2.result ≡ min (2 * c.args.self.now.low) 18446744073709551615 = omega (arith, l, c.saturating_mul-2.ensures) in
    let i : c.loop-step.step-index ≡ length xs = omega arith in
    let inside : All (λ n. (c.args.self.now.low ≤ n) × (n ≤ c.args.self.now.high)) xs = rw (v, ← c.self.view_is) e.inside in
    let every : (n : ℕ) → IsStep n → c.args.self.now.low ≤ n → n ≤ c.args.self.now.high → Contains xs n = rw (v, ← c.self.view_is) e.every in
    all_drawn c.args.self.now c.args.height c.place-decade.result c.place-octave.result xs _ (rw d at c.place-decade.ensures.place) (rw o at c.place-octave.ensures.place)
    (rw v e.steps) inside every (rw i at c.loop-step.invariant)
