use Rattle.std.proofs.Common.{◌≡◌, ◌-◌, ◌*◌, ◌/◌, ◌≤◌, leb, sym, ap, ◌∙◌, arith}
use Rattle.hdr_iterators.specs.Places.{is_within}
use Rattle.hdr_iterators.proofs.TicksHalves.{within_test, left_within, leb_turned}
use Rattle.hdr_iterators.proofs.quantile.Tick.reached_at.Goals as goal

pub overflow_cast-result : goal.overflow_cast-result
overflow_cast-result c =
    omega (arith, left_within c.whole.result c.left_after.result c.from.result c.whole.ensures.nonzero (omega (arith, c.left_after.ensures.value, c.whole.ensures.value)), c.from.ensures)

pub overflow_sub-result : goal.overflow_sub-result
overflow_sub-result c =
    omega (arith, left_within c.whole.result c.left_after.result c.from.result c.whole.ensures.nonzero (omega (arith, c.left_after.ensures.value, c.whole.ensures.value)), c.from.ensures)

pub returns : goal.returns
returns c = λ r le.
    let t = c.args.self.now.per_half in
    let k = c.args.self.now.number in
    let n = c.args.total in
    let w = c.whole.result in
    let d = c.left_after.result in
    let test : is_within t r n k ≡ leb (n - r) (d * n / w) = within_test t r n k d w c.whole.ensures.nonzero le (c.left_after.ensures.value ∙ sym c.whole.ensures.value) (sym c.whole.ensures.value) in
    let fits : d * n / w ≤ n = left_within w d n c.whole.ensures.nonzero (omega (arith, c.left_after.ensures.value, c.whole.ensures.value)) in
    test ∙ (leb_turned n r (d * n / w) le fits ∙ ap (λ m. leb (n - d * m / w) r) (sym c.from.ensures))
