use Rattle.hdr_draw.proofs.Bounds.{power_from_1}
use Rattle.hdr_draw.proofs.rows.digits_at.Goals as goal

pub returns-clause-value : goal.returns-clause-value
returns-clause-value c =
    let e = power_from_1 (record { low = c.args.low; high = c.args.high }) c.args.index _ _ c.in_ok-digits_of_1.ensures.value c.in_ok-highs.ensures.value in
    rw (← e) c.times_power-2.ensures.value
