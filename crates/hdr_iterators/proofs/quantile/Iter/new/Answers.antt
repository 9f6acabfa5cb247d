use Rattle.std.proofs.Common.{drop, sym, subst}
use Rattle.hdr_iterators.specs.Seen.{bins_in}
use Rattle.hdr_iterators.specs.Picks.{AllBefore, AllFilled}
use Rattle.hdr_iterators.specs.Ticks.{TickOf}
use Rattle.hdr_iterators.specs.Places.{quantile_picks}
use Rattle.hdr_iterators.proofs.TicksLists.{picks_within, picks_filled}
use Rattle.hdr_iterators.proofs.quantile.Iter.new.Goals as goal

pub new-requires-clause-within : goal.new-requires-clause-within
new-requires-clause-within g c =
    let h = c.binned-bins.result in
    subst (λ (k : TickOf). AllBefore (bins_in h) (drop k.number (quantile_picks h k.per_half))) (sym c.first.ensures) (picks_within h c.args.ticks_per_half_distance)

pub new-requires-clause-filled : goal.new-requires-clause-filled
new-requires-clause-filled g c = λ _.
    let h = c.binned-bins.result in
    subst (λ (k : TickOf). AllFilled h (drop k.number (quantile_picks h k.per_half))) (sym c.first.ensures) (picks_filled h c.args.ticks_per_half_distance 0)
