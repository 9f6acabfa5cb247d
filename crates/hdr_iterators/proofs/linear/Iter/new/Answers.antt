use Rattle.std.proofs.Common.{◌-◌, ◌/◌, ap, ◌∙◌}
use Rattle.hdr_iterators.specs.Seen.{Seen}
use Rattle.hdr_iterators.specs.Picks.{items_of}
use Rattle.hdr_iterators.specs.Places.{linear_count, linear_picks}
use Rattle.hdr_iterators.proofs.LinearLevels.{levels_within, levels_all}
use Rattle.hdr_iterators.proofs.linear.Iter.new.Goals as goal

pub new-requires-clause-within : goal.new-requires-clause-within
new-requires-clause-within g c =
    let h = c.binned-bins.result in
    let s = c.args.step in
    levels_within h s ((s - 1) / s) (linear_count h s - (s - 1) / s) c.binned-bins.ensures.plain.some

pub returns : goal.returns
returns g c =
    let h = c.binned-bins.result in
    let s = c.args.step in
    c.new.ensures ∙ ap (items_of h) (levels_all h s c.requires) ∙ ap (λ (q : Seen). items_of q (linear_picks q s)) c.binned-bins.ensures.value
