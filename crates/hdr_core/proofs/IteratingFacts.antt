-- The bins of a histogram are such that iterators can go over them.
use Rattle.std.proofs.Common.{ℕ, ◌-◌, ◌^◌, ◌<◌, Option, Some, None, unwrap_or, arith}
use Rattle.hdr_base.specs.Classes.{reach_of}
use Rattle.hdr_base.proofs.ClassesLaws.{bin-mono}
use Rattle.hdr_base.proofs.ClassesDigits.{digits-pos-of}
use Rattle.hdr_base.proofs.ClassesReach.{bins_by, reach-fits}
use Rattle.hdr_model.specs.Plain.{Plain, IsPlain, resolution}
use Rattle.hdr_model.specs.Marks.{IsAbove}
use Rattle.hdr_core.specs.Iterating.{bins_seen}
use Rattle.hdr_model.proofs.PlainBins.{few-bins, fits-of, mark-inside}
use Rattle.hdr_iterators.specs.Seen.{AreBins}

above-mark : (mark : Option ℕ) (i : ℕ) → unwrap_or mark 0 < i → IsAbove mark i
above-mark None i lt = tt
above-mark (Some m) i lt = lt

pub AreBins-binned : (greatest : ℕ) (h : Plain) → IsPlain greatest h → AreBins (bins_seen h)
AreBins-binned greatest h p =
    let g = resolution h in
    let digits : 0 < g.digits = digits-pos-of h.low h.sigfig in
    let fits = fits-of h.low h.sigfig p.scale.fits in
    let reached = reach-fits g h.high p.high_fits fits in
    record {
      some = omega (arith, p.bins, bins_by g h.high);
      few = few-bins greatest h p;
      digits = digits;
      resolution_fits = fits;
      within = omega (arith, p.bins, bins_by g h.high, bin-mono g (reach_of g h.high) (2 ^ 64 - 1) digits (omega (arith, reached)));
      total_fits = p.total_fits;
      counted = p.total_covers;
      last_inside = mark-inside greatest h p;
      none_above = λ i lt. p.none_above i (above-mark h.top_mark i lt);
    }
