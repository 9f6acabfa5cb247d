use Rattle.std.proofs.Common.{◌≡◌, ◌∙◌, eqb, length, not, true, sym, ap, rules}
use Rattle.hdr_input.proofs.TimeSlices.{list_all-above, list_any-above}
use Rattle.hdr_input.proofs.intervals.Intervals.raise_latest.Goals as goal

pub invariant_of-self : goal.invariant_of-self
invariant_of-self c =
    let old = c.args.self.now in
    let slices = old.intervals.items in
    let empty : c.is_empty.result ≡ eqb (length slices) 0 = search rules in record {
      is_latest = list_all-above old.latest c.args.number slices c.if-number-self.true old.is_latest;
      is_complete = λ has. list_any-above old.latest c.args.number slices c.if-number-self.true old.is_latest (ap not (sym empty) ∙ has);
    }
