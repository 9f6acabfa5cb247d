use Rattle.std.proofs.Common.{◌≡◌, [], sum_by, ap, ◌∙◌, arith}
use Rattle.std.proofs.lemmas.List.{length-map}
use Rattle.hdr_base.specs.Classes.{lowest_of}
use Rattle.hdr_model.specs.Plain.{resolution}
use Rattle.hdr_summary.specs.Classes.{Known, known}
use Rattle.hdr_summary.proofs.SampleSums.{weight, lowest-items, greatest-items}
use Rattle.hdr_summary.proofs.means.SampleSum.of.Goals as goal

pub returns : goal.returns
returns c = λ S stands. (
    let h = c.args.histogram.now in
    let rest : c.loop-item.item-iterator ≡ [] = c.in-None.ensures.steps.0 in
    let all = c.into_iter-item-iterator.ensures.into_iter_gives ∙ c.iter_recorded-item-items.ensures in
    let kept = c.loop-item.invariant in
    let lowest = weight (lowest_of (resolution h)) in
    let greatest = weight (λ v. v) in
    record {
      total = omega (arith, c.len-total.ensures, c.len-total.type_inv, stands.total, length-map {B = Known} S (known 1 (resolution h)));
      low = (
          let none : sum_by lowest c.loop-item.item-iterator ≡ 0 = ap (sum_by lowest) rest in
          let sum = ap (sum_by lowest) all ∙ lowest-items h S c.show_plain.ensures stands in
          omega (arith, kept.0, kept.2, none, sum)
          );
      high = (
          let none : sum_by greatest c.loop-item.item-iterator ≡ 0 = ap (sum_by greatest) rest in
          let sum = ap (sum_by greatest) all ∙ greatest-items h S c.show_plain.ensures stands in
          omega (arith, kept.1, kept.3, none, sum)
          );
    }
    )
