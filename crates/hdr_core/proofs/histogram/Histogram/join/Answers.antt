use Rattle.std.proofs.Common.{◌≡◌, ◌∙◌, ◌+◌, ◌-◌, ◌^◌, min, ap, sym, length, sum}
use Rattle.hdr_counts.specs.Blocks.{Blocks, capped_sums}
use Rattle.hdr_core.specs.Shown.{plain_of}
use Rattle.hdr_model.specs.Marks.{MarkPair}
use Rattle.hdr_model.specs.Plain.{Plain}
use Rattle.hdr_model.specs.Merging.{after_add_same_bins}
use Rattle.hdr_model.proofs.MergingKeeps.{same-bins, IsPlain-taken, IsPlain-summed, joined-empty, joined-some}
use Rattle.hdr_core.proofs.histogram.Histogram.join.Given as given
use Rattle.hdr_core.proofs.histogram.Histogram.join.Goals as goal
use Rattle.hdr_core.proofs.histogram.Histogram.join.Goals.{After-widen_by}

total : (g : given.Over) (c : After-widen_by g) → c.saturating_add-self-inside.result ≡ min (c.self.inside.total + min (sum c.source.inside.counts.numbers) (2 ^ 64 - 1)) (2 ^ 64 - 1)
total g c = c.saturating_add-self-inside.ensures ∙ ap (λ k. min (c.self.inside.total + k) (2 ^ 64 - 1)) c.capped_sum.ensures

pub invariant_of-self : goal.invariant_of-self
invariant_of-self g c =
    let same : length c.self.inside.counts.numbers ≡ length c.source.inside.counts.numbers = ap (λ (p : Plain). length p.counts) c.self.view_is ∙ (same-bins c.args.self.now c.args.source.now c.requires).1 ∙ sym (ap (λ (p : Plain). length p.counts) c.source.view_is) in
    let numbers : c.add_all.new.self.numbers ≡ capped_sums g.T.Counter.greatest c.self.inside.counts.numbers c.source.inside.counts.numbers = ap (λ (b : Blocks). b.numbers) c.add_all.ensures in
    record {
      scale = c.self.invariant.scale;
      block = ap (λ (b : Blocks). b.block) c.add_all.ensures ∙ c.self.invariant.block;
      plain = rw (numbers, c.same-self-inside.ensures)
          (IsPlain-taken g.T.Counter.greatest g.F.Counter.greatest (plain_of c.self.inside) (plain_of c.source.inside) g.met.T.Counter.one_fits same c.self.invariant.plain c.source.invariant.plain c.if-self-eq0.true);
    }

pub invariant_of-self-else-self-eq0 : goal.invariant_of-self-else-self-eq0
invariant_of-self-else-self-eq0 g c =
    let same : length c.self.inside.counts.numbers ≡ length c.source.inside.counts.numbers = ap (λ (p : Plain). length p.counts) c.self.view_is ∙ (same-bins c.args.self.now c.args.source.now c.requires).1 ∙ sym (ap (λ (p : Plain). length p.counts) c.source.view_is) in
    let numbers : c.add_all.new.self.numbers ≡ capped_sums g.T.Counter.greatest c.self.inside.counts.numbers c.source.inside.counts.numbers = ap (λ (b : Blocks). b.numbers) c.add_all.ensures in
    record {
      scale = c.self.invariant.scale;
      block = ap (λ (b : Blocks). b.block) c.add_all.ensures ∙ c.self.invariant.block;
      plain = rw (numbers, total g c, c.widen_by.ensures)
          (IsPlain-summed g.T.Counter.greatest g.F.Counter.greatest (plain_of c.self.inside) (plain_of c.source.inside) g.met.T.Counter.one_fits same c.self.invariant.plain c.source.invariant.plain c.if-self-eq0.false);
    }

pub returns-then-self-eq0 : goal.returns-then-self-eq0
returns-then-self-eq0 g c =
    let h = plain_of c.self.inside in
    let s = plain_of c.source.inside in
    let greatest = g.T.Counter.greatest in
    ap (λ ns. record h { counts = ns; total = s.total; top_mark = c.same-self-inside.result.top; lower_mark = c.same-self-inside.result.lower }) (ap (λ (b : Blocks). b.numbers) c.add_all.ensures)
    ∙ ap (λ (m : MarkPair). record h { counts = capped_sums greatest h.counts s.counts; total = s.total; top_mark = m.top; lower_mark = m.lower }) c.same-self-inside.ensures
    ∙ joined-empty greatest h s c.if-self-eq0.true
    ∙ ap (λ (p : Plain). after_add_same_bins greatest p s) c.self.view_is ∙ ap (λ (p : Plain). after_add_same_bins greatest c.args.self.now p) c.source.view_is

pub returns-else-self-eq0 : goal.returns-else-self-eq0
returns-else-self-eq0 g c =
    let h = plain_of c.self.inside in
    let s = plain_of c.source.inside in
    let greatest = g.T.Counter.greatest in
    let m = c.widen_by.new.self in
    ap (λ ns. record h { counts = ns; total = c.saturating_add-self-inside.result; top_mark = m.top; lower_mark = m.lower }) (ap (λ (b : Blocks). b.numbers) c.add_all.ensures)
    ∙ ap (λ t. record h { counts = capped_sums greatest h.counts s.counts; total = t; top_mark = m.top; lower_mark = m.lower }) (total g c)
    ∙ ap (λ (m : MarkPair). record h { counts = capped_sums greatest h.counts s.counts; total = min (h.total + min (sum s.counts) (2 ^ 64 - 1)) (2 ^ 64 - 1); top_mark = m.top; lower_mark = m.lower }) c.widen_by.ensures
    ∙ joined-some greatest h s c.if-self-eq0.false
    ∙ ap (λ (p : Plain). after_add_same_bins greatest p s) c.self.view_is ∙ ap (λ (p : Plain). after_add_same_bins greatest c.args.self.now p) c.source.view_is
