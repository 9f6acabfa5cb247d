use Rattle.std.proofs.Common.{◌≡◌, ◌∙◌, ◌+◌, ◌-◌, ◌^◌, ◌<◌, ◌≤◌, IfSome, ◌++◌, min, ap, sym, subst, length, sum}
use Rattle.hdr_counts.specs.Blocks.{Blocks, capped_sums}
use Rattle.hdr_core.specs.Shown.{plain_of}
use Rattle.hdr_model.specs.Marks.{MarkPair, later_of, earlier_of}
use Rattle.hdr_model.specs.Plain.{Plain, IsPlain, resolution, reach, max_of}
use Rattle.hdr_model.specs.Recording.{after_records}
use Rattle.hdr_model.specs.Merging.{classes_from, top_class}
use Rattle.hdr_model.proofs.MergingFronts.{fronts-are}
use Rattle.hdr_model.proofs.MergingOrder.{IsPlain-each}
use Rattle.hdr_model.proofs.MergingStands.{classes-inside}
use Rattle.hdr_model.proofs.PlainBins.{few-bins}
use Rattle.hdr_model.proofs.PlainKept.{bins-pos}
use Rattle.hdr_core.proofs.RestatedMarks.{few-marks, lower-of}
use Rattle.hdr_core.proofs.histogram.Histogram.join_front.Given as given
use Rattle.hdr_core.proofs.histogram.Histogram.join_front.Goals as goal
use Rattle.hdr_core.proofs.histogram.Histogram.join_front.Goals.{After-widen_if-2}

-- the fields are those of the classes recorded one by one
made : (g : given.Over) (c : After-widen_if-2 g)
    → let h = plain_of c.self.inside in
    let s = plain_of c.source.inside in
    let m = c.widen_if-2.new.self in
    record h { counts = c.add_all.new.self.numbers; total = c.saturating_add-self-inside.result; top_mark = m.top; lower_mark = m.lower }
    ≡ after_records g.T.Counter.greatest h (classes_from (resolution s) 0 s.counts ++ top_class (resolution s) s.top_mark)
made g c =
    let h = plain_of c.self.inside in
    let s = plain_of c.source.inside in
    let greatest = g.T.Counter.greatest in
    let first = c.next_nonzero.result in
    let m = c.widen_if-2.new.self in
    let total : c.saturating_add-self-inside.result ≡ min (h.total + min (sum s.counts) (2 ^ 64 - 1)) (2 ^ 64 - 1) = c.saturating_add-self-inside.ensures ∙ ap (λ k. min (h.total + k) (2 ^ 64 - 1)) c.capped_sum.ensures in
    let marks : m ≡ record { top = later_of (later_of h.top_mark first) s.top_mark; lower = earlier_of (earlier_of h.lower_mark first) s.top_mark } =
    c.widen_if-2.ensures ∙ ap (λ (v : MarkPair). record { top = later_of v.top c.top.result; lower = earlier_of v.lower c.top.result }) c.widen_if.ensures
    ∙ ap (λ t. record { top = later_of (later_of h.top_mark first) t; lower = earlier_of (earlier_of h.lower_mark first) t }) c.top.ensures in
    ap (λ ns. record h { counts = ns; total = c.saturating_add-self-inside.result; top_mark = m.top; lower_mark = m.lower }) (ap (λ (b : Blocks). b.numbers) c.add_all.ensures)
    ∙ ap (λ t. record h { counts = capped_sums greatest h.counts s.counts; total = t; top_mark = m.top; lower_mark = m.lower }) total
    ∙ ap (λ (v : MarkPair). record h { counts = capped_sums greatest h.counts s.counts; total = min (h.total + min (sum s.counts) (2 ^ 64 - 1)) (2 ^ 64 - 1); top_mark = v.top; lower_mark = v.lower }) marks
    ∙ fronts-are greatest g.F.Counter.greatest h s first c.self.invariant.plain c.source.invariant.plain (rw (← c.self.view_is, ← c.source.view_is) at c.requires.same_classes) (rw (← c.self.view_is, ← c.source.view_is) at c.requires.in_range)
    (lower-of s.counts first c.next_nonzero.ensures.within c.next_nonzero.ensures.index)

pub capped_sum-requires : goal.capped_sum-requires
capped_sum-requires g c = bins-pos g.F.Counter.greatest (plain_of c.source.inside) c.source.invariant.plain

pub widen_if-requires-2 : goal.widen_if-requires-2
widen_if-requires-2 g c =
    let s = plain_of c.source.inside in
    let q = c.source.invariant.plain in
    subst (λ mark. IfSome mark (λ i. i < 2 ^ 32)) (sym c.top.ensures) (few-marks s.top_mark (length s.counts) q.top_in_bins (few-bins g.F.Counter.greatest s q))

pub invariant_of-self : goal.invariant_of-self
invariant_of-self g c =
    let h = plain_of c.self.inside in
    let s = plain_of c.source.inside in
    let greatest = g.T.Counter.greatest in
    let room : max_of s ≤ reach h = rw (← c.self.view_is, ← c.source.view_is) at c.requires.in_range in
    record {
      scale = c.self.invariant.scale;
      block = ap (λ (b : Blocks). b.block) c.add_all.ensures ∙ c.self.invariant.block;
      plain = subst (λ (w : Plain). IsPlain greatest w) (sym (made g (goal.at.invariant_of-self g c).After-widen_if-2))
          (IsPlain-each greatest h (classes_from (resolution s) 0 s.counts ++ top_class (resolution s) s.top_mark) g.met.T.Counter.one_fits c.self.invariant.plain (classes-inside g.F.Counter.greatest s (reach h) c.source.invariant.plain room));
    }

pub returns : goal.returns
returns g c =
    let greatest = g.T.Counter.greatest in
    made g (goal.at.returns g c).After-widen_if-2
    ∙ ap (λ (p : Plain). after_records greatest p (classes_from (resolution (plain_of c.source.inside)) 0 (plain_of c.source.inside).counts ++ top_class (resolution (plain_of c.source.inside)) (plain_of c.source.inside).top_mark)) c.self.view_is
    ∙ ap (λ (p : Plain). after_records greatest c.args.self.now (classes_from (resolution p) 0 p.counts ++ top_class (resolution p) p.top_mark)) c.source.view_is
