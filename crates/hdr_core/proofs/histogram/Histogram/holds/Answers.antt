use Rattle.std.proofs.Common.{◌≡◌, ◌≢◌, ◌⊎◌, ◌∙◌, ◌+◌, ◌<◌, ◌≤◌, ap, arith, length, get_or, inl, inr}
use Rattle.hdr_base.specs.Classes.{value_of}
use Rattle.hdr_base.proofs.ClassesFiner.{bin-value_of}
use Rattle.hdr_model.specs.Plain.{Plain, resolution}
use Rattle.hdr_model.proofs.PlainKept.{resolution-digits}
use Rattle.hdr_model.proofs.MergingKeeps.{number-le-max}
use Rattle.hdr_model.proofs.MergingHolds.{held-all, held-le, tested-init, tested-past, tested-sum, tested-next}
use Rattle.hdr_core.proofs.histogram.Histogram.holds.Given as given
use Rattle.hdr_core.proofs.histogram.Histogram.holds.Goals as goal
use Rattle.hdr_core.proofs.histogram.Histogram.holds.Goals.{In-loop-bin, After-from-in-loop-bin, then-target-at, else-target-at}

pub loop-bin-init : goal.loop-bin-init
loop-bin-init g c =
    let h = c.args.self.now in
    let s = c.args.other.now in
    let on = c.next_filled-bin.ensures in
    record {
      filled = on.filled;
      tested = tested-past (resolution h) (resolution s) h.counts s.counts 0 c.next_filled-bin.result 0 0 on.onward on.empty (tested-init (resolution h) (resolution s) h.counts s.counts);
    }

-- the class that is read is one of the other's, its number is not 0, and both keep digits
inside : (g : given.Over) (c : In-loop-bin g)
    → (c.loop-bin.bin < length c.args.other.now.counts) × (0 < get_or c.args.other.now.counts c.loop-bin.bin 0) × (0 < (resolution c.args.other.now).digits) × (0 < (resolution c.args.self.now).digits)
inside g c =
    let lt : c.loop-bin.bin < length c.args.other.now.counts = omega (arith, c.loop-bin-test.true, c.distinct_values.ensures.value) in (
      lt,
      c.loop-bin.invariant.filled lt,
      resolution-digits g.T.Counter.greatest c.args.other.now c.distinct_values.ensures.plain,
      resolution-digits g.T.Counter.greatest c.args.self.now (rw c.self.view_is at c.self.invariant.plain),
    )

pub bin_of_class-target-requires-clause-reached : goal.bin_of_class-target-requires-clause-reached
bin_of_class-target-requires-clause-reached g c =
    let s = c.args.other.now in
    let i = c.loop-bin.bin in
    let (lt, pos, mf, mg) = inside g (goal.at.bin_of_class-target-requires-clause-reached g c).In-loop-bin in
    omega (arith, number-le-max g.T.Counter.greatest s i (value_of (resolution s) i) c.distinct_values.ensures.plain pos (bin-value_of (resolution s) i mf), c.requires)

-- the number of the class, what counted before it, and what its bin has
read : (g : given.Over) (c : After-from-in-loop-bin g)
    → (c.from.result ≡ get_or c.args.other.now.counts c.loop-bin.bin 0)
    × (((c.bin_of_class-target.result ≡ c.loop-bin.at) × (c.if-target-at.before ≡ c.loop-bin.sum)) ⊎ ((c.bin_of_class-target.result ≢ c.loop-bin.at) × (c.if-target-at.before ≡ 0)))
    × (c.from-in-loop-bin.result ≡ get_or c.args.self.now.counts c.bin_of_class-target.result 0)
read g c = (
  c.from.ensures ∙ c.as_u64.ensures.value ∙ c.get.ensures ∙ ap (λ (p : Plain). get_or p.counts c.loop-bin.bin 0) c.other.view_is,
  elim c.if-target-at.branch [
    | then-target-at v ↦ inl (v.if-target-at.true, v.before-is)
    | else-target-at v ↦ inr (v.if-target-at.false, v.before-is)
  ],
  c.from-in-loop-bin.ensures ∙ c.as_u64-in-loop-bin.ensures.value ∙ c.get-in-loop-bin.ensures ∙ ap (λ (p : Plain). get_or p.counts c.bin_of_class-target.result 0) c.self.view_is,
)

pub returns-then-sum-from-clause-no : goal.returns-then-sum-from-clause-no
returns-then-sum-from-clause-no g c =
    let h = c.args.self.now in
    let s = c.args.other.now in
    let i = c.loop-bin.bin in
    let target = c.bin_of_class-target.result in
    let now = goal.at.returns-then-sum-from-clause-no g c in
    let (lt, pos, mf, mg) = inside g now.In-loop-bin in
    let (n, before, room) = read g now.After-from-in-loop-bin in
    let sum = tested-sum (resolution h) (resolution s) h.counts s.counts i c.loop-bin.at c.loop-bin.sum c.if-target-at.before target mf mg lt pos c.loop-bin.invariant.tested c.bin_of_class-target.ensures.value before in
    λ e. (target, omega (arith, sum, n, room, held-le (resolution h) (resolution s) s.counts (i + 1) target, c.if-sum-from.true))

pub loop-bin-preserved : goal.loop-bin-preserved
loop-bin-preserved g c =
    let h = c.args.self.now in
    let s = c.args.other.now in
    let i = c.loop-bin.bin in
    let target = c.bin_of_class-target.result in
    let now = goal.at.loop-bin-preserved g c in
    let (lt, pos, mf, mg) = inside g now.In-loop-bin in
    let (n, before, room) = read g now.After-from-in-loop-bin in
    let on = c.next_filled-bin-in-loop-bin.ensures in
    let fits : c.if-target-at.before + get_or s.counts i 0 ≤ get_or h.counts target 0 = omega (arith, n, room, c.if-sum-from.false) in
    let next = tested-next (resolution h) (resolution s) h.counts s.counts i c.loop-bin.at c.loop-bin.sum c.if-target-at.before target mf mg lt pos c.loop-bin.invariant.tested c.bin_of_class-target.ensures.value before fits in
    record {
      filled = on.filled;
      tested = rw n (tested-past (resolution h) (resolution s) h.counts s.counts (i + 1) c.next_filled-bin-in-loop-bin.result target (c.if-target-at.before + get_or s.counts i 0) on.onward on.empty next);
    }

pub returns-clause-yes : goal.returns-clause-yes
returns-clause-yes g c =
    let h = c.args.self.now in
    let s = c.args.other.now in
    λ e j. omega (arith, c.loop-bin.invariant.tested.tested j, held-all (resolution h) (resolution s) s.counts c.loop-bin.bin j (omega (arith, c.loop-bin-test.false, c.distinct_values.ensures.value)))
