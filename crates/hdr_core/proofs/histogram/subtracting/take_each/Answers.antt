use Rattle.std.proofs.Common.{◌≡◌, ◌∙◌, ◌+◌, ◌-◌, ◌<◌, ◌≤◌, ℕ, List, ap, refl, arith, length, get_or, set}
use Rattle.std.proofs.lemmas.List.{length-set}
use Rattle.std.proofs.lemmas.List.Elements.{All-set}
use Rattle.hdr_base.specs.Classes.{bin_of, value_of}
use Rattle.hdr_counts.specs.Blocks.{Blocks}
use Rattle.hdr_model.specs.Plain.{Plain, resolution}
use Rattle.hdr_model.proofs.MergingHolds.{held-all, held-none, held-past, enough-left, taken-next}
use Rattle.hdr_core.proofs.histogram.subtracting.take_each.Given as given
use Rattle.hdr_core.proofs.histogram.subtracting.take_each.Goals as goal
use Rattle.hdr_core.proofs.histogram.subtracting.take_each.Goals.{After-get}

pub loop-bin-init : goal.loop-bin-init
loop-bin-init g c =
    let s = c.args.other.now in
    let on = c.next_filled-bin.ensures in
    record {
      filled = on.filled;
      block = refl;
      bins = refl;
      fit = c.requires.fit;
      taken = λ j. omega (arith, held-none c.args.scale (resolution s) s.counts j, held-past c.args.scale (resolution s) s.counts 0 c.next_filled-bin.result j on.onward on.empty);
    }

-- the class that is read is one of the other's, its number is not 0, and its bin has as much
read : (g : given.Over) (c : After-get g)
    → (c.loop-bin.bin < length c.args.other.now.counts) × (0 < get_or c.args.other.now.counts c.loop-bin.bin 0)
    × (c.bin-target.result ≡ bin_of c.args.scale (value_of (resolution c.args.other.now) c.loop-bin.bin))
    × (g.T.Counter.number c.get.result ≡ get_or c.args.other.now.counts c.loop-bin.bin 0)
read g c =
    let inside : c.loop-bin.bin < length c.args.other.now.counts = omega (arith, c.loop-bin-test.true, c.distinct_values.ensures.value) in (
      inside,
      c.loop-bin.invariant.filled inside,
      c.bin-target.ensures.value ∙ ap (λ v. bin_of c.args.scale v) c.class_value.ensures,
      c.get.ensures ∙ ap (λ (p : Plain). get_or p.counts c.loop-bin.bin 0) c.other.view_is,
    )

pub take_from-requires : goal.take_from-requires
take_from-requires g c =
    let s = c.args.other.now in
    let (inside, pos, here, n) = read g (goal.at.take_from-requires g c).After-get in
    let left = enough-left c.args.scale (resolution s) s.counts c.args.counts.now.numbers c.loop-bin.counts.numbers c.loop-bin.bin c.bin-target.result inside pos here c.requires.enough c.loop-bin.invariant.taken in
    record { inside = left.0; enough = omega (arith, n, left.1) }

pub loop-bin-preserved : goal.loop-bin-preserved
loop-bin-preserved g c =
    let f = resolution c.args.other.now in
    let k = c.args.scale in
    let s = c.args.other.now in
    let i = c.loop-bin.bin in
    let was = c.args.counts.now.numbers in
    let now = c.loop-bin.counts.numbers in
    let target = c.bin-target.result in
    let on = c.next_filled-bin-in-loop-bin.ensures in
    let (inside, pos, here, n) = read g (goal.at.loop-bin-preserved g c).After-get in
    let (room, most) = enough-left k f s.counts was now i target inside pos here c.requires.enough c.loop-bin.invariant.taken in
    let put = get_or now target 0 - get_or s.counts i 0 in
    let new = c.take_from.ensures ∙ ap (λ n. record { block = c.loop-bin.counts.block; numbers = set now target (get_or now target 0 - n) }) n in
    let numbers : c.take_from.new.counts.numbers ≡ set now target put = ap (λ (b : Blocks). b.numbers) new in
    record {
      filled = on.filled;
      block = ap (λ (b : Blocks). b.block) new ∙ c.loop-bin.invariant.block;
      bins = ap (λ (l : List ℕ). length l) numbers ∙ length-set now target put ∙ c.loop-bin.invariant.bins;
      fit = rw numbers (All-set (λ n. n ≤ g.T.Counter.greatest) now target put (omega (arith, c.loop-bin.invariant.fit target 0 room)) c.loop-bin.invariant.fit);
      taken = λ j. rw (numbers, held-past k f s.counts (i + 1) c.next_filled-bin-in-loop-bin.result j on.onward on.empty)
          (taken-next k f s.counts was now i target inside pos here room most c.loop-bin.invariant.taken j);
    }

pub returns-clause-numbers : goal.returns-clause-numbers
returns-clause-numbers g c =
    let s = c.args.other.now in
    λ j. omega (arith, c.loop-bin.invariant.taken j, held-all c.args.scale (resolution s) s.counts c.loop-bin.bin j (omega (arith, c.loop-bin-test.false, c.distinct_values.ensures.value)))
