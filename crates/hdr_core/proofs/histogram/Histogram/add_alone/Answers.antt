use Rattle.std.proofs.Common.{◌≡◌, ◌∙◌, ◌+◌, ◌-◌, ◌*◌, ◌/◌, ◌<◌, ℕ, max, length, ap, sym, refl, arith}
use Rattle.hdr_base.specs.Classes.{Resolution, bin_of, lowest_of}
use Rattle.hdr_model.specs.Plain.{Plain, resolution, reach}
use Rattle.hdr_model.specs.Recording.{after_add_to_bin, after_records}
use Rattle.hdr_model.specs.Correction.{each_times, classes_held, down_to}
use Rattle.hdr_model.proofs.PlainKept.{resolution-digits, room-in}
use Rattle.hdr_model.proofs.RecordingFills.{resolution-added, reach-added, bins-added}
use Rattle.hdr_model.proofs.CorrectionByClass.{state-step, held-step}
use Rattle.hdr_core.proofs.CorrectionAlone.{one-member}
use Rattle.hdr_core.proofs.histogram.Histogram.add_alone.Given as given
use Rattle.hdr_core.proofs.histogram.Histogram.add_alone.Goals as goal
use Rattle.hdr_core.proofs.histogram.Histogram.add_alone.Goals.{After-len-len}

-- what is known of the value x: its bin, and that it is the one member of its class
record IsAlone (h : Plain) (x i bin : ℕ) : Type 0 where
  digits : 0 < (resolution h).digits
  room : bin_of (resolution h) x < length h.counts
  bin_is : bin ≡ bin_of (resolution h) x
  one : (x - max (lowest_of (resolution h) x) i) / i + 1 ≡ 1

alone : (g : given.Over) (c : After-len-len g) → IsAlone c.args.self.now c.args.first c.args.interval c.bin-bin.result
alone g c =
    let h = c.args.self.now in
    let x = c.args.first in
    let plain = rw c.self.view_is at c.self.invariant.plain in
    record {
      digits = resolution-digits g.T.Counter.greatest h plain;
      room = room-in g.T.Counter.greatest h x plain c.requires.within;
      bin_is = c.bin-bin.ensures.value ∙ ap (λ (s : Resolution). bin_of s x) c.requires.scale;
      one = one-member (resolution h) x c.args.interval c.requires.step c.requires.some c.requires.alone;
    }

once : (i : ℕ) → 1 * i ≡ i
once i = omega arith

-- one value and one class fewer are left
held-one : (g : given.Over) (c : After-len-len g)
    → let h = c.args.self.now in
    let held = λ (x : ℕ). classes_held (resolution h) (length h.counts) (down_to x c.args.interval) in
    held c.args.first ≡ 1 + held (c.args.first - c.args.interval)
held-one g c =
    let h = c.args.self.now in
    let x = c.args.first in
    let i = c.args.interval in
    let low = max (lowest_of (resolution h) x) i in
    let a = alone g c in
    held-step (resolution h) x i low ((x - low) / i + 1) c.requires.step a.digits c.requires.some refl refl (length h.counts) a.room
    ∙ ap (λ m. 1 + classes_held (resolution h) (length h.counts) (down_to (x - m * i) i)) a.one
    ∙ ap (λ y. 1 + classes_held (resolution h) (length h.counts) (down_to (x - y) i)) (once i)

pub prove-unreachable-requires : goal.prove-unreachable-requires
prove-unreachable-requires g c =
    let a = alone g (goal.at.prove-unreachable-requires g c).After-len-len in
    let len : length c.self.inside.counts.numbers ≡ length c.args.self.now.counts = ap (λ (p : Plain). length p.counts) c.self.view_is in
    omega (arith, c.if-prove.true, c.len-len.ensures.value, len, a.bin_is, a.room)

pub add_counted-requires-clause-bin : goal.add_counted-requires-clause-bin
add_counted-requires-clause-bin g c =
    let a = alone g (goal.at.add_counted-requires-clause-bin g c).After-len-len in
    omega (arith, a.bin_is, a.room)

pub add_counted-requires-clause-ticks_fit : goal.add_counted-requires-clause-ticks_fit
add_counted-requires-clause-ticks_fit g c =
    omega (arith, c.requires.ticks_fit, held-one g (goal.at.add_counted-requires-clause-ticks_fit g c).After-len-len)

-- the histogram after the one value was recorded
added : (g : given.Over) (c : goal.After-add_counted g) → c.add_counted.new.self ≡ after_add_to_bin g.T.Counter.greatest c.args.self.now (bin_of (resolution c.args.self.now) c.args.first) (1 * c.args.count)
added g c =
    let a = alone g (goal.at.returns-clause-state g c).After-len-len in
    c.add_counted.ensures.state ∙ ap (λ b. after_add_to_bin g.T.Counter.greatest c.args.self.now b (1 * c.args.count)) a.bin_is

pub returns-clause-state : goal.returns-clause-state
returns-clause-state g c =
    let h = c.args.self.now in
    let greatest = g.T.Counter.greatest in
    let x = c.args.first in
    let i = c.args.interval in
    let n = c.args.count in
    let low = max (lowest_of (resolution h) x) i in
    let a = alone g (goal.at.returns-clause-state g c).After-len-len in
    ap (λ (s : Plain). after_records greatest s (each_times n (down_to (x - i) i))) (added g c)
    ∙ sym (ap (λ y. after_records greatest (after_add_to_bin greatest h (bin_of (resolution h) x) (1 * n)) (each_times n (down_to (x - y) i))) (once i))
    ∙ sym (ap (λ m. after_records greatest (after_add_to_bin greatest h (bin_of (resolution h) x) (m * n)) (each_times n (down_to (x - m * i) i))) a.one)
    ∙ state-step greatest h x i low ((x - low) / i + 1) n c.requires.step a.digits c.requires.some refl refl c.requires.within a.room

pub returns-clause-ticks : goal.returns-clause-ticks
returns-clause-ticks g c =
    omega (arith, c.add_counted.ensures.ticks, held-one g (goal.at.returns-clause-ticks g c).After-len-len)

pub returns-clause-same_classes : goal.returns-clause-same_classes
returns-clause-same_classes g c =
    ap (λ (s : Plain). resolution s) (added g c) ∙ resolution-added g.T.Counter.greatest c.args.self.now _ _

pub returns-clause-same_bins : goal.returns-clause-same_bins
returns-clause-same_bins g c =
    ap (λ (s : Plain). length s.counts) (added g c) ∙ bins-added g.T.Counter.greatest c.args.self.now _ _

pub returns-clause-same_reach : goal.returns-clause-same_reach
returns-clause-same_reach g c =
    ap (λ (s : Plain). reach s) (added g c) ∙ reach-added g.T.Counter.greatest c.args.self.now _ _
