use Rattle.std.proofs.Common.{rules, ◌≡◌, ◌∙◌, ◌≤◌, ℕ, ap, sym, arith}
use Rattle.hdr_base.specs.Classes.{Resolution, bin_of}
use Rattle.hdr_model.proofs.RecordingStands.{StandsFor-recorded}
use Rattle.hdr_model.specs.Plain.{Plain, IsPlain, resolution, reach}
use Rattle.hdr_model.specs.Recording.{after_record, after_add_to_bin, with_bins_for}
use Rattle.hdr_model.proofs.PlainKept.{room-of, widened-same}
use Rattle.hdr_model.proofs.MergingStands.{recorded-high_with}
use Rattle.hdr_core.proofs.histogram.Histogram.record_n.Given as given
use Rattle.hdr_core.proofs.histogram.Histogram.record_n.Goals as goal
use Rattle.hdr_core.proofs.histogram.Histogram.record_n.Goals.{Then-try_add_to_bin}

-- what is known where the bin was added to: the value is inside the bins
record IsInside (greatest : ℕ) (h : Plain) (v bin : ℕ) : Type 0 where
  plain : IsPlain greatest h
  bin_is : bin ≡ bin_of (resolution h) v
  within : v ≤ reach h

inside : (g : given.Over) (c : Then-try_add_to_bin g) → IsInside g.T.Counter.greatest c.args.self.now c.args.value c.bin-bin.result
inside g c =
    let h = c.args.self.now in
    let plain = rw c.self.view_is at c.self.invariant.plain in
    let same : c.self.inside.scale ≡ resolution h = c.self.invariant.scale ∙ ap (λ (p : Plain). resolution p) c.self.view_is in
    let bin : c.bin-bin.result ≡ bin_of (resolution h) c.args.value = c.bin-bin.ensures.value ∙ ap (λ (s : Resolution). bin_of s c.args.value) same in
    record {
      plain = plain;
      bin_is = bin;
      within = room-of g.T.Counter.greatest h c.args.value plain (omega (arith, bin, c.if-try_add_to_bin.ensures.0));
    }

pub returns-then-try_add_to_bin-clause-ok : goal.returns-then-try_add_to_bin-clause-ok
unfolding after_record
returns-then-try_add_to_bin-clause-ok g c =
    let n = g.T.Counter.number c.args.count in
    let h = c.args.self.now in
    let v = c.args.value in
    let is = inside g c in
    c.if-try_add_to_bin.ensures.1 ∙ ap (λ k. after_add_to_bin g.T.Counter.greatest h c.bin-bin.result k) c.as_u64.ensures.value
    ∙ ap (λ (s : Plain). after_add_to_bin g.T.Counter.greatest s c.bin-bin.result n) (sym (widened-same h v is.within))
    ∙ ap (λ b. after_add_to_bin g.T.Counter.greatest (with_bins_for h v) b n) is.bin_is

pub returns-then-try_add_to_bin-clause-samples : goal.returns-then-try_add_to_bin-clause-samples
returns-then-try_add_to_bin-clause-samples g c = λ S stands fits.
    rw (returns-then-try_add_to_bin-clause-ok g c)
    (StandsFor-recorded g.T.Counter.greatest c.args.self.now c.args.value (g.T.Counter.number c.args.count) S (omega arith) (inside g c).plain stands fits)

pub returns-then-try_add_to_bin-clause-high : goal.returns-then-try_add_to_bin-clause-high
returns-then-try_add_to_bin-clause-high g c = ap (λ (w : Plain). w.high) (returns-then-try_add_to_bin-clause-ok g c) ∙ recorded-high_with g.T.Counter.greatest c.args.self.now c.args.value (g.T.Counter.number c.args.count)

pub returns-then-try_add_to_bin-clause-accepted : goal.returns-then-try_add_to_bin-clause-accepted
returns-then-try_add_to_bin-clause-accepted g c = (let le = (inside g c).within in search rules)
