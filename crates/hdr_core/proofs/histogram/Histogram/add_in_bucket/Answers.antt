use Rattle.std.proofs.Common.{◌≡◌, ◌∙◌, ◌+◌, ◌-◌, ◌*◌, ◌/◌, ◌%◌, ◌<◌, ◌≤◌, ℕ, min, max, length, ap, sym, refl, arith}
use Rattle.hdr_base.specs.Classes.{Resolution, width_of, bin_of, lowest_of}
use Rattle.hdr_base.proofs.ClassesIntervals.{place-le-bin, place-bin, place-span}
use Rattle.hdr_model.specs.Plain.{Plain, resolution, reach}
use Rattle.hdr_model.specs.Recording.{after_add_to_bin, after_records}
use Rattle.hdr_model.specs.Correction.{each_times, down_to}
use Rattle.hdr_model.proofs.PlainKept.{resolution-digits, room-in}
use Rattle.hdr_model.proofs.RecordingFills.{resolution-added, reach-added, bins-added}
use Rattle.hdr_model.proofs.CorrectionByClass.{state-step, held-step, members-fit}
use Rattle.hdr_core.proofs.histogram.Histogram.add_in_bucket.Given as given
use Rattle.hdr_core.proofs.histogram.Histogram.add_in_bucket.Goals as goal
use Rattle.hdr_core.proofs.histogram.Histogram.add_in_bucket.Goals.{In-loop-next}

-- what is known of the value x: its bin, and how far it is above the lowest value of its class
record IsFound (h : Plain) (scale : Resolution) (x first w i : ℕ) : Type 0 where
  ge : i ≤ x
  digits : 0 < (resolution h).digits
  room : bin_of (resolution h) x < length h.counts
  bin_is : (b : ℕ) → b ≡ bin_of scale first → b - first / w + x / w ≡ bin_of (resolution h) x
  span_is : (span : ℕ) → span ≡ min (x % w) (x - i) → span ≡ x - max (lowest_of (resolution h) x) i

found : (g : given.Over) (c : In-loop-next g) → IsFound c.args.self.now c.self.inside.scale c.loop-next.next c.args.first c.width-width.result c.args.interval
found g c =
    let h = c.args.self.now in
    let x = c.loop-next.next in
    let plain = rw c.self.view_is at c.self.invariant.plain in
    let same : c.self.inside.scale ≡ resolution h = c.self.invariant.scale ∙ ap (λ (p : Plain). resolution p) c.self.view_is in
    let width : c.width-width.result ≡ width_of (resolution h) c.args.first = c.width-width.ensures.value ∙ ap (λ (s : Resolution). width_of s c.args.first) same in
    let one = c.requires.one_bucket x (omega (arith, c.loop-next-test.true)) c.loop-next.invariant.below in
    let ge : c.args.interval ≤ x = omega (arith, c.requires.start, c.loop-next-test.true) in
    record {
      ge = ge;
      digits = resolution-digits g.T.Counter.greatest h plain;
      room = room-in g.T.Counter.greatest h x plain (omega (arith, c.requires.within, c.loop-next.invariant.below));
      bin_is = λ b is. rw width (place-bin (resolution h) x c.args.first b one (is ∙ ap (λ (s : Resolution). bin_of s c.args.first) same));
      span_is = λ span is. omega (arith, is, ge, ap (λ v. x % v) width, place-span (resolution h) x c.args.first one);
    }

pub overflow_sub-offset : goal.overflow_sub-offset
overflow_sub-offset g c =
    let le = place-le-bin c.self.inside.scale c.args.first in
    omega (arith, c.bin.ensures.value, le, ap (λ w. c.args.first / w) c.width-width.ensures.value)

pub add_counted-requires-clause-bin : goal.add_counted-requires-clause-bin
add_counted-requires-clause-bin g c =
    let f = found g (goal.at.add_counted-requires-clause-bin g c).In-loop-next in
    omega (arith, f.bin_is c.bin.result c.bin.ensures.value, f.room, c.loop-next.invariant.same_bins)

pub add_counted-requires-clause-ticks_fit : goal.add_counted-requires-clause-ticks_fit
add_counted-requires-clause-ticks_fit g c =
    let h = c.args.self.now in
    let x = c.loop-next.next in
    let i = c.args.interval in
    let low = max (lowest_of (resolution h) x) i in
    let f = found g (goal.at.add_counted-requires-clause-ticks_fit g c).In-loop-next in
    omega (arith, c.requires.ticks_fit, c.loop-next.invariant.ticks, held-step (resolution h) x i low ((x - low) / i + 1) (omega arith) f.digits f.ge refl refl (length h.counts) f.room)

pub overflow_sub-next : goal.overflow_sub-next
overflow_sub-next g c =
    let h = c.args.self.now in
    let i = c.args.interval in
    let f = found g (goal.at.overflow_sub-next g c).In-loop-next in
    members-fit (resolution h) c.loop-next.next i (max (lowest_of (resolution h) c.loop-next.next) i) c.values_in_class-values.result (omega arith) f.digits f.ge refl (c.values_in_class-values.ensures ∙ ap (λ y. y / i + 1) (f.span_is _ refl))

pub overflow_mul-next : goal.overflow_mul-next
overflow_mul-next g c = omega (arith, overflow_sub-next g c)

pub loop-next-preserved : goal.loop-next-preserved
loop-next-preserved g c =
    let h = c.args.self.now in
    let k = c.loop-next.self in
    let greatest = g.T.Counter.greatest in
    let x = c.loop-next.next in
    let i = c.args.interval in
    let n = c.args.count in
    let low = max (lowest_of (resolution h) x) i in
    let m = (x - low) / i + 1 in
    let inv = c.loop-next.invariant in
    let f = found g (goal.at.loop-next-preserved g c).In-loop-next in
    let digits_here : 0 < (resolution k).digits = rw inv.same_classes f.digits in
    let members : c.values_in_class-values.result ≡ m = c.values_in_class-values.ensures ∙ ap (λ y. y / i + 1) (f.span_is _ refl) in
    let is_low_here : low ≡ max (lowest_of (resolution k) x) i = ap (λ (s : Resolution). max (lowest_of s x) i) (sym inv.same_classes) in
    let is_bin = f.bin_is c.bin.result c.bin.ensures.value ∙ ap (λ (s : Resolution). bin_of s x) (sym inv.same_classes) in
    let room_here : bin_of (resolution k) x < length k.counts = rw inv.same_classes (omega (arith, f.room, inv.same_bins)) in
    let new : c.add_counted.new.self ≡ after_add_to_bin greatest k (bin_of (resolution k) x) (m * n) =
    c.add_counted.ensures.state ∙ ap (λ b. after_add_to_bin greatest k b (c.values_in_class-values.result * n)) is_bin ∙ ap (λ q. after_add_to_bin greatest k (bin_of (resolution k) x) (q * n)) members in
    rw members (record {
      state = ap (λ (s : Plain). after_records greatest s (each_times n (down_to (x - m * i) i))) new
          ∙ state-step greatest k x i low m n (omega arith) digits_here f.ge is_low_here refl (omega (arith, c.requires.within, inv.below, inv.same_reach)) room_here ∙ inv.state;
      ticks = omega (arith, c.add_counted.ensures.ticks, inv.ticks, held-step (resolution h) x i low m (omega arith) f.digits f.ge refl refl (length h.counts) f.room);
      same_classes = ap (λ (s : Plain). resolution s) new ∙ resolution-added greatest k (bin_of (resolution k) x) (m * n) ∙ inv.same_classes;
      same_bins = ap (λ (s : Plain). length s.counts) new ∙ bins-added greatest k (bin_of (resolution k) x) (m * n) ∙ inv.same_bins;
      same_reach = ap (λ (s : Plain). reach s) new ∙ reach-added greatest k (bin_of (resolution k) x) (m * n) ∙ inv.same_reach;
      below = omega (arith, inv.below);
    })
