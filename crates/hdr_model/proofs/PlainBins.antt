-- How many bins there are, and the bin of the greatest value.
use Rattle.std.proofs.Common.{◌≡◌, ℕ, ◌+◌, ◌-◌, ◌*◌, ◌^◌, ◌<◌, ◌≤◌, length, ◌∙◌, ap, arith, Option, Some, None, IfSome, unwrap_or, lit≤, inl, inr}
use Rattle.std.proofs.lemmas.Bool.{cases_lt}
use Rattle.hdr_base.specs.Classes.{most_bins, Resolution, resolution_of, bucket, bin_of, value_of, top_of, lowest_of, width_of, reach_of, digits_of, unit_of}
use Rattle.hdr_base.proofs.ClassesLaws.{same-bin, width-pos, pow_mono_le}
use Rattle.hdr_base.proofs.ClassesScale.{bucket-bound, blocks-most}
use Rattle.hdr_base.proofs.ClassesDigits.{digits-pos-of, digits-mono, digits-IsLeast}
use Rattle.hdr_base.proofs.ClassesReach.{past-bins, bins-blocks, bins_by}
use Rattle.hdr_base.proofs.ClassesFiner.{bin-value_of}
use Rattle.hdr_base.proofs.ClassesIntervals.{bin-first}
use Rattle.hdr_model.specs.Plain.{Plain, IsPlain, resolution, reach, block_of, max_of}
use Rattle.hdr_model.specs.Marks.{top_of_mark}

-- two buckets' blocks more than the number of the bucket of `high`
pub blocks-of : (greatest : ℕ) (h : Plain) → IsPlain greatest h → length h.counts ≡ (bucket (resolution h) h.high + 2) * block_of h
blocks-of greatest h p =
    p.bins ∙ bins-blocks (resolution h) h.high (digits-pos-of h.low h.sigfig)
    ∙ ap (λ n. n * block_of h) (let e : bucket (resolution h) h.high + 1 + 1 ≡ bucket (resolution h) h.high + 2 = omega arith in e)

digits-most : (low sigfig : ℕ) → sigfig ≤ 5 → (resolution_of low sigfig).digits ≤ 18
unfolding resolution_of
digits-most low sigfig h =
    let five : digits_of 5 ≤ 18 = (digits-IsLeast 5).least 18 (lit≤ tt) in
    omega (arith, digits-mono sigfig 5 h)

pub fits-of : (low sigfig : ℕ) → unit_of low + digits_of sigfig ≤ 63 → (resolution_of low sigfig).unit + (resolution_of low sigfig).digits ≤ 63
unfolding resolution_of
fits-of low sigfig h = h

-- a histogram has at most 6,291,456 bins
pub few-bins : (greatest : ℕ) (h : Plain) → IsPlain greatest h → length h.counts ≤ most_bins
few-bins greatest h p =
    let g = resolution h in
    let bound = bucket-bound g h.high p.high_fits (fits-of h.low h.sigfig p.scale.fits) in
    let most = blocks-most g.unit g.digits (bucket g h.high + 1) (omega (arith, bound)) (digits-most h.low h.sigfig p.scale.digits) in
    omega (arith, p.bins, bins-blocks g h.high (digits-pos-of h.low h.sigfig), most)

-- there are few blocks, and few bins in a block
pub looks-few : (greatest : ℕ) (h : Plain) → IsPlain greatest h → bucket (resolution h) h.high + 2 + block_of h ≤ most_bins
looks-few greatest h p =
    let g = resolution h in
    let bound = bucket-bound g h.high p.high_fits (fits-of h.low h.sigfig p.scale.fits) in
    let most : 2 ^ (g.digits - 1) ≤ 131072 = pow_mono_le (g.digits - 1) 17 (omega (arith, digits-most h.low h.sigfig p.scale.digits)) in
    omega (arith, bound, most)

pub bin-of-top : (g : Resolution) (v : ℕ) → 0 < g.digits → bin_of g (top_of g v) ≡ bin_of g v
unfolding top_of
bin-of-top g v m = same-bin g v (lowest_of g v + width_of g v - 1) m (omega (arith, width-pos g v)) (omega (arith, width-pos g v))

bin-of-mark : (g : Resolution) (mark : Option ℕ) → 0 < g.digits → bin_of g (top_of_mark g mark) ≡ unwrap_or mark 0
bin-of-mark g None m = bin-first g
bin-of-mark g (Some i) m = bin-of-top g (value_of g i) m ∙ bin-value_of g i m

-- the greatest value that counts as recorded lies in the top mark's class, or in the first
pub bin-of-max : (greatest : ℕ) (h : Plain) → IsPlain greatest h → bin_of (resolution h) (max_of h) ≡ unwrap_or h.top_mark 0
unfolding max_of
bin-of-max greatest h p = bin-of-mark (resolution h) h.top_mark (digits-pos-of h.low h.sigfig)

mark-within : (mark : Option ℕ) (n : ℕ) → 0 < n → IfSome mark (λ i. i < n) → unwrap_or mark 0 < n
mark-within None n h p = h
mark-within (Some i) n h p = p

-- the top mark's bin, or the first, is one of the bins
pub mark-inside : (greatest : ℕ) (h : Plain) → IsPlain greatest h → unwrap_or h.top_mark 0 < length h.counts
mark-inside greatest h p = mark-within h.top_mark (length h.counts) (omega (arith, p.bins, bins_by (resolution h) h.high)) p.top_in_bins

-- that value has a bin
pub max-has-bin : (greatest : ℕ) (h : Plain) → IsPlain greatest h → max_of h ≤ reach h
unfolding reach
max-has-bin greatest h p = elim (cases_lt (reach_of (resolution h) h.high) (max_of h)) [
  | inl past ↦ absurd (omega (arith, past-bins (resolution h) h.high (max_of h) (digits-pos-of h.low h.sigfig) past, bin-of-max greatest h p, mark-inside greatest h p, p.bins))
  | inr within ↦ within
]

-- the lowest value of a bin's class has a bin
pub value-has-bin : (greatest : ℕ) (h : Plain) (i : ℕ) → IsPlain greatest h → i < length h.counts → value_of (resolution h) i ≤ reach h
unfolding reach
value-has-bin greatest h i p lt = elim (cases_lt (reach_of (resolution h) h.high) (value_of (resolution h) i)) [
  | inl past ↦ absurd (omega (arith, past-bins (resolution h) h.high (value_of (resolution h) i) (digits-pos-of h.low h.sigfig) past, bin-value_of (resolution h) i (digits-pos-of h.low h.sigfig), p.bins))
  | inr within ↦ within
]
