use Rattle.std.proofs.Common.{◌≡◌, ◌∷◌, ℕ, ◌⊎◌, inl, inr, map, take, take_all, ap, subst, ◌∙◌, arith, Bor}
use Rattle.std.specs.Duration.{as_nanos}
use Rattle.std.specs.declared.time.Duration.{Duration}
use Rattle.hdr_logs.specs.Stored.{Stored, view_of_stored}
use Rattle.hdr_logs.specs.declared.stored.StoredInterval.{StoredInterval}
use Rattle.hdr_gather.specs.Lines.{IsLongest}
use Rattle.hdr_gather.proofs.Longest.{longest_of_one, longest_next}
use Rattle.hdr_logs.proofs.Parts.{map_twice}
use Rattle.hdr_gather.proofs.sum.longest.Goals as goal

abbrev duration_of : Stored → ℕ
duration_of i = i.duration

abbrev interval_at : Bor StoredInterval → Stored
interval_at part = view_of_stored part.now

abbrev duration_at : Bor StoredInterval → ℕ
duration_at part = duration_of (interval_at part)

in_nanos : (new one other : Duration) → (new ≡ one) ⊎ (new ≡ other) → (as_nanos new ≡ as_nanos one) ⊎ (as_nanos new ≡ as_nanos other)
in_nanos new one other (inl e) = inl (ap as_nanos e)
in_nanos new one other (inr e) = inr (ap as_nanos e)

pub loop-part-init : goal.loop-part-init
loop-part-init c = longest_of_one (as_nanos c.args.first.now.duration)

pub loop-part-preserved : goal.loop-part-preserved
loop-part-preserved c =
    longest_next duration_at (as_nanos c.args.first.now.duration) c.args.others.now c.loop-part.part-index c.part-item.result _ _ c.loop-part-test.true c.part-item.is c.loop-part.invariant
    c.longer-longest.ensures.low c.longer-longest.ensures.high (in_nanos _ _ _ c.longer-longest.ensures.one_of)

pub returns : goal.returns
returns c =
    let others = c.args.others.now in
    let all : take c.loop-part.part-index others ≡ others = take_all c.loop-part.part-index others (omega (arith, c.loop-part-test.false)) in
    subst (λ l. IsLongest (as_nanos c.args.first.now.duration ∷ l) (as_nanos c.loop-part.longest)) (ap (map duration_at) all ∙ map_twice duration_of interval_at others) c.loop-part.invariant
