use Rattle.std.proofs.Common.{◌≡◌, ℕ, suc, ◌+◌, List, Option, length, map, subst, arith}
use Rattle.std.proofs.lemmas.List.{length-map}
use Rattle.std.specs.Duration.{as_nanos}
use Rattle.hdr_model.specs.Plain.{Plain}
use Rattle.hdrhistogram.specs.V2.{IsV2}
use Rattle.hdrhistogram.specs.LogLeaving.{IsIntervalText}
use Rattle.hdr_logs.specs.Stored.{Stored, view_of_stored}
use Rattle.hdr_gather.specs.Counts.{AreCounts, CountsMore}
use Rattle.hdr_gather.specs.Keys.{all_of}
use Rattle.hdr_gather.proofs.Counting.{counts_sum}
use Rattle.hdr_gather.proofs.writing.write_sum.Goals as goal

interval_text : (h : Plain) (tag named : Option (List ℕ)) (a b d v w : ℕ) (t : List ℕ) → tag ≡ named → a ≡ b → v ≡ w → IsIntervalText IsV2 h tag a d v t → IsIntervalText IsV2 h named b d w t
interval_text h tag named a b d v w t n e f i =
    let A : ℕ → Type 0 = λ x. IsIntervalText IsV2 h tag x d v t in
    let V : ℕ → Type 0 = λ x. IsIntervalText IsV2 h tag b d x t in
    let N : Option (List ℕ) → Type 0 = λ x. IsIntervalText IsV2 h x b d w t in
    subst N n (subst V f (subst A e i))

pub returns-clause-written : goal.returns-clause-written
returns-clause-written g c =
    let l = c.in_ok-write_v2.ensures.leaves in
    let line = interval_text _ _ _ _ _ _ _ _ l.0 c.tag.ensures c.from_millis-start.ensures c.requires l.1 in
    let sum = c.in_ok-sum.ensures.sum in
    let others : List Stored = all_of c.args.others.now in
    let many : suc (length (map (λ i. i.field) others)) ≡ length c.args.others.now + 1 = omega (arith, length-map others (λ i. i.field), length-map c.args.others.now (λ part. view_of_stored part.now)) in
    let counts : AreCounts c.in_ok-sum.sum.counts (length c.args.others.now + 1) sum.0 = subst (λ n. AreCounts c.in_ok-sum.sum.counts n sum.0) many sum.2 in
    let counted = subst (λ old. CountsMore old (length c.args.others.now + 1) sum.0 c.count.new.self.counts) c.in_ok-sum.ensures.counts (counts_sum _ _ _ (length c.args.others.now + 1) sum.0 counts c.count.ensures) in
    (sum.0, (l.0, (c.in_ok-sum.sum.histogram, as_nanos c.longest.result, sum.1, c.longest.ensures, line), l.2), counted)
