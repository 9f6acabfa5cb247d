use Rattle.std.proofs.Common.{◌++◌, List, subst}
use Rattle.hdr_model.specs.Plain.{Plain}
use Rattle.hdr_compare.specs.Parts.{KeepsParts, waiting}
use Rattle.hdr_compare.proofs.Parts.{keeps-both}
use Rattle.hdr_compare.proofs.merging.in_pairs.Goals as goal

pub loop-batch-preserved : goal.loop-batch-preserved
loop-batch-preserved c =
    let batches = c.args.batches.items in
    let front = c.loop-batch.pairs.items ++ waiting c.loop-batch.earlier in
    let rest = c.next.new.self.rest.items in
    let before = subst (λ (l : List Plain). KeepsParts batches (front ++ l)) c.in-Some.ensures.steps.0 c.loop-batch.invariant in
    keeps-both batches _ (c.after_batch.new.pairs.items ++ waiting c.in_ok-earlier.earlier ++ rest) before (c.in_ok-earlier.ensures.kept rest)
