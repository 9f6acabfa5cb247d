use Rattle.std.proofs.Common.{◌≡◌, ◌++◌, ◌+◌, ◌^◌, ◌<◌, length, subst, sym, ap, ◌∙◌, arith}
use Rattle.hdr_base.specs.Classes.{IsFiner}
use Rattle.hdr_model.specs.Plain.{resolution}
use Rattle.hdr_gather.specs.Counts.{AreCounts}
use Rattle.hdr_gather.specs.Sums.{IsJoined}
use Rattle.hdr_gather.proofs.Exchange.{stands_exchanged, length-exchange, fits_by_length}
use Rattle.hdr_gather.proofs.Summing.{sum_finer, sum_coarser}
use Rattle.hdr_gather.proofs.sum.IntervalSum.add.Goals as goal

pub returns-then-refines : goal.returns-then-refines
returns-then-refines c = λ hs sum.
    let old = c.args.self.now in
    let added = c.in_ok-add.ensures in
    let fine : IsFiner (resolution c.args.other) (resolution old.histogram) = c.refines.ensures.0 c.if-refines.true in
    let joined : IsJoined old.histogram c.args.other c.add.new.self = λ S L s l few. added.samples L l fine S s (fits_by_length _ (S ++ L) few) in
    let counts = subst (λ n. AreCounts c.add-then-refines.new.self (old.counts.intervals + 1) (old.counts.finer + n)) c.one_if_finer-finer.ensures c.add-then-refines.ensures in
    sum_finer hs c.args.other old _ sum added.same_classes fine joined counts

pub returns-then-refines-2 : goal.returns-then-refines-2
returns-then-refines-2 c = λ hs sum.
    let old = c.args.self.now in
    let added = c.in_ok-add-2.ensures in
    let fine : IsFiner (resolution old.histogram) (resolution c.args.other) = c.refines-2.ensures.0 c.if-refines-2.true in
    let coarser : IsFiner (resolution c.args.other) (resolution old.histogram) → ⊥ = λ f. absurd (let h = sym c.if-refines.false ∙ c.refines.ensures.1 f in cc) in
    let is : c.replace-finer.new.dest ≡ c.add-then-refines-2.new.self = c.replace-finer.ensures.after in
    let joined : IsJoined old.histogram c.args.other c.add-then-refines-2.new.self = λ S L s l few.
    let other : length (L ++ S) < 2 ^ 64 = omega (arith, few, length-exchange S L) in
    stands_exchanged _ L S (added.samples S s fine L l (fits_by_length _ (L ++ S) other)) in
    sum_coarser hs c.args.other old _ sum (ap resolution is ∙ added.same_classes) coarser fine (subst (IsJoined old.histogram c.args.other) (sym is) joined) c.add-then-refines-2-2.ensures
