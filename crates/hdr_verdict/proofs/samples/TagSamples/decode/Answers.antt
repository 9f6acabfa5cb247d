use Rattle.std.proofs.Common.{◌≡◌, ◌∙◌, ◌≤◌, ℕ, List, [], length, get_or, ap, sym, subst}
use Rattle.std.proofs.lemmas.Result.{on_ok_weaker}
use Rattle.hdr_verdict.specs.Samples.{Held, AreHeld, rounded, samples_between, width_of}
use Rattle.hdr_verdict.specs.ClassSamples.{AreClassesOf}
use Rattle.hdr_verdict.specs.TagSamples.{HasSamples}
use Rattle.hdr_verdict.specs.Decoders.{intervals_of}
use Rattle.hdr_verdict.proofs.CellSamples.{cell-samples}
use Rattle.hdr_verdict.proofs.samples.TagSamples.decode.Goals as goal

pub returns-clause-samples : goal.returns-clause-samples
returns-clause-samples c =
    let w = c.args.self.now.width in
    let cell = c.index-cell.result.now in
    let new = c.decode_all.new.classes.items in
    on_ok_weaker {P = (all : List Held) → AreHeld (intervals_of c.args.self.now.decoder) all → w ≡ width_of all → AreClassesOf w new (rounded w (samples_between all cell.first cell.next))}
    {Q = (cells : List (List ℕ)) → HasSamples c.args.self.now cells → AreClassesOf w new (get_or cells c.args.index [])} c.decode_all.result
    (λ is cells s.
    let same = ap (λ l. get_or l c.args.index []) s.are ∙ cell-samples s.all w c.args.self.now.cells.items c.args.index cell c.index-cell.ensures c.requires in
    subst (AreClassesOf w new) (sym same) (is s.all s.held s.width))
    c.decode_all.ensures.samples
