use Rattle.std.proofs.Common.{◌∷◌, ◌++◌, ap, inl, inr, subst, ◌∙◌}
use Rattle.std.proofs.lemmas.Result.{err_from_is_err_and}
use Rattle.hdr_logs.specs.Errors.{IsIntervalError}
use Rattle.hdr_logs.specs.declared.errors.LogError.{LogError}
use Rattle.hdr_logs.specs.declared.place.Place.{Place}
use Rattle.hdr_logs.specs.FileNames.{in_file}
use Rattle.hdr_logs.specs.Intervals.{view_of_log_interval}
use Rattle.hdr_logs.specs.Reading as reading
use Rattle.hdr_logs.specs.Stored.{stored}
use Rattle.hdr_gather.specs.Left.{IsNotSorted, name_of}
use Rattle.hdr_gather.proofs.peekable.PeekableLog.read.Goals as goal

pub returns-in-Chosen-clause-left : goal.returns-in-Chosen-clause-left
returns-in-Chosen-clause-left g c = λ rest left.
    let i = view_of_log_interval c.in-Chosen.interval in
    let all = ap (λ t. t ∷ rest) c.in_ok-interval-in-Chosen.ensures.stored ∙ ap (λ l. stored (in_file (name_of c.loop.self) i) ∷ l) left.1 in
    let here = subst (λ l. reading.UnreadHold g.R.Read.remaining c.loop.self.log (reading.intervals_of_line l ++ left.0)) c.in-Chosen.is (c.in_ok-interval.ensures.intervals left.0 left.2) in
    c.loop.invariant.left _ (i ∷ left.0, all, here)

-- an error of reading an interval does not say that intervals are not in order
in_order : (place : Place) (error : LogError) → IsIntervalError place error → IsNotSorted error → ⊥
in_order place error of (at, is) =
    elim (subst (IsIntervalError place) is of) [
      | inl none ↦ none
      | inr none ↦ none.2
    ]

pub returns-in_err-interval-clause-errors : goal.returns-in_err-interval-clause-errors
returns-in_err-interval-clause-errors g c =
    let same = err_from_is_err_and c.from_residual.result c.from_residual.ensures.1 in
    rw (same.1, same.2) (in_order _ _ c.in_err-interval.ensures.errors)
