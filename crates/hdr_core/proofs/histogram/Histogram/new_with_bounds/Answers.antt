use Rattle.std.proofs.Common.{Result, Ok, Err, MatchResult, ap, ◌∙◌}
use Rattle.std.specs.Prelude.{IfErr}
use Rattle.hdr_model.specs.Plain.{empty_plain}
use Rattle.hdr_core.specs.declared.histogram.bounds.Bounds.{Bounds}
use Rattle.hdr_core.proofs.histogram.Histogram.new_with_bounds.Goals as goal

-- what follows for the value and for the error of a result
mapped : {A E : Type 0} (r : Result A E) (P P' : A → Type 0) (Q Q' : E → Type 0) → ((a : A) → P a → P' a) → ((e : E) → Q e → Q' e) → MatchResult r P Q → MatchResult r P' Q'
mapped (Ok a) P P' Q Q' f g h = f a h
mapped (Err e) P P' Q Q' f g h = g e h

failed : {A E : Type 0} (r : Result A E) (P : A → Type 0) (Q Q' : E → Type 0) → ((e : E) → Q e → Q' e) → MatchResult r P Q → IfErr r Q'
failed (Ok a) P Q Q' g h = tt
failed (Err e) P Q Q' g h = g e h

pub returns-clause-made : goal.returns-clause-made
returns-clause-made g c =
    let a = c.args in
    let made = c.in_ok-scale.ensures.made.1 in
    mapped c.empty.result _ _ _ _
    (λ h is. (is ∙ ap (λ (b : Bounds). empty_plain b.low b.high b.sigfig b.auto_resize) c.fixed.ensures, made))
    (λ e is. rw is made)
    c.empty.ensures

pub returns-clause-beyond : goal.returns-clause-beyond
returns-clause-beyond g c = failed c.empty.result _ _ _ (λ e is. rw is tt) c.empty.ensures
