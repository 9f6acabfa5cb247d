use Rattle.std.proofs.Common.{◌≡◌, leb, sym, ◌∙◌, arith}
use Rattle.hdr_base.specs.Classes.{lowest_of, top_of}
use Rattle.hdr_base.proofs.ClassesDigits.{digits-pos-of}
use Rattle.hdr_model.specs.Plain.{resolution}
use Rattle.hdr_summary.proofs.CountsByClass.{count-all-same, count-none, ends-whole, ends-partly, ends-none}
use Rattle.hdr_summary.proofs.classes.count_ended.Goals as goal

pub returns-then-highest_equivalent-value : goal.returns-then-highest_equivalent-value
returns-then-highest_equivalent-value c = λ S stands. (
    let h = c.args.histogram.now in
    let g = resolution h in
    let v = c.args.value in
    let end : top_of g v ≡ v = sym c.highest_equivalent.ensures ∙ c.if-highest_equivalent-value.true in
    c.count_begun.ensures.samples S stands
    ∙ count-all-same (λ s. leb (lowest_of g s) v) (λ s. leb (top_of g s) v) S (λ s. ends-whole g (digits-pos-of h.low h.sigfig) s v end)
    )

pub returns-in-Some : goal.returns-in-Some
returns-in-Some c = λ S stands. (
    let h = c.args.histogram.now in
    let g = resolution h in
    let v = c.args.value in
    let before = c.in-Some.before in
    c.count_begun-in-Some.ensures.samples S stands
    ∙ count-all-same (λ s. leb (lowest_of g s) before) (λ s. leb (top_of g s) v) S (λ s.
    ends-partly g (digits-pos-of h.low h.sigfig) s v before (λ e. c.if-highest_equivalent-value.false (c.highest_equivalent.ensures ∙ e))
    (rw (← c.lowest_equivalent.ensures) c.in-Some.ensures.0) (rw (← c.lowest_equivalent.ensures) c.in-Some.ensures.1))
    )

pub returns-in-None : goal.returns-in-None
returns-in-None c = λ S stands. (
    let h = c.args.histogram.now in
    let g = resolution h in
    let v = c.args.value in
    sym (count-none (λ s. leb (top_of g s) v) S (λ s.
    ends-none g (digits-pos-of h.low h.sigfig) s v (λ e. c.if-highest_equivalent-value.false (c.highest_equivalent.ensures ∙ e))
    (omega (arith, c.lowest_equivalent.ensures, c.in-None.ensures))))
    )
