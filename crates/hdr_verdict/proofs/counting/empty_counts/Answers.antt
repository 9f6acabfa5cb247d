use Rattle.std.proofs.Common.{◌+◌, ◌++◌, ◌∷◌, [], ℕ, take, get_or, take_all, refl, sym, subst}
use Rattle.std.proofs.lemmas.List.{take_more}
use Rattle.std.specs.List.{AllZip}
use Rattle.hdr_verdict.specs.declared.above.CountsAbove.{CountsAbove}
use Rattle.hdr_verdict.specs.CountsAboveFor.{AreCountsOf}
use Rattle.hdr_logs.proofs.Zips.{zip-push}
use Rattle.hdr_verdict.proofs.counting.empty_counts.Goals as goal

pub loop-value-preserved : goal.loop-value-preserved
loop-value-preserved c = λ cells.
    let values = c.args.values.now in
    let i = c.loop-value.value-index in
    let value = get_or values i 0 in
    let new : CountsAbove = record { value = value; counts = c.new.result } in
    let R : ℕ → CountsAbove → Type 0 = AreCountsOf cells 0 in
    let both = zip-push R (take i values) c.loop-value.all.items value new (c.loop-value.invariant cells) (refl, c.new.ensures.items) in
    subst (AllZip R (take (i + 1) values)) (sym c.in-Ok.ensures.items) (subst (λ l. AllZip R l (c.loop-value.all.items ++ new ∷ [])) (sym (take_more values i 0 c.loop-value-test.true)) both)

pub returns : goal.returns
returns c = λ cells. subst (λ l. AllZip (AreCountsOf cells 0) l c.loop-value.all.items) (take_all c.loop-value.value-index c.args.values.now c.loop-value-test.false) (c.loop-value.invariant cells)
