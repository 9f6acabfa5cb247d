use Rattle.std.proofs.Common.{◌++◌, ◌∷◌, [], append_assoc, append-nil, sym, subst}
use Rattle.std.specs.List.{AllZip}
use Rattle.hdr_verdict.specs.Blocks.{IsUsualOf}
use Rattle.hdr_logs.proofs.Zips.{zip-push}
use Rattle.hdr_verdict.proofs.usual_values.push_usual.Goals as goal

pub loop-own-init : goal.loop-own-init
loop-own-init c = λ before all. subst (λ l. AllZip IsUsualOf l c.args.usual.now.items) (sym (append-nil before)) all

pub loop-own-preserved : goal.loop-own-preserved
loop-own-preserved c = λ before all.
    let both = zip-push IsUsualOf (before ++ c.loop-own.yielded) c.loop-own.usual.items c.in-Some.own c.in_ok-usual.field-0 (c.loop-own.invariant before all) c.in_ok-usual.ensures in
    subst (AllZip IsUsualOf (before ++ (c.loop-own.yielded ++ c.in-Some.own ∷ []))) (sym c.in_ok-push.ensures.items)
    (subst (λ l. AllZip IsUsualOf l (c.loop-own.usual.items ++ c.in_ok-usual.field-0 ∷ [])) (append_assoc before c.loop-own.yielded (c.in-Some.own ∷ [])) both)
