use Rattle.std.proofs.Common.{sym, subst}
use Rattle.std.specs.List.{AllZip}
use Rattle.hdr_verdict.specs.declared.usual.Blocks.{Blocks}
use Rattle.hdr_verdict.specs.Blocks.{IsUsualOf, values_of}
use Rattle.hdr_verdict.proofs.Each.{flat-push}
use Rattle.hdr_verdict.proofs.usual_values.usual_of_all.Goals as goal

pub loop-blocks-preserved : goal.loop-blocks-preserved
loop-blocks-preserved c =
    let both = c.in_ok-push_usual.ensures (values_of c.loop-blocks.yielded) c.loop-blocks.invariant in
    subst (λ l. AllZip IsUsualOf l c.push_usual.new.usual.items) (sym (flat-push (λ (b : Blocks). b.tails.items) c.loop-blocks.yielded c.in-Some.blocks)) both
