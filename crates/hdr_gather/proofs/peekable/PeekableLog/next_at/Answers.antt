use Rattle.std.proofs.Common.{◌≡◌, ◌++◌, sym, ap, subst, ◌∙◌}
use Rattle.hdr_gather.specs.Left.{UnreadHold, next_interval}
use Rattle.hdr_gather.proofs.peekable.PeekableLog.next_at.Goals as goal

pub returns-clause-left : goal.returns-clause-left
returns-clause-left g c = λ all h.
    let next = c.in_ok-next.ensures in
    let is : all ≡ next_interval c.in_ok-next.next ++ h.0 = h.1 ∙ ap (λ o. next_interval o ++ h.0) c.replace-taken.ensures.after in
    (all, ap (λ o. next_interval o ++ all) (c.replace-taken.ensures.value ∙ next.next), subst (UnreadHold g.R.Read.remaining c.args.self.now) (sym is) (next.left h.0 h.2))
