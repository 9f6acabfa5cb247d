use Rattle.std.proofs.Common.{◌≡◌, None, ◌++◌, refl, sym, subst, rules}
use Rattle.hdr_gather.specs.Left.{UnreadHold, next_interval}
use Rattle.hdr_gather.proofs.peekable.PeekableLog.begin.Goals as goal

pub returns-clause-left : goal.returns-clause-left
returns-clause-left g c = λ all h.
    let none : c.args.self.now.next ≡ None = search rules in
    (all, subst (λ o. all ≡ next_interval o ++ all) (sym none) refl, subst (UnreadHold g.R.Read.remaining c.args.self.now) (sym h.1) (c.in_ok-self.ensures.left h.0 h.2))
