use Rattle.std.proofs.Common.{◌<◌, arith, inl, inr}
use Rattle.std.proofs.lemmas.Bool.{cases_lt}
use Rattle.hdr_verdict.proofs.BlockFacts.{no-tail, few-usual, many-usual}
use Rattle.hdr_verdict.proofs.usual.TailValues.usual.Goals as goal

pub returns-then-self-eq0 : goal.returns-then-self-eq0
returns-then-self-eq0 c = λ total least cells v. no-tail c.args.self.tail.num c.args.self.tail.den total cells c.if-self-eq0.true

pub returns-then-len-lt-FEWEST_BLOCKS : goal.returns-then-len-lt-FEWEST_BLOCKS
returns-then-len-lt-FEWEST_BLOCKS c = λ total least cells v.
    let some : 0 < c.args.self.tail.num = elim (cases_lt 0 c.args.self.tail.num) [ inl lt ↦ lt | inr ge ↦ absurd (c.if-self-eq0.false (omega arith)) ] in
    few-usual total least cells c.args.self v some (omega (arith, c.len.ensures, c.if-len-lt-FEWEST_BLOCKS.true))

pub returns : goal.returns
returns c = λ total least cells v.
    let some : 0 < c.args.self.tail.num = elim (cases_lt 0 c.args.self.tail.num) [ inl lt ↦ lt | inr ge ↦ absurd (c.if-self-eq0.false (omega arith)) ] in
    many-usual total least c.in_ok-lower_quartile.field-0 c.in_ok-lower_quartile-2.field-0 cells c.args.self v some (omega (arith, c.len.ensures, c.if-len-lt-FEWEST_BLOCKS.false)) c.in_ok-lower_quartile.ensures c.in_ok-lower_quartile-2.ensures
