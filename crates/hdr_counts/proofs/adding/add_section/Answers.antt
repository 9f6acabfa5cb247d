use Rattle.std.proofs.Common.{map, ap, sym, arith, sum}
use Rattle.std.proofs.lemmas.List.{length-map}
use Rattle.hdr_counts.proofs.BlocksCapped.{capped-zeros, capped-free}
use Rattle.hdr_counts.proofs.adding.add_section.Goals as goal

pub returns-then-more-eq0-clause-numbers : goal.returns-then-more-eq0-clause-numbers
returns-then-more-eq0-clause-numbers g c =
    sym (capped-zeros g.T.Counter.greatest (map g.T.Counter.number c.args.counters.now) (map g.F.Counter.number c.args.source.now) c.requires.fit (omega (arith, c.requires.more)))

pub returns-then-had-more-clause-sum : goal.returns-then-had-more-clause-sum
returns-then-had-more-clause-sum g c =
    let ms = map g.T.Counter.number c.args.counters.now in
    let ns = map g.F.Counter.number c.args.source.now in
    let free = capped-free g.T.Counter.greatest ms ns (omega (arith, length-map c.args.counters.now g.T.Counter.number, length-map c.args.source.now g.F.Counter.number, c.requires.len))
    (omega (arith, c.requires.sum, c.requires.more, c.if-had-more.true, c.from.ensures, c.as_u64.ensures.value, c.max_value.ensures)) in
    omega (arith, free, ap sum c.add_plain.ensures, c.requires.sum, c.requires.more)
