use Rattle.std.proofs.Common.{◌≡◌, true, is_ok, refl, arith}
use Rattle.hdr_counts.proofs.BlocksSums.{grown}
use Rattle.hdr_counts.proofs.counts_builder.zero_fill.Goals as goal

pub returns-clause-numbers : goal.returns-clause-numbers
returns-clause-numbers g c =
    let xs = c.args.counters.now in
    let ok : is_ok c.resize.result ≡ true = c.resize.ensures.succeeds c.requires.capacity in
    let items = rw ok at c.resize.ensures.items in
    grown g.T.Counter.number xs.items c.resize.new.self.items xs.items c.zero.result c.args.len _ refl (omega (arith, xs.ok.0)) c.requires.within c.zero.ensures items
