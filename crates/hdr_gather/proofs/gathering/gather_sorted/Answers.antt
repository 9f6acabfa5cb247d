use Rattle.std.proofs.Common.{subst, sym, rules}
use Rattle.std.proofs.lemmas.List.Sorted.{IsPermutation-refl}
use Rattle.hdrhistogram.specs.LogWriters.{sink}
use Rattle.hdr_gather.specs.Logs.{WritesStart}
use Rattle.hdr_gather.proofs.Counting.{counts_all}
use Rattle.hdr_gather.proofs.Left.{left_before}
use Rattle.hdr_gather.proofs.gathering.gather_sorted.Goals as goal

pub returns : goal.returns
returns g c =
    let contents = g.W.Write.contents in
    let decimals = c.max-decimals.result in
    let unit = c.find_map-unit.result in
    let start = subst (λ o. WritesStart decimals unit (contents c.args.output.now) (contents o)) (sym c.new-log.ensures.holds) c.in_ok-write_start.ensures in
    let written = c.in_ok-write_in_order.ensures.written in
    let counts = counts_all _ _ _ written.1 c.new-sums.ensures written.3 in
    let lines = written.2 in (
      decimals,
      unit,
      written.0,
      (contents (sink c.new-log.result).now, written.1, start, (written.0, IsPermutation-refl written.0, (lines.0, lines.1, lines.2, lines.3, lines.4, search rules)), counts),
      λ known.
          left_before g.R.Read.remaining c.args.logs.now c.begin_logs.new.logs written.0 c.in_ok-begin_logs.ensures.left (written.4 (c.in_ok-begin_logs.ensures.ready known)),
      written.5,
    )
