use Rattle.std.proofs.Common.{◌≡◌, ◌∙◌, map, get_or, take, ap, sym, arith}
use Rattle.std.proofs.lemmas.List.{length-map, map-set, take_all}
use Rattle.std.proofs.lemmas.List.Sums.{get_or-le-sum_by}
use Rattle.hdr_counts.specs.Blocks.{capped_sums}
use Rattle.hdr_counts.proofs.BlocksSums.{number-at}
use Rattle.hdr_counts.proofs.BlocksCapped.{capped-none, capped-write, capped-rest}
use Rattle.hdr_counts.proofs.adding.add_plain.Goals as goal

pub loop-i-init : goal.loop-i-init
loop-i-init g c = sym (capped-none g.T.Counter.greatest (map g.T.Counter.number c.args.counters.now))

pub overflow_add-sum : goal.overflow_add-sum
overflow_add-sum g c =
    let greatest = g.T.Counter.greatest in
    let ms = map g.T.Counter.number c.args.counters.now in
    let ns = map g.F.Counter.number c.args.source.now in
    let i = c.loop-i.i in
    let a = number-at g.T.Counter.number c.loop-i.counters i c.index-counters-i.result (omega arith) c.index-counters-i.is in
    let b = number-at g.F.Counter.number c.args.source.now i c.index-source-i.result (omega (arith, c.requires.len)) c.index-source-i.is in
    let was : get_or (map g.T.Counter.number c.loop-i.counters) i 0 ≡ get_or ms i 0 = ap (λ xs. get_or xs i 0) c.loop-i.invariant ∙ capped-rest greatest ms ns i in
    let len_m = length-map c.args.counters.now g.T.Counter.number in
    let len_n = length-map c.args.source.now g.F.Counter.number in
    omega (
      arith,
      a,
      b,
      was,
      get_or-le-sum_by (λ x. x) ms i 0 (omega (arith, len_m)),
      get_or-le-sum_by (λ x. x) ns i 0 (omega (arith, len_n, c.requires.len)),
      c.requires.fits,
      c.as_u64.ensures.value,
      c.as_u64-in-loop-i.ensures.value,
      g.met.T.Counter.fits,
    )

pub loop-i-preserved : goal.loop-i-preserved
loop-i-preserved g c =
    let greatest = g.T.Counter.greatest in
    let ms = map g.T.Counter.number c.args.counters.now in
    let ns = map g.F.Counter.number c.args.source.now in
    let i = c.loop-i.i in
    let a = number-at g.T.Counter.number c.loop-i.counters i c.index-counters-i.result (omega arith) c.index-counters-i.is in
    let b = number-at g.F.Counter.number c.args.source.now i c.index-source-i.result (omega (arith, c.requires.len)) c.index-source-i.is in
    let len_m = length-map c.args.counters.now g.T.Counter.number in
    let len_n = length-map c.args.source.now g.F.Counter.number in
    map-set g.T.Counter.number c.loop-i.counters i c.saturating_from.result
    ∙ capped-write greatest ms ns (map g.T.Counter.number c.loop-i.counters) i (g.T.Counter.number c.saturating_from.result) c.loop-i.invariant
    (omega (arith, len_m)) (omega (arith, len_n, c.requires.len))
    (omega (arith, c.saturating_from.ensures, c.from.ensures, a, b, c.as_u64.ensures.value, c.as_u64-in-loop-i.ensures.value))

pub returns : goal.returns
returns g c =
    let ns = map g.F.Counter.number c.args.source.now in
    let len_n = length-map c.args.source.now g.F.Counter.number in
    let all : take c.loop-i.i ns ≡ ns = take_all c.loop-i.i ns (omega (arith, len_n, c.requires.len)) in
    c.loop-i.invariant ∙ ap (λ xs. capped_sums g.T.Counter.greatest (map g.T.Counter.number c.args.counters.now) xs) all
