use Rattle.std.proofs.Common.{◌-◌, ◌<◌, map, take, drop, subst, arith}
use Rattle.std.proofs.lemmas.List.{length-take}
use Rattle.hdr_counts.specs.Blocks.{AreZeros, IsFirstNonzero}
use Rattle.hdr_counts.proofs.BlocksOpen.{open-first, open-none-after}
use Rattle.hdr_counts.proofs.counts_builder.CountsBuilder.next_nonzero.Goals as goal

pub returns-clause-index : goal.returns-clause-index
returns-clause-index g c =
    let n = g.T.Counter.number in
    let s = c.self.inside in
    let from = c.min-from.result in
    let p = c.in_ok-place.place in
    let inside : p < s.next - from = omega (arith, c.in_ok-place.ensures.within, length-take (s.next - from) (drop from c.deref.result.now)) in
    rw (← c.self.view_is) (open-first n s.counters.items s.section s.current s.next s.end s.first s.len from p c.self.invariant.1 c.min-from.ensures inside (subst (λ l. IsFirstNonzero (map n (take (s.next - from) (drop from l))) p) c.deref.ensures.value c.in_ok-place.ensures.index))

pub returns-in_err-place-clause-index : goal.returns-in_err-place-clause-index
returns-in_err-place-clause-index g c =
    let n = g.T.Counter.number in
    let s = c.self.inside in
    let from = c.min-from.result in
    rw (c.from_residual.ensures, ← c.self.view_is) (open-none-after n s.counters.items s.section s.current s.next s.end s.first s.len from c.self.invariant.1 c.min-from.ensures (subst (λ l. AreZeros (map n (take (s.next - from) (drop from l)))) c.deref.ensures.value c.in_err-place.ensures.index))
