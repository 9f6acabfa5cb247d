use Rattle.std.proofs.Common.{◌≡◌, ◌∙◌, ◌++◌, map, get_or, take, ap, arith}
use Rattle.hdr_counts.specs.Blocks.{Blocks}
use Rattle.hdr_counts.proofs.BlocksOpen.{copied-numbers}
use Rattle.hdr_counts.proofs.Counts.copied.Given as given
use Rattle.hdr_counts.proofs.Counts.copied.Goals as goal
use Rattle.hdr_counts.proofs.Counts.copied.Goals.{In_ok-resize}

numbers : (g : given.Over) (c : In_ok-resize g) → map g.T.Counter.number c.resize.new.self.items ≡ map g.T.Counter.number c.self.inside.counters.items
numbers g c =
    let s = c.self.inside in
    let front = c.in_ok-extend_from_slice.ensures.items ∙ ap (λ xs. xs ++ take c.args.used c.deref.result.now) c.in_ok-counters.ensures.items in
    copied-numbers g.T.Counter.number s.counters.items c.resize.new.self.items c.extend_from_slice.new.self.items c.deref.result.now c.zero.result c.len-len.result _ c.args.used
    c.deref.ensures.value front c.extend_from_slice.new.self.ok.0 (omega (arith, c.len-len.ensures, s.counters.ok.0)) c.zero.ensures c.in_ok-resize.ensures.items
    (λ i le. ap (λ (v : Blocks). get_or v.numbers i 0) c.self.view_is ∙ c.requires.rest i le)

pub invariant_of-result : goal.invariant_of-result
invariant_of-result g c =
    let sums = c.in_ok-extend_from_slice-2.ensures.items ∙ ap (λ xs. xs ++ c.deref-2.result.now) c.in_ok-sums.ensures.items ∙ c.deref-2.ensures.value in
    rw (numbers g (goal.at.invariant_of-result g c).In_ok-resize, sums) c.self.invariant

pub returns : goal.returns
returns g c =
    ap (λ ns. record { block = c.self.inside.block; numbers = ns }) (numbers g (goal.at.returns g c).In_ok-resize) ∙ c.self.view_is
