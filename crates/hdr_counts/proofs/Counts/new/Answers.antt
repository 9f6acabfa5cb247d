use Rattle.std.proofs.Common.{◌/◌, ◌≡◌, ◌*◌, ◌≤◌, map, replicate, ap, subst, arith}
use Rattle.std.proofs.lemmas.List.{length-replicate}
use Rattle.std.proofs.lemmas.List.Elements.{All-replicate}
use Rattle.hdr_counts.proofs.BlocksOpen.{none-resized, made-zeros, zeros-made}
use Rattle.hdr_counts.specs.Blocks.{AreSums}
use Rattle.hdr_counts.proofs.BlocksSections.{AreSections-made, AreParted-of}
use Rattle.hdr_counts.proofs.Counts.new.Given as given
use Rattle.hdr_counts.proofs.Counts.new.Goals as goal
use Rattle.hdr_counts.proofs.Counts.new.Goals.{In_ok-resize}

numbers : (g : given.Over) (c : In_ok-resize g) → map g.T.Counter.number c.resize.new.self.items ≡ replicate (c.args.blocks * c.args.block) 0
numbers g c = made-zeros g.T.Counter.number c.in_ok-counters.counters.items c.resize.new.self.items c.zero.result (c.args.blocks * c.args.block) _ c.in_ok-counters.ensures.items c.in_ok-counters.ensures.len c.zero.ensures c.in_ok-resize.ensures.items

pub invariant_of-result : goal.invariant_of-result
invariant_of-result g c =
    let section = c.section_len-section.result in
    let made = AreSections-made c.args.block section c.args.blocks c.requires.nonzero c.section_len-section.ensures.value in
    let parts = AreParted-of c.args.block section (c.args.blocks * c.args.block) c.requires.nonzero made.whole made.section_is in
    let sections = c.args.blocks * c.args.block / c.section_len-section.result in
    let sums = none-resized c.in_ok-sums.sums.items c.resize-2.new.self.items sections _ c.in_ok-sums.ensures.items c.in_ok-sums.ensures.len c.in_ok-resize-2.ensures.items in
    rw (numbers g (goal.at.invariant_of-result g c).In_ok-resize, sums) (record {
      sections = rw length-replicate made;
      sums_are = subst (λ m. AreSums section (replicate m 0) (replicate sections 0)) parts.all (zeros-made section sections c.section_len-section.ensures.nonzero (omega (arith, parts.all, c.requires.at_most)));
      shift_is = c.exponent.ensures;
      fit = All-replicate (λ n. n ≤ g.T.Counter.greatest) (c.args.blocks * c.args.block) 0 (omega arith);
    })

pub returns : goal.returns
returns g c = ap (λ ns. record { block = c.args.block; numbers = ns }) (numbers g (goal.at.returns g c).In_ok-resize)
