use Rattle.std.proofs.Common.{◌*◌, ◌/◌, arith}
use Rattle.hdr_counts.proofs.BlocksOpen.{open-none, at-none, none-resized, set-first-zero}
use Rattle.hdr_counts.proofs.BlocksSections.{AreSections-made, AreParted-of}
use Rattle.hdr_counts.proofs.counts_builder.CountsBuilder.new.Goals as goal

pub invariant_of-result : goal.invariant_of-result
invariant_of-result g c =
    let section = c.section_len-section.result in
    let made = AreSections-made c.args.block section c.args.blocks c.requires.nonzero c.section_len-section.ensures.value in
    let parts = AreParted-of c.args.block section (c.args.blocks * c.args.block) c.requires.nonzero made.whole made.section_is in
    let sections = c.args.blocks * c.args.block / c.section_len-section.result in
    let sums_are = none-resized c.in_ok-sums.sums.items c.resize.new.self.items sections _ c.in_ok-sums.ensures.items c.in_ok-sums.ensures.len c.in_ok-resize.ensures.items in
    rw (c.in_ok-with_capacity.ensures.items, set-first-zero c.resize.new.self.items sections sums_are) (
      open-none g.T.Counter.greatest section sections _ _ c.resize.new.self.items c.exponent.result c.section_len-section.ensures.nonzero parts.all c.requires.at_most (omega (arith, c.in_ok-with_capacity.ensures.exact)) sums_are c.exponent.ensures,
      at-none section,
      made,
    )
