use Rattle.std.proofs.Common.{length, ap, ◌∙◌, arith}
use Rattle.hdr_counts.specs.Blocks.{section_of}
use Rattle.hdr_counts.proofs.BlocksParts.{front-within, front-is, back-within, back-is}
use Rattle.hdr_counts.proofs.Counts.sum_in_section.Goals as goal

pub part_sum-requires-clause-within : goal.part_sum-requires-clause-within
part_sum-requires-clause-within g c =
    front-within g.T.Counter.number c.args.self.now c.self.inside.counters.items c.deref.result.now c.self.inside.sums.items c.self.inside.section c.args.k c.args.i c.index-whole.result.now
    (c.self.invariant.sections.section_is ∙ ap (λ v. section_of v.block (length v.numbers)) c.self.view_is) (ap (λ v. v.numbers) c.self.view_is) c.self.invariant.sums_are c.deref.ensures.value c.index-whole.ensures c.requires.from c.requires.before c.requires.within

pub returns-then-i-from : goal.returns-then-i-from
returns-then-i-from g c =
    front-is g.T.Counter.number c.args.self.now c.self.inside.counters.items c.deref.result.now c.self.inside.sums.items c.self.inside.section c.args.k c.args.i c.index-whole.result.now
    (c.self.invariant.sections.section_is ∙ ap (λ v. section_of v.block (length v.numbers)) c.self.view_is) (ap (λ v. v.numbers) c.self.view_is) c.self.invariant.sums_are c.deref.ensures.value c.index-whole.ensures c.requires.from c.requires.before c.requires.within c.part_sum.result c.part_sum.ensures

pub part_sum-requires-2-clause-within : goal.part_sum-requires-2-clause-within
part_sum-requires-2-clause-within g c =
    back-within g.T.Counter.number c.args.self.now c.self.inside.counters.items c.deref-2.result.now c.self.inside.sums.items c.self.inside.section c.args.k c.args.i c.index-whole.result.now
    (c.self.invariant.sections.section_is ∙ ap (λ v. section_of v.block (length v.numbers)) c.self.view_is) (ap (λ v. v.numbers) c.self.view_is) c.self.invariant.sums_are c.deref-2.ensures.value c.index-whole.ensures c.requires.from c.requires.before c.requires.within

pub overflow_sub-result : goal.overflow_sub-result
overflow_sub-result g c =
    let part = back-within g.T.Counter.number c.args.self.now c.self.inside.counters.items c.deref-2.result.now c.self.inside.sums.items c.self.inside.section c.args.k c.args.i c.index-whole.result.now
    (c.self.invariant.sections.section_is ∙ ap (λ v. section_of v.block (length v.numbers)) c.self.view_is) (ap (λ v. v.numbers) c.self.view_is) c.self.invariant.sums_are c.deref-2.ensures.value c.index-whole.ensures c.requires.from c.requires.before c.requires.within in
    omega (arith, part, c.part_sum-2.ensures)

pub returns : goal.returns
returns g c =
    back-is g.T.Counter.number c.args.self.now c.self.inside.counters.items c.deref-2.result.now c.self.inside.sums.items c.self.inside.section c.args.k c.args.i c.index-whole.result.now
    (c.self.invariant.sections.section_is ∙ ap (λ v. section_of v.block (length v.numbers)) c.self.view_is) (ap (λ v. v.numbers) c.self.view_is) c.self.invariant.sums_are c.deref-2.ensures.value c.index-whole.ensures c.requires.from c.requires.before c.requires.within c.part_sum-2.result c.part_sum-2.ensures
