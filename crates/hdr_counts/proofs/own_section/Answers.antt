use Rattle.std.proofs.Common.{◌≤◌, ◌∙◌, ap, sym, subst}
use Rattle.hdr_counts.specs.Blocks.{parted, own_section}
use Rattle.hdr_counts.proofs.BlocksSections.{own_section-some}
use Rattle.hdr_counts.proofs.own_section.Goals as goal

pub returns-clause-nonzero : goal.returns-clause-nonzero
unfolding own_section
returns-clause-nonzero c =
    let b = c.args.block in
    let value = c.part_len.ensures ∙ ap (λ m. parted b 131072 4096 m) (c.part_len-from_16_384.ensures ∙ ap (λ m. parted b 16384 1024 m) c.part_len-from_1024.ensures) in
    subst (λ m. 1 ≤ m) (sym value) (own_section-some b c.requires)
