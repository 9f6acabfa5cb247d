use Rattle.std.proofs.Common.{◌≡◌, ◌^◌, ◌-◌, length, take, min}
use Rattle.std.specs.List.{sum_by}
use Rattle.hdr_verdict.specs.TagSamples.{cells_of}
use Rattle.hdr_verdict.specs.declared.tags.Tag.{Tag}
use Rattle.hdr_verdict.proofs.tags.bar_of.Given as goal

abbrev pub invariant-loop-tag : goal.invariant-loop-tag
invariant-loop-tag l = l.cells ≡ min (sum_by (λ (tag : Tag). length (cells_of tag.samples)) (take l.tag-index l.tags)) (2 ^ 64 - 1)
