use Rattle.std.proofs.Common.{arith, ◌∙◌, ◌<◌, ◌≤◌, ◌+◌, ◌^◌, ap, inl, inr}
use Rattle.std.proofs.lemmas.Bool.{cases_lt}
use Rattle.hdr_base.specs.Classes.{lowest_of}
use Rattle.hdr_verdict.specs.Samples.{classes_of}
use Rattle.hdr_verdict.proofs.ClassFacts.{above-from, above-greatest}
use Rattle.hdr_verdict.proofs.width.Width.count_above.Goals as goal

pub returns-in_default : goal.returns-in_default
returns-in_default c = λ S are few.
    above-greatest c.args.self c.args.classes.now c.args.value S c.requires are (elim (cases_lt (c.args.value + 1) (2 ^ 64)) [ inl lt ↦ absurd (c.in_default.ensures lt) | inr ge ↦ ge ])

pub returns : goal.returns
returns c = λ S are few.
    above-from c.args.self c.args.classes.now c.args.value c.lowest.result c.count_from.result S are few (c.lowest.ensures ∙ ap (lowest_of (classes_of c.args.self)) c.in-Some.ensures.1) c.count_from.ensures
