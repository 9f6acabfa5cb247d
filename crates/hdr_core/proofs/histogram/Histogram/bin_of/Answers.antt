use Rattle.std.proofs.Common.{◌≡◌, ◌∙◌, ◌≤◌, ap, arith}
use Rattle.hdr_base.specs.Classes.{Resolution, bin_of}
use Rattle.hdr_core.specs.Shown.{plain_of}
use Rattle.hdr_model.specs.Plain.{resolution, reach}
use Rattle.hdr_model.proofs.PlainKept.{room-in, room-of}
use Rattle.hdr_core.proofs.histogram.Histogram.bin_of.Goals as goal

pub returns-then-bin-len-clause-value : goal.returns-then-bin-len-clause-value
returns-then-bin-len-clause-value g c =
    let h = plain_of c.self.inside in
    let bin : c.bin-bin.result ≡ bin_of (resolution h) c.args.value = c.bin-bin.ensures.value ∙ ap (λ (s : Resolution). bin_of s c.args.value) c.self.invariant.scale in
    rw (← c.self.view_is)
    (room-of g.T.Counter.greatest h c.args.value c.self.invariant.plain (omega arith), bin)

pub returns-else-bin-len-clause-value : goal.returns-else-bin-len-clause-value
returns-else-bin-len-clause-value g c =
    let h = plain_of c.self.inside in
    let bin : c.bin-bin.result ≡ bin_of (resolution h) c.args.value = c.bin-bin.ensures.value ∙ ap (λ (s : Resolution). bin_of s c.args.value) c.self.invariant.scale in
    rw (← c.self.view_is)
    (λ (le : c.args.value ≤ reach h). omega (arith, room-in g.T.Counter.greatest h c.args.value c.self.invariant.plain le))

pub returns-then-bin-len-clause-plain : goal.returns-then-bin-len-clause-plain
returns-then-bin-len-clause-plain g c = rw c.self.view_is at c.self.invariant.plain

pub returns-else-bin-len-clause-plain : goal.returns-else-bin-len-clause-plain
returns-else-bin-len-clause-plain g c = rw c.self.view_is at c.self.invariant.plain
