use Rattle.std.proofs.Common.{◌≡◌, ◌∙◌, ◌-◌, min, ap, arith}
use Rattle.hdr_base.specs.Classes.{Resolution, bin_of}
use Rattle.hdr_core.specs.Shown.{plain_of}
use Rattle.hdr_model.specs.Plain.{resolution}
use Rattle.hdr_model.specs.Statistics.{bin_or_last}
use Rattle.hdr_model.proofs.PlainKept.{bins-pos}
use Rattle.hdr_core.proofs.histogram.Histogram.bin_or_last.Goals as goal

pub overflow_sub-len : goal.overflow_sub-len
overflow_sub-len g c = omega (arith, c.len.ensures.value, bins-pos g.T.Counter.greatest (plain_of c.self.inside) c.self.invariant.plain)

pub returns-clause-value : goal.returns-clause-value
unfolding bin_or_last
returns-clause-value g c =
    let h = plain_of c.self.inside in
    let bin : c.bin.result ≡ bin_of (resolution h) c.args.value = c.bin.ensures.value ∙ ap (λ (k : Resolution). bin_of k c.args.value) c.self.invariant.scale in
    rw (← c.self.view_is)
    (c.min.ensures ∙ ap (λ k. min k (c.len.result - 1)) bin ∙ ap (λ n. min (bin_of (resolution h) c.args.value) (n - 1)) c.len.ensures.value)

pub returns-clause-within : goal.returns-clause-within
returns-clause-within g c =
    rw (← c.self.view_is) (omega (arith, c.min.ensures, c.len.ensures.value, bins-pos g.T.Counter.greatest (plain_of c.self.inside) c.self.invariant.plain))
