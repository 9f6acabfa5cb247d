use Rattle.std.proofs.Common.{◌≡◌, ◌∙◌, ap, arith}
use Rattle.hdr_base.specs.Classes.{Resolution, bin_of}
use Rattle.hdr_model.specs.Plain.{Plain, resolution}
use Rattle.hdr_model.specs.Recording.{after_add_to_bin}
use Rattle.hdr_model.proofs.PlainKept.{room-in}
use Rattle.hdr_model.proofs.MergingKeeps.{recorded-inside}
use Rattle.hdr_core.proofs.histogram.Histogram.record_inside.Goals as goal

pub add_to_bin-requires : goal.add_to_bin-requires
add_to_bin-requires g c =
    let h = c.args.self.now in
    let plain = rw c.self.view_is at c.self.invariant.plain in
    let same : c.self.inside.scale ≡ resolution h = c.self.invariant.scale ∙ ap (λ (p : Plain). resolution p) c.self.view_is in
    let bin : c.bin-bin.result ≡ bin_of (resolution h) c.args.value = c.bin-bin.ensures.value ∙ ap (λ (s : Resolution). bin_of s c.args.value) same in
    omega (arith, room-in g.T.Counter.greatest h c.args.value plain c.requires)

pub returns : goal.returns
returns g c =
    let h = c.args.self.now in
    let greatest = g.T.Counter.greatest in
    let v = c.args.value in
    let same : c.self.inside.scale ≡ resolution h = c.self.invariant.scale ∙ ap (λ (p : Plain). resolution p) c.self.view_is in
    let bin : c.bin-bin.result ≡ bin_of (resolution h) v = c.bin-bin.ensures.value ∙ ap (λ (s : Resolution). bin_of s v) same in
    c.add_to_bin.ensures ∙ ap (λ b. after_add_to_bin greatest h b c.args.number) bin
    ∙ recorded-inside greatest h v c.args.number c.requires
