use Rattle.std.proofs.Common.{◌∙◌, ◌-◌, ◌^◌, ℕ, min, sym, ap}
use Rattle.hdr_base.specs.Classes.{resolution_of}
use Rattle.hdr_model.specs.Plain.{resolution}
use Rattle.hdr_figures.proofs.ClassRanks.{classes-sum}
use Rattle.hdr_figures.proofs.classes.Classes.new.Goals as goal

pub returns : goal.returns
returns c = λ h l. record {
  listed = l;
  scale = c.in-Some.ensures.scale.1 ∙ ap (λ (low : ℕ). resolution_of low c.args.bounds.sigfig) (sym l.low) ∙ ap (resolution_of h.low) (sym l.sigfig);
  total = c.total_of.ensures ∙ ap (λ (n : ℕ). min n (2 ^ 64 - 1)) (classes-sum (resolution h) h.counts c.args.items.now l.items) ∙ sym l.restated.total;
}
