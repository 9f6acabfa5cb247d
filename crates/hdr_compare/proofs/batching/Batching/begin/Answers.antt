use Rattle.std.proofs.Common.{◌≡◌, ◌++◌, ◌∷◌, [], ◌∙◌, ap, sym, subst}
use Rattle.hdr_base.specs.Classes.{resolution_of}
use Rattle.hdr_model.specs.Plain.{Plain, resolution}
use Rattle.hdr_model.specs.Samples.{StandsFor}
use Rattle.hdr_compare.specs.Batchings.{batches_of}
use Rattle.hdr_compare.specs.Parts.{AreParts, HaveClasses}
use Rattle.hdr_compare.proofs.Parts.{classes-end, parts-end}
use Rattle.hdr_compare.proofs.batching.Batching.begin.Goals as goal

pub returns-else-len-ge-MOST-clause-samples : goal.returns-else-len-ge-MOST-clause-samples
returns-else-len-ge-MOST-clause-samples c S few has =
    let old = c.args.self.now in
    let g = resolution_of 1 old.sigfig in
    let all = c.push.new.batches.items in
    let more = c.replace-last.new.dest in
    let same : all ≡ batches_of old = c.in_ok-push.ensures.pushed ∙ ap (λ (h : Plain). old.full.items ++ h ∷ []) c.replace-last.ensures.value in
    let stands = subst (λ (h : Plain). StandsFor h []) (sym c.replace-last.ensures.after) c.in_ok-empty.ensures.stands in
    let classes = subst (λ (h : Plain). resolution h ≡ g) (sym c.replace-last.ensures.after) c.in_ok-empty.ensures.classes in
    record {
      parts = parts-end all more S stands (subst (AreParts S) (sym same) has.parts);
      classes = classes-end g all more classes (subst (HaveClasses g) (sym same) has.classes);
    }

pub returns-in_ok-self-clause-samples : goal.returns-in_ok-self-clause-samples
returns-in_ok-self-clause-samples c S few has =
    let old = c.args.self.now in
    let g = resolution_of 1 old.sigfig in
    let all = c.replace-full.result.items in
    let more = c.replace-last.new.dest in
    let same : all ≡ batches_of old =
    ap (λ full. full.items) c.replace-full.ensures.value ∙ c.in_ok-push.ensures.pushed ∙ ap (λ (h : Plain). old.full.items ++ h ∷ []) c.replace-last.ensures.value in
    let stands = subst (λ (h : Plain). StandsFor h []) (sym c.replace-last.ensures.after) c.in_ok-empty.ensures.stands in
    let classes = subst (λ (h : Plain). resolution h ≡ g) (sym c.replace-last.ensures.after) c.in_ok-empty.ensures.classes in
    let pairs = c.in_ok-self.field-0.items in
    let before = subst (HaveClasses g) (sym same) has.classes in
    record {
      parts = parts-end pairs more S stands (c.in_ok-self.ensures.pairs.parts g S before few (subst (AreParts S) (sym same) has.parts));
      classes = classes-end g pairs more classes (c.in_ok-self.ensures.pairs.classes g before);
    }
