use Rattle.std.proofs.Common.{◌∙◌, Some, None, ap}
use Rattle.hdr_base.specs.Classes.{top_of}
use Rattle.hdr_figures.proofs.AddedClasses.{max-is}
use Rattle.hdr_figures.proofs.classes.Classes.max.Goals as goal

pub returns-in-Some : goal.returns-in-Some
returns-in-Some c = λ h a.
    let class = c.in-Some.last.now in
    c.top.ensures ∙ ap (λ s. top_of s class.value) a.scale ∙ max-is c.args.self.now.items.now (Some class) c.in-Some.ensures.value h c.args.self.now.bounds a.listed

pub returns-in-None : goal.returns-in-None
returns-in-None c = λ h a. max-is c.args.self.now.items.now None c.in-None.ensures.value h c.args.self.now.bounds a.listed
