use Rattle.hdr_model.specs.Joining.{after_adds}
use Rattle.hdr_model.proofs.JoiningFacts.{AddsPlain, each_added}
use Rattle.hdr_model.proofs.laws.joined_stands.Goals as goal

pub returns-clause-sum : goal.returns-clause-sum
returns-clause-sum c = λ greatest most h ks S Ls one p s parts f.
    each_added (λ greatest most h s S L one p q a b finer. c.adding_stands.ensures.merged greatest most h s one p q L b finer S a) greatest most h ks S Ls (record { plain = c.adding_keeps.ensures.merged; classes = c.adding_keeps.ensures.merged_classes }) one p s parts f

pub returns-clause-ranked : goal.returns-clause-ranked
returns-clause-ranked c = λ greatest most h ks S Ls one p s parts f.
    let keeps : AddsPlain = record { plain = c.adding_keeps.ensures.merged; classes = c.adding_keeps.ensures.merged_classes } in
    let sum = each_added (λ greatest most h s S L one p q a b finer. c.adding_stands.ensures.merged greatest most h s one p q L b finer S a) greatest most h ks S Ls keeps one p s parts f in
    λ q den some num. c.quantile_is_ranked.ensures greatest (after_adds greatest h ks) q _ sum.1 den sum.0 some num
