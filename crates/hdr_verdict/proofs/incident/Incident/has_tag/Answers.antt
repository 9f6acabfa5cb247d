use Rattle.std.proofs.Common.{◌≡◌, ◌==◌, rules, tests, ap, sym, ◌∙◌}
use Rattle.std.specs.List.{list_any}
use Rattle.std.proofs.lemmas.Bool.{ne_eqb}
use Rattle.std.proofs.lemmas.Iterator.{YieldsList-from_slice}
use Rattle.std.proofs.lemmas.Iterator.Search.{any_from_yields_List}
use Rattle.hdr_verdict.specs.declared.episode.Episode.{Episode}
use Rattle.hdr_verdict.specs.Episodes.{EpisodeValue}
use Rattle.hdr_verdict.proofs.Joining.{any-joined}
use Rattle.hdr_verdict.proofs.incident.Incident.has_tag.Goals as goal

pub returns-else-self-tag : goal.returns-else-self-tag
returns-else-self-tag c =
    let tag = c.args.tag in
    let joined = c.args.self.now.joined.items in
    let found : c.any.result ≡ list_any (λ (e : Episode). e.tag == tag) joined =
    any_from_yields_List (λ (e : Episode). e.tag == tag) _ _ c.any.result c.any.ensures.ran (YieldsList-from_slice joined cc) (λ x b q k. search (rules, tests)) in
    found ∙ any-joined (λ (e : EpisodeValue). e.tag == tag) c.args.self.now (ne_eqb c.args.self.now.heaviest.tag tag c.if-self-tag.false)
