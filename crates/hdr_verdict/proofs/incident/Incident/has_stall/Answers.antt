use Rattle.std.proofs.Common.{◌≡◌, rules, tests, sym, ◌∙◌}
use Rattle.std.specs.List.{list_any}
use Rattle.std.proofs.lemmas.Iterator.{YieldsList-from_slice}
use Rattle.std.proofs.lemmas.Iterator.Search.{any_from_yields_List}
use Rattle.hdr_verdict.specs.declared.episode.Episode.{Episode}
use Rattle.hdr_verdict.specs.Episodes.{EpisodeValue}
use Rattle.hdr_verdict.specs.Incidents.{is_stall}
use Rattle.hdr_verdict.proofs.Joining.{any-joined}
use Rattle.hdr_verdict.proofs.incident.Incident.has_stall.Goals as goal

pub returns-else-is_stall : goal.returns-else-is_stall
returns-else-is_stall c =
    let joined = c.args.self.now.joined.items in
    let found : c.any.result ≡ list_any (λ (e : Episode). is_stall e.kind) joined =
    any_from_yields_List (λ (e : Episode). is_stall e.kind) _ _ c.any.result c.any.ensures.ran (YieldsList-from_slice joined cc) (λ x b q k. search (rules, tests)) in
    found ∙ any-joined (λ (e : EpisodeValue). is_stall e.kind) c.args.self.now (sym c.is_stall.ensures ∙ c.if-is_stall.false)
