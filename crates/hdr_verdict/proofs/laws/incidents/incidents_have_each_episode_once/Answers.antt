use Rattle.hdr_verdict.proofs.IncidentFacts.{each-once, alike, tags-once, falling, heaviest, weights}
use Rattle.hdr_verdict.proofs.laws.incidents.incidents_have_each_episode_once.Goals as goal

pub returns-clause-each_once : goal.returns-clause-each_once
returns-clause-each_once c = each-once

pub returns-clause-alike : goal.returns-clause-alike
returns-clause-alike c = alike

pub returns-clause-tags : goal.returns-clause-tags
returns-clause-tags c = tags-once

pub returns-clause-falling : goal.returns-clause-falling
returns-clause-falling c = falling

pub returns-clause-weights : goal.returns-clause-weights
returns-clause-weights c = weights

pub returns-clause-heaviest : goal.returns-clause-heaviest
returns-clause-heaviest c = heaviest
