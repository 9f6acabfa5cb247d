use Rattle.std.proofs.Common.{not, rules}
use Rattle.std.proofs.lemmas.Fn.{filter_same}
use Rattle.hdr_verdict.specs.declared.missing.MissingTime.{MissingTime}
use Rattle.hdr_verdict.specs.Episodes.{is_part}
use Rattle.hdr_verdict.proofs.episode.TagCells.retain_others.Goals as goal

pub returns : goal.returns
returns c = filter_same _ (λ (m : MissingTime). not (is_part c.args.self.now.cells.now c.args.run m)) _ (λ x b f h. search rules) _ _ c.retain.ensures.filtered
