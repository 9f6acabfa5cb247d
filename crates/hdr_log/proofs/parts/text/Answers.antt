use Rattle.std.proofs.Common.{ap, ◌∙◌}
use Rattle.std.specs.Option.{option_map}
use Rattle.hdr_log.proofs.PartsFronts.{text_is}
use Rattle.hdr_log.proofs.parts.text.Goals as goal

pub returns : goal.returns
returns c = ap (option_map (λ x. x.now)) c.ok.ensures.value ∙ text_is c.from_utf8.result c.args.bytes.now c.from_utf8.ensures
