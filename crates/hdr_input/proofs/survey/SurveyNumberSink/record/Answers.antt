use Rattle.std.proofs.Common.{◌≡◌, ◌∙◌, [], ◌∷◌, max, ap, sym, subst, arith}
use Rattle.hdr_input.specs.Rounding.{HasDigits, greatest_whole, most_decimals, whole_of}
use Rattle.hdr_input.proofs.Decimals.{surveyed}
use Rattle.hdr_input.proofs.survey.SurveyNumberSink.record.Goals as goal

pub returns : goal.returns
returns c = record {
  taken = (c.args.number ∷ [], λ before h. surveyed c.args.self.now c.add.new.self c.args.number before h c.add.ensures.decimals c.add.ensures.digits (rw c.whole.ensures at c.digits_of.ensures));
}
