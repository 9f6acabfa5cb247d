use Rattle.std.proofs.Common.{◌∙◌, [], ◌∷◌, max, ap, sym}
use Rattle.hdr_input.proofs.Decimals.{surveyed, some_number}
use Rattle.hdr_input.proofs.survey.SurveyNumberSink.record_wide.Goals as goal

pub returns : goal.returns
returns c =
    let found = some_number c.decimals.result c.digits_before_point.result in record {
      taken = (found.0 ∷ [], λ before h. surveyed c.args.self.now c.add.new.self found.0 before h (c.add.ensures.decimals ∙ ap (λ n. max c.args.self.now.decimals n) (sym found.1)) c.add.ensures.digits found.2);
    }
