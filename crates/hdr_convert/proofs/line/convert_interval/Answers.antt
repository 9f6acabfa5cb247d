use Rattle.std.proofs.Common.{◌≡◌, ◌+◌, take, drop, [], ◌∷◌, ◌++◌, refl, ap, ◌∙◌}
use Rattle.std.specs.String.{string_bytes}
use Rattle.hdr_convert.specs.Lines.{IsConverted}
use Rattle.hdr_convert.proofs.Commas.{around_comma, line_appended, no_comma_after}
use Rattle.hdr_convert.proofs.line.convert_interval.Goals as goal

pub returns-clause-converted : goal.returns-clause-converted
returns-clause-converted c =
    let line = c.args.line.now in
    let comma = c.in-Some.comma in
    let front = take comma line in
    let made = string_bytes c.in_ok-made.made in
    let found = c.in-Some.ensures in
    let started : c.extend_from_slice.new.self.items ≡ c.args.output.now.items ++ front = c.in_ok-extend_from_slice.ensures.items ∙ ap (λ l. l ++ front) c.in_ok-reserve.ensures.items in
    let field : c.extend_from_slice-2.new.self.items ≡ c.push.new.self.items ++ made = c.in_ok-extend_from_slice-2.ensures.items ∙ ap (λ l. c.push.new.self.items ++ l) c.as_bytes.ensures.value in
    let converted : IsConverted c.args.form c.args.field.now line (front ++ 44 ∷ (made ++ 10 ∷ [])) = record {
      front = front;
      rest = drop (comma + 1) line;
      last = (around_comma line comma found.0.high found.1, no_comma_after line comma found.0.after);
      made = made;
      field_is = c.in_ok-made.ensures.field;
      text_is = refl;
    } in (
      _,
      converted,
      line_appended c.args.output.now.items front made _ _ _ _ started c.in_ok-push.ensures.items field c.in_ok-push-2.ensures.items,
    )
