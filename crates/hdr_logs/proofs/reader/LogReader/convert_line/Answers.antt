use Rattle.std.proofs.Common.{◌≡◌, ◌==◌, true, ap, subst, ◌∙◌, rules}
use Rattle.std.specs.Io.Buffered.{reader_remaining}
use Rattle.hdrhistogram.specs.Chosen.{view_of_interval_choice}
use Rattle.hdr_input.specs.Lines.{without_mark}
use Rattle.hdr_logs.specs.Lines.{ReadsLine}
use Rattle.hdr_logs.specs.Entries.{IsEntry, interval_then}
use Rattle.hdr_logs.specs.Conversion.{LineBecomes}
use Rattle.hdr_logs.proofs.NextLine.{first_number}
use Rattle.hdr_logs.proofs.Conversions.{line_becomes}
use Rattle.hdr_logs.proofs.reader.LogReader.convert_line.Goals as goal

pub returns-in-Ok-clause-line : goal.returns-in-Ok-clause-line
returns-in-Ok-clause-line g c =
    let old = c.args.self.now in
    let form = c.args.form in
    let filter = view_of_interval_choice old.choice in
    let before = reader_remaining g.R.Read.remaining old.reader in
    let after = reader_remaining g.R.Read.remaining c.read_line.new.reader in
    let number = old.parser.place.line in
    let line = c.read_line.new.line.items in
    let reads : ReadsLine before after true line = search rules in
    let parsed = c.in_ok-timed.ensures.interval in
    let entry = parsed.0 in
    let says : IsEntry (without_mark (number == 0) line) entry = subst (λ l. IsEntry (without_mark (number == 0) l) entry) c.deref.ensures.value parsed.1 in
    let pushed = c.in-Ok.ensures.line in
    let text = pushed.0 in
    let timed = interval_then old.parser.base entry in
    let marked : c.without_mark-line.result.now ≡ without_mark (number == 0) line = c.without_mark-line.ensures ∙ ap (λ b. without_mark b c.deref-2.result.now) (first_number number c.next_place-next.result.line c.next_place-next.ensures.line) ∙ ap (without_mark (number == 0)) c.deref-2.ensures.value in
    let becomes : LineBecomes form filter timed (without_mark (number == 0) line) text = subst (λ l. LineBecomes form filter timed l text) marked (subst (λ o. LineBecomes form filter o c.without_mark-line.result.now text) parsed.3 pushed.1) in
    (text, pushed.2, λ rest left. line_becomes form filter before after number c.parse_line.new.self.place.line old.parser.base c.parse_line.new.self.base line entry text rest c.parse_line.ensures.line reads says parsed.2 becomes left)
