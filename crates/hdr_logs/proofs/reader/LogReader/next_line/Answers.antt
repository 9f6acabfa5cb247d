use Rattle.std.proofs.Common.{◌≡◌, true, false, subst, rules}
use Rattle.std.specs.Option.{option_map}
use Rattle.std.specs.Io.Buffered.{reader_remaining}
use Rattle.hdr_log.specs.Reading.{view_of_timed}
use Rattle.hdrhistogram.specs.Chosen.{view_of_interval_choice}
use Rattle.hdr_logs.specs.Lines.{ReadsLine}
use Rattle.hdr_logs.specs.Entries.{interval_then}
use Rattle.hdr_logs.specs.Intervals.{is_chosen_interval, plain_interval}
use Rattle.hdr_logs.proofs.Texts.{line_more, begins_none, begins_other, begins_chosen}
use Rattle.hdr_logs.proofs.reader.LogReader.next_line.Goals as goal

pub returns-in_default-clause-intervals : goal.returns-in_default-clause-intervals
returns-in_default-clause-intervals g c = λ rest left.
    let old = c.args.self.now in
    let before = reader_remaining g.R.Read.remaining old.reader in
    let after = reader_remaining g.R.Read.remaining c.read_line.new.reader in
    let filter = view_of_interval_choice old.choice in
    let parsed = c.in_ok-timed.ensures.interval in
    let is = subst (λ o. option_map view_of_timed o ≡ interval_then old.parser.base parsed.0) c.in_default.is parsed.3 in
    let reads : ReadsLine before after true c.read_line.new.line.items = search rules in
    line_more filter before after old.parser.place.line c.parse_line.new.self.place.line old.parser.base c.parse_line.new.self.base c.read_line.new.line.items c.deref.result.now parsed.0 rest rest
    c.parse_line.ensures.line c.deref.ensures.value reads parsed.1 parsed.2 (begins_none filter (interval_then old.parser.base parsed.0) rest is) left

pub returns-then-not-chooses-clause-intervals : goal.returns-then-not-chooses-clause-intervals
returns-then-not-chooses-clause-intervals g c = λ rest left.
    let old = c.args.self.now in
    let before = reader_remaining g.R.Read.remaining old.reader in
    let after = reader_remaining g.R.Read.remaining c.read_line.new.reader in
    let filter = view_of_interval_choice old.choice in
    let parsed = c.in_ok-timed.ensures.interval in
    let timed = view_of_timed c.in-Some.timed in
    let is = subst (λ o. option_map view_of_timed o ≡ interval_then old.parser.base parsed.0) c.in-Some.is parsed.3 in
    let reads : ReadsLine before after true c.read_line.new.line.items = search rules in
    let not : is_chosen_interval filter timed ≡ false = search rules in
    line_more filter before after old.parser.place.line c.parse_line.new.self.place.line old.parser.base c.parse_line.new.self.base c.read_line.new.line.items c.deref.result.now parsed.0 rest rest
    c.parse_line.ensures.line c.deref.ensures.value reads parsed.1 parsed.2 (begins_other filter timed (interval_then old.parser.base parsed.0) rest is not) left

pub returns-in-Ok-clause-intervals : goal.returns-in-Ok-clause-intervals
returns-in-Ok-clause-intervals g c = λ rest left.
    let old = c.args.self.now in
    let before = reader_remaining g.R.Read.remaining old.reader in
    let after = reader_remaining g.R.Read.remaining c.read_line.new.reader in
    let filter = view_of_interval_choice old.choice in
    let parsed = c.in_ok-timed.ensures.interval in
    let timed = view_of_timed c.in-Some.timed in
    let is = subst (λ o. option_map view_of_timed o ≡ interval_then old.parser.base parsed.0) c.in-Some.is parsed.3 in
    let reads : ReadsLine before after true c.read_line.new.line.items = search rules in
    let chosen : is_chosen_interval filter timed ≡ true = search rules in
    let plain = c.in-Ok.field.now in
    let interval = plain_interval timed plain in
    line_more filter before after old.parser.place.line c.parse_line.new.self.place.line old.parser.base c.parse_line.new.self.base c.read_line.new.line.items c.deref.result.now parsed.0 _ rest
    c.parse_line.ensures.line c.deref.ensures.value reads parsed.1 parsed.2 (begins_chosen filter timed (interval_then old.parser.base parsed.0) _ plain rest is chosen (search rules) (search rules)) left
