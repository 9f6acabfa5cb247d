use Rattle.std.proofs.Common.{◌≡◌, Ok, true, rules, arith}
use Rattle.hdr_logs.proofs.LinesRead.{line_read, some_read, part_open, part_taken}
use Rattle.hdr_logs.proofs.lines.read_line.Goals as goal

pub returns-then-is_complete-clause-line : goal.returns-then-is_complete-clause-line
returns-then-is_complete-clause-line g c =
    let step = c.push_buffered.ensures in
    let complete : c.push_buffered.result ≡ Ok true = search rules in
    let new = c.push_buffered.new.line.items in
    let a = g.R.Read.remaining c.args.reader.now in
    let read = line_read a (g.R.Read.remaining c.loop.reader) (g.R.Read.remaining c.push_buffered.new.reader) c.loop.line.items new
    c.loop.invariant.open_ended c.loop.invariant.taken step.appends step.stops step.bytes (step.complete complete) (step.end complete) in
    some_read a (g.R.Read.remaining c.push_buffered.new.reader) new _ (λ e. grind arith) read

pub loop-preserved : goal.loop-preserved
loop-preserved g c =
    let step = c.push_buffered.ensures in record {
      open_ended = part_open c.loop.line.items c.push_buffered.new.line.items step.appends c.loop.invariant.open_ended (step.partial (search rules));
      taken = part_taken (g.R.Read.remaining c.args.reader.now) (g.R.Read.remaining c.loop.reader) (g.R.Read.remaining c.push_buffered.new.reader) c.loop.line.items c.push_buffered.new.line.items step.appends c.loop.invariant.taken step.bytes;
    }
