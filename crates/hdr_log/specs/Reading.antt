-- The entries of a log as the reader returns them.
use Rattle.std.specs.Prelude.{ℕ, Result, Ok, Err}
use Rattle.std.specs.Option.{option_map}
use Rattle.std.specs.Duration.{as_nanos}
use Rattle.hdr_log.specs.Grammar as grammar
use Rattle.hdr_log.specs.Timed as timed
use Rattle.hdr_log.specs.Tags.{tag_text}
use Rattle.hdr_log.specs.declared.entry.IntervalLogHistogram.{IntervalLogHistogram}
use Rattle.hdr_log.specs.declared.entry.LogEntry.{LogEntry}
use Rattle.hdr_log.specs.declared.entry.LogEntry.TheVariants.{StartTime, BaseTime, Interval}
use Rattle.hdr_log.specs.declared.entry.LogIteratorError.{LogIteratorError}
use Rattle.hdr_log.specs.declared.entry.LogIteratorError.TheVariants.{ParseError}
use Rattle.hdr_log.specs.declared.timed.TimedInterval.{TimedInterval}

abbrev pub view_of_interval : IntervalLogHistogram → grammar.Interval
view_of_interval h = record { tag = option_map tag_text h.tag; start = as_nanos h.start_timestamp; duration = as_nanos h.duration; max = h.max.now; field = h.encoded_histogram.now }

abbrev pub view_of_entry : LogEntry → grammar.Entry
view_of_entry (StartTime time) = grammar.Start (as_nanos time)
view_of_entry (BaseTime time) = grammar.Base (as_nanos time)
view_of_entry (Interval h) = grammar.Span (view_of_interval h)

-- an entry, or the offset of an invalid line
abbrev pub view_of_item : Result LogEntry LogIteratorError → Result grammar.Entry ℕ
view_of_item (Ok entry) = Ok (view_of_entry entry)
view_of_item (Err (ParseError offset)) = Err offset

-- an interval of the code, and the time at which it begins
abbrev pub view_of_timed : TimedInterval → timed.TimedInterval
view_of_timed i = record { time = i.time; interval = view_of_interval i.interval }

-- an interval, or the offset of an invalid line
abbrev pub view_of_timed_item : Result TimedInterval LogIteratorError → Result timed.TimedInterval ℕ
view_of_timed_item (Ok interval) = Ok (view_of_timed interval)
view_of_timed_item (Err (ParseError offset)) = Err offset
