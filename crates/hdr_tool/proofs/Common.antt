-- The names of the libraries and of specs/ that the proofs of this crate use.
pub use Rattle.hdr_base.specs.Classes.{Resolution, IsFiner}
pub use Rattle.hdr_base.specs.Fractions.{Ratio}
pub use Rattle.hdr_core.specs.Calls.{after_call, CallTo, IsCallOf, IsCallError}
pub use Rattle.hdr_core.specs.declared.call.Call.{Call}
pub use Rattle.hdr_core.specs.declared.call.Call.TheVariants.{Reset, Record, Clamp, Correct, Clear}
pub use Rattle.hdr_log.specs.Timed.{TimedInterval, timed, timed_intervals}
pub use Rattle.hdr_log.specs.Grammar.{Entry, Span, reading, Start, Base}
pub use Rattle.hdr_log.specs.Parts.{parts, ◌>>=◌, is_digits}
pub use Rattle.hdr_log.specs.Pieces.{Piece, IsPiece, piece_text, text_of, entries_of_piece, is_read}
pub use Rattle.hdr_log.specs.Tags.{tag_text}
pub use Rattle.hdr_log.specs.Texts.{thousandths_text, to_thousandths, max_thousandths, base64_of, base64_bytes}
pub use Rattle.hdr_model.specs.Joining.{after_adds, IsPart, AreParts, joined_samples, AnswersRanked}
pub use Rattle.hdr_model.specs.Plain.{Plain, empty_plain, IsPlain, resolution, max_of}
pub use Rattle.hdr_model.specs.Recording.{after_reset}
pub use Rattle.hdr_model.specs.Runs.{StandsWhereFits, State}
pub use Rattle.hdr_tool.specs.Arguments.{Task, Report, Log, Merge, greatest_into, filter_of, task_of, sigfig_of, fraction_of, are_fractions, figures_of, log_of, Options, no_options, options_of, view_of_options, view_of_task}
pub use Rattle.hdr_tool.specs.Commands.{Command, Apply, End, command_of, number_lines, first_number, alone, count_of, record_of, correct_of, end_tag_of, end_of, command_of_fields, BeginsWith, AreNumbers, FirstLine, parts_of_rest}
pub use Rattle.hdr_tool.specs.LogMerges.{at_command, ends_of, AfterCommand, EndsWith, IsEnd, chosen_of, LogThenMerge}
pub use Rattle.hdr_tool.specs.Outcomes.{Cause, Resource, Output, Input, Misuse, cause_of, IsStep, RunsAll, OnInput, whatever_follows, Fails, Writes, ReadsTo, ReadsAll, CommandNeeds, LinesNeed, Needs}
pub use Rattle.hdr_tool.specs.Program.{Interval, Run, ended_by, run_command, run_end, lines_run, rest_run, IsLogText, Logged, LoggedFirst, merge_fault, prepend, input_run, Reported, Outputs, at_end, as_reached, outputs_of, MergeReported, Unread, kind_of, OneOutcome, Outcome, has_too_great_count, IsReport, quantile_line}
pub use Rattle.hdr_tool.specs.declared.fault.Fault.{Fault}
pub use Rattle.hdr_tool.specs.declared.fault.Fault.TheVariants.{Usage, NotACommand, NotWritten, NoMemory, CannotRead, CannotWrite}
pub use Rattle.hdrhistogram.specs.Chosen.{Filter, is_chosen, Every, view_of_filter}
pub use Rattle.hdrhistogram.specs.LogLeaving.{interval_piece, IsIntervalText}
pub use Rattle.hdrhistogram.specs.LogMerging.{IsMergeError, Merging, new_merging, past_interval, with_interval, BytesMerge, FieldMerges, IntervalMerges, MergesOn, ItemsMerge, ItemMerges, AreChosen}
pub use Rattle.hdrhistogram.specs.LogWriters.{sink, IsSameLog}
pub use Rattle.hdrhistogram.specs.Streams.{AppendsFront}
pub use Rattle.hdrhistogram.specs.V2.{IsV2, IsWrittenAlike, HasTooGreatCount, written_counts}
pub use Rattle.hdrhistogram.specs.V2Read.{histogram_contents, v2_at, IsReadAs, IsReadBack, ReadsV2}
pub use Rattle.hdrhistogram.specs.declared.serialization.errors.DeserializeError.{DeserializeError}
pub use Rattle.hdrhistogram.specs.declared.serialization.interval_log.merge.MergeError.{MergeError}
pub use Rattle.std.proofs.Common.{◌≡◌, ℕ, List, [], ◌∷◌, ◌++◌, length, true, false, Option, Some, None, IfSome, Result, Ok, Err, refl, sym, ap, ◌∙◌, subst, arith, ◌-◌, ◌^◌, ◌+◌, ◌*◌, ◌<◌, Bool, cond, slice_index, MatchOption, map, ◌&&◌, nat_lt, zero, suc, ◌≤◌, ◌==◌, take, drop, get_or, unwrap_or, lit<, IsErrAnd, append_assoc, length-append, zero-add, inl, inr, ◌⊎◌, ◌%◌, replicate, flat_map, pow-add, not, is_some, leb, ap₂, lit≤, string_bytes, rules}
pub use Rattle.std.proofs.KnownBytes.{Consumes-trans, Consumes-nil, Consumes-whole}
pub use Rattle.std.proofs.Math.Nat.{pow-suc, pow-le-pow_right}
pub use Rattle.std.proofs.lemmas.Bool.{ltb-true, lt-ltb, ne_eqb, le-leb, lt-leb, leb-true}
pub use Rattle.std.proofs.lemmas.List.{append-nil, length-drop, take_rest, take_all, get_or_default}
pub use Rattle.std.specs.Char.{is_ascii_digit, digit_value}
pub use Rattle.std.specs.Io.KnownBytes.{Appends, IsAtEnd, Keeps, Consumes}
pub use Rattle.std.specs.List.{AllByRecursion, AllZip, enumerate_from, list_all, onto_first, slice_split, position_or_len, filter_map}
pub use Rattle.std.specs.Option.{option_map, option_map_or}
pub use Rattle.std.specs.Result.{result_err, result_map_both}
pub use Rattle.std.specs.Prelude.{MatchBool, codes, nat_le, All}
pub use Rattle.std.specs.Str.{bytes_eq}
