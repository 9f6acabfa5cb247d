use Rattle.std.proofs.Common.{◌++◌, ◌≡◌, List, map}
use Rattle.std.specs.Option.{option_map}
use Rattle.hdr_log.specs.Tags.{tag_text}
use Rattle.hdr_logs.specs.Intervals.{LogInterval}
use Rattle.hdr_logs.specs.FileNames.{in_file}
use Rattle.hdr_logs.specs.Reading.{place_of, UnreadHold, IsKnown}
use Rattle.hdr_logs.specs.Stored.{AddsOfFile, Keeps}
use Rattle.hdr_logs.proofs.intervals.LogIntervals.read_log.Given as goal

-- intervals so far are stored, and are those before the ones that are left
abbrev pub invariant-loop : goal.invariant-loop
invariant-loop g l = record {
  known : IsKnown g.R.Read.remaining l.initial.log → IsKnown g.R.Read.remaining l.log;
  file : (place_of l.log).file ≡ (place_of l.initial.log).file;
  files : AddsOfFile (place_of l.initial.log).file l.initial.self l.self;
  kept : (done : List LogInterval) × Keeps l.initial.self (map (in_file (option_map tag_text l.file_name)) done) l.self
      × ((rest : List LogInterval) → UnreadHold g.R.Read.remaining l.log rest → UnreadHold g.R.Read.remaining l.initial.log (done ++ rest));
}
