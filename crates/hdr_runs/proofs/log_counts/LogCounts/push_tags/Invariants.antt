use Rattle.std.proofs.Common.{◌≡◌, ◌≤◌, length, max}
use Rattle.hdr_runs.specs.LogCounts.{AddsTags, tags_of}
use Rattle.hdr_runs.proofs.log_counts.LogCounts.push_tags.Given as goal

-- tags so far, and their number
abbrev pub invariant-loop : goal.invariant-loop
invariant-loop l = record {
  tags : AddsTags l.decimals l.initial.self l.self;
  count : length (tags_of l.self) ≡ l.counter;
  most : l.counter ≤ max l.initial.counter l.count;
}
