use Rattle.std.proofs.Common.{◌≡◌, ◌++◌, [], map, drop, Bor}
use Rattle.std.specs.List.{All}
use Rattle.hdr_logs.specs.declared.stored.StoredInterval.{StoredInterval}
use Rattle.hdr_verdict.specs.Tags.{IsTag, part_of_tag, parts_from}
use Rattle.hdr_verdict.specs.declared.tags.Entry.{Entry}
use Rattle.hdr_verdict.proofs.tags.tags_of.Given as goal

abbrev pub invariant-loop-entry : goal.invariant-loop-entry
invariant-loop-entry l = record {
  parts : map part_of_tag l.tags.items ++ parts_from (map (λ (i : Bor StoredInterval). i.now) l.group.items) (drop l.entry-index (map (λ (e : Entry). e.interval.now) l.entry-items))
      ≡ parts_from [] (map (λ (e : Entry). e.interval.now) l.entry-items);
  each : All (IsTag l.end) l.tags.items;
}
