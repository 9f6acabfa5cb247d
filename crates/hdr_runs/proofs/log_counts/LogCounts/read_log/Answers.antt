use Rattle.std.proofs.lemmas.Result.{on_ok_weaker}
use Rattle.hdr_logs.specs.Sums.{view_of_sums, decimals_of_sums}
use Rattle.hdr_runs.proofs.LogRuns.{are-taken, counts-each, joins-each}
use Rattle.hdr_runs.proofs.log_counts.LogCounts.read_log.Goals as goal

pub returns : goal.returns
returns g c =
    let before = c.args.self.now in
    let after = c.read_log_into.new.sink in
    let d = decimals_of_sums c.read_log_into.new.self in
    record {
      counted = on_ok_weaker c.read_log_into.result (λ passed indexed.
          let p = passed indexed in
          let t = are-taken d p.0 (view_of_sums c.args.sums.now) (view_of_sums c.read_log_into.new.self) before after p.2 in
          record {
            all = p.0;
            taken = t.0;
            holds = p.1;
            are_taken = t.1;
            counted = counts-each d t.0 before after t.2;
            joined = joins-each d t.0 before after t.2;
          }) c.read_log_into.ensures.sums;
      indices = c.read_log_into.ensures.indices;
    }
