use Rattle.hdr_tool.proofs.LogMergesWritten.{CallsStand}
use Rattle.hdr_tool.proofs.OutcomesExist.{Laws, outcome_exists}
use Rattle.hdr_tool.proofs.laws.outcome_exists.Goals as goal

pub returns : goal.returns
returns c =
    let calls : CallsStand = record { same_bounds = c.calls_stand.ensures.same_bounds; plain = c.calls_stand.ensures.plain; classes = c.calls_stand.ensures.classes; wherever = c.calls_stand.ensures.wherever } in
    let laws : Laws = record {
      calls = calls;
      new = c.new_is_plain.ensures;
      added = c.adding_keeps.ensures.merged;
      bins = c.bins_and_max_are_bounded.ensures.bins;
      max = c.bins_and_max_are_bounded.ensures.max;
      payload = c.one_payload.ensures.exists;
      bytes = c.bytes_read_back.ensures.bytes;
      field = c.base64_is_read.ensures.field;
      decoded = c.base64_is_read.ensures.bytes;
      read = c.bytes_are_read.ensures.exists;
      read_plain = c.bytes_are_read.ensures.plain;
    } in
    outcome_exists laws
