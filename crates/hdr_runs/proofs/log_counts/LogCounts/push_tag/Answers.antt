use Rattle.std.proofs.Common.{refl}
use Rattle.std.specs.Result.{is_ok}
use Rattle.hdr_runs.proofs.LogTags.{adds-none, adds-if}
use Rattle.hdr_runs.proofs.log_counts.LogCounts.push_tag.Goals as goal

pub returns-in_err-tag-clause-tags : goal.returns-in_err-tag-clause-tags
returns-in_err-tag-clause-tags c = adds-none c.args.decimals c.args.self.now

pub returns-then-is_err-clause-tags : goal.returns-then-is_err-clause-tags
returns-then-is_err-clause-tags c =
    adds-if c.args.decimals c.args.self.now _ c.in_ok-tag.tag (is_ok c.push.result) refl refl c.push.ensures.items c.in_ok-tag.ensures.counted c.in_ok-tag.ensures.batches

pub returns-clause-tags : goal.returns-clause-tags
returns-clause-tags c =
    adds-if c.args.decimals c.args.self.now _ c.in_ok-tag.tag (is_ok c.push.result) refl refl c.push.ensures.items c.in_ok-tag.ensures.counted c.in_ok-tag.ensures.batches
