use Rattle.std.proofs.Common.{◌≡◌, length, arith, rules}
use Rattle.hdr_runs.specs.LogCounts.{tags_of}
use Rattle.hdr_runs.proofs.LogTags.{adds-none, adds-after}
use Rattle.hdr_runs.proofs.log_counts.LogCounts.push_tags.Goals as goal

pub loop-init : goal.loop-init
loop-init c = record { tags = adds-none c.args.decimals c.args.self.now; count = search rules; most = omega arith }

pub loop-preserved : goal.loop-preserved
loop-preserved c = record {
  tags = adds-after c.args.decimals c.args.self.now c.loop.self c.push_tag.new.self c.loop.invariant.tags c.push_tag.ensures.tags;
  count = omega (arith, c.in_ok-push_tag.ensures.count);
  most = omega arith;
}

pub returns-in_err-push_tag-clause-tags : goal.returns-in_err-push_tag-clause-tags
returns-in_err-push_tag-clause-tags c = adds-after c.args.decimals c.args.self.now c.loop.self c.push_tag.new.self c.loop.invariant.tags c.push_tag.ensures.tags

pub returns-clause-count : goal.returns-clause-count
returns-clause-count c =
    let begun : length (tags_of c.args.self.now) ≡ c.len-counter.result = search rules in
    omega (arith, c.loop.invariant.count, begun)
