use Rattle.std.proofs.Common.{rules}
use Rattle.hdr_compare.proofs.run.Run.position.Goals as goal

pub returns : goal.returns
returns c = record {
  all = c.args.self.now.all;
  sum = c.args.self.now.sum;
  classes = c.args.self.now.classes;
  interval = c.in-Some.interval;
  value = search (rules, c.in_ok-interval.ensures.at_quantile, c.in-Some.is);
  ends = search (rules, c.in_ok-interval.ensures.ends, c.in-Some.is);
  reached = search (rules, c.in_ok-interval.ensures.reached, c.in-Some.is);
  counts = search (rules, c.in_ok-interval.ensures.counts, c.in-Some.is);
  by_value = search (rules, c.in_ok-interval.ensures.by_value, c.in-Some.is);
  nearest = search (rules, c.in_ok-interval.ensures.nearest, c.in-Some.is);
  counted = c.in_ok-counted.counted;
  is_counted = search (rules, c.in_ok-counted.ensures, c.deref.ensures.value);
  basis = record { samples = c.args.self.now.samples; independent = c.min.result; quantile = c.args.quantile; tier = c.args.tier };
  is_basis = record {
    samples = c.args.self.now.count;
    independent = search (rules, c.min.ensures, c.independent.ensures);
    quantile = search rules;
    tier_is = search rules;
  };
  is_position = search (rules, c.position.ensures);
}
