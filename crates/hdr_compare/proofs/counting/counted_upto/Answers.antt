use Rattle.std.proofs.Common.{rules}
use Rattle.hdr_compare.proofs.Batches.{counted_within}
use Rattle.hdr_compare.proofs.SameBatches.{sizes_are}
use Rattle.hdr_compare.proofs.counting.counted_upto.Goals as goal

pub returns : goal.returns
returns c =
    let batches = c.in_ok-all.all.items in
    let sizes = sizes_are c.args.value c.args.batches.now batches c.in_ok-all.ensures in
    record {
      batches = batches;
      are = c.in_ok-all.ensures;
      count = search (rules, counted_within batches, sizes, c.requires.few, c.count_of.ensures, c.deref.ensures.value);
      independent = search (rules, c.effective_size.ensures, c.deref-2.ensures.value);
    }
