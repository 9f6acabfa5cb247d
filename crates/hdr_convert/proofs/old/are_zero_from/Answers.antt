use Rattle.std.proofs.Common.{subst, List, ℕ, ◌≡◌, EachIndex, slice_index}
use Rattle.hdr_convert.proofs.CounterLaws.{zero_past}
use Rattle.hdr_convert.proofs.old.are_zero_from.Goals as goal

pub returns-else-bytes-start : goal.returns-else-bytes-start
returns-else-bytes-start c = λ is i le.
    zero_past c.args.bytes.now c.args.start (subst (λ (s : List ℕ). EachIndex s (λ k. slice_index s k ≡ 0)) c.split_at.ensures.back (c.are_zero.ensures.0 is)) i le
