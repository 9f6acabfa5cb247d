use Rattle.std.proofs.Common.{ℕ, ◌≡◌, ◌+◌, ◌<◌, length, slice_index}
use Rattle.hdr_draw.specs.Rows.{IsBound}
use Rattle.hdr_draw.proofs.rows.Rows.new.Given as goal

abbrev pub invariant-loop-index : goal.invariant-loop-index
invariant-loop-index l =
    (length l.bounds.items + 1 ≡ l.index) × ((k : ℕ) → k < length l.bounds.items → IsBound (record { low = l.low; high = l.high }) (k + 1) (slice_index l.bounds.items k))
