use Rattle.std.proofs.Common.{◌≡◌, ◌≤◌, ◌<◌, true, false, take}
use Rattle.hdr_draw.specs.Rows.{number}
use Rattle.hdr_draw.proofs.powers.is_at_least.Given as goal

abbrev pub invariant-loop-index : goal.invariant-loop-index
invariant-loop-index l =
    (l.is_at_least ≡ true → number (take l.index l.others) ≤ number (take l.index l.digits)) × (l.is_at_least ≡ false → number (take l.index l.digits) < number (take l.index l.others))
