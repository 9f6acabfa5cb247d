-- Missing values that are alone in their classes.
use Rattle.std.proofs.Common.{◌≡◌, ℕ, ◌+◌, ◌-◌, ◌/◌, ◌<◌, ◌≤◌, max, arith}
use Rattle.std.proofs.lemmas.Nat.{div_below}
use Rattle.hdr_base.specs.Classes.{Resolution, width_of, lowest_of}
use Rattle.hdr_base.proofs.ClassesLaws.{top-above}
use Rattle.hdr_base.proofs.ClassesIntervals.{width-IsLeast}

-- an interval at least as long as the class leaves it in one step
pub one-member : (g : Resolution) (x i : ℕ) → 0 < i → i ≤ x → width_of g x ≤ i → (x - max (lowest_of g x) i) / i + 1 ≡ 1
one-member g x i pos ge alone = omega (arith, div_below (x - max (lowest_of g x) i) i 1 pos (omega (arith, top-above g x)))

-- the class of a lower value is as wide or narrower
pub narrower : (g : Resolution) (x v : ℕ) → x ≤ v → width_of g x ≤ width_of g v
narrower g x v le =
    let own = (width-IsLeast g v).holds in
    (width-IsLeast g x).least (width_of g v) (own.0, own.1, omega (arith, le, own.2))
