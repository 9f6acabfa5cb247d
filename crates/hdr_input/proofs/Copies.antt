-- Sums of a number that is added some times.
use Rattle.std.proofs.Common.{◌≡◌, ℕ, suc, ◌+◌, ◌-◌, ◌*◌, ◌%◌, ◌^◌, ◌<◌, ap, ◌∙◌, arith}
use Rattle.std.proofs.Math.Nat.{mod-add-mod, mul-suc}

-- a number that is added once, and then as often as is left
pub sum_times : (s u t : ℕ) → 0 < t → ((s + u) % 2 ^ 128 + u * (t - 1)) % 2 ^ 128 ≡ (s + u * t) % 2 ^ 128
sum_times s u t some =
    let one : t ≡ suc (t - 1) = omega (arith, some) in
    let all : u * t ≡ u * (t - 1) + u = ap (λ n. u * n) one ∙ mul-suc u (t - 1) in
    let same : s + u + u * (t - 1) ≡ s + u * t = omega (arith, all) in
    mod-add-mod (s + u) (2 ^ 128) (u * (t - 1)) ∙ ap (λ n. n % 2 ^ 128) same
