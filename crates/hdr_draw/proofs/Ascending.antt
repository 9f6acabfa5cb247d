use Rattle.std.proofs.Common.{◌≡◌, ℕ, ◌+◌, ◌-◌, ◌*◌, ◌/◌, ◌^◌, ◌<◌, ◌≤◌, suc, max, inl, inr, arith, subst}
use Rattle.std.proofs.Math.Nat.{mul-le-mul_right, pow-le-pow_right, one-le-pow}
use Rattle.std.proofs.Math.Nat.{eq-or-lt_of_le, pow-suc}
use Rattle.std.proofs.lemmas.Bool.{cases_lt}
use Rattle.hdr_draw.specs.Rows.{Ends}
use Rattle.hdr_draw.specs.Scales.{Extent, along, IsColour, IsQuantilePlace, IsValuePlace}
use Rattle.hdr_draw.specs.Logarithm.{bend, IsLogarithm}
use Rattle.hdr_draw.proofs.Bend.{bend-ascends, bend_bound, part-bound, div-le-div}

abbrev place : ℕ → ℕ → ℕ
place a i = 65536 * i + bend ((a - 2 ^ i) * 65536 / 2 ^ i)

same_bits : (a b i : ℕ) → a < 2 * 2 ^ i → b < 2 * 2 ^ i → a ≤ b → place a i ≤ place b i
same_bits a b i ha hb h =
    let p : 0 < 2 ^ i = one-le-pow i 2 (omega arith) in
    let d : (a - 2 ^ i) * 65536 ≤ (b - 2 ^ i) * 65536 = mul-le-mul_right 65536 (omega arith) in
    let m : bend ((a - 2 ^ i) * 65536 / 2 ^ i) ≤ bend ((b - 2 ^ i) * 65536 / 2 ^ i) =
    bend-ascends _ _ (div-le-div _ _ (2 ^ i) p d) (part-bound (b - 2 ^ i) (2 ^ i) (omega arith)) in
    omega arith

fewer_bits : (a b i j : ℕ) → a < 2 * 2 ^ i → i < j → place a i ≤ place b j
fewer_bits a b i j ha h =
    let m : bend ((a - 2 ^ i) * 65536 / 2 ^ i) ≤ 65536 = bend_bound _ (part-bound (a - 2 ^ i) (2 ^ i) (omega arith)) in
    omega arith

no_more_bits : (a b i j : ℕ) → 2 ^ i ≤ a → b < 2 * 2 ^ j → a ≤ b → i ≤ j
no_more_bits a b i j ha hb h = elim (cases_lt j i) [
  | inl k ↦
      let m : 2 ^ suc j ≤ 2 ^ i = pow-le-pow_right (omega arith) (omega arith) in
      let e : 2 ^ suc j ≡ 2 ^ j * 2 = pow-suc 2 j in
      absurd (omega arith)
  | inr k ↦ k
]

by_bits : (a b i j : ℕ) → a < 2 * 2 ^ i → b < 2 * 2 ^ j → a ≤ b → i ≤ j → place a i ≤ place b j
by_bits a b i j ha hb h k = elim (eq-or-lt_of_le k) [
  | inl e ↦ subst (λ (n : ℕ). place a i ≤ place b n) e (same_bits a b i ha (rw (← e) at hb) h)
  | inr l ↦ fewer_bits a b i j ha l
]

pub ascends : (a b m n : ℕ) → IsLogarithm a m → IsLogarithm b n → a ≤ b → m ≤ n
ascends a b m n p q h =
    let k : place a p.bits ≤ place b q.bits = by_bits a b p.bits q.bits p.below q.below h (no_more_bits a b p.bits q.bits p.at_least q.below h) in
    let e : m ≡ place a p.bits = p.is in
    let f : n ≡ place b q.bits = q.is in
    omega arith

pub along_ascends : (e : Extent) (length m n : ℕ) → 0 < e.span → m ≤ n → along e length m ≤ along e length n
unfolding along
along_ascends e l m n p h =
    let k : (m - e.from) * l / e.span ≤ (n - e.from) * l / e.span =
    div-le-div _ _ e.span p (mul-le-mul_right l (omega arith)) in
    omega arith

pub same_logarithm : (a m n : ℕ) → IsLogarithm a m → IsLogarithm a n → m ≡ n
same_logarithm a m n p q =
    let u = ascends a a m n p q (omega arith) in
    let v = ascends a a n m q p (omega arith) in
    omega arith

pub values_ascend : (e : Ends) (length a b p q : ℕ) → IsValuePlace e length a p → IsValuePlace e length b q → a ≤ b → p ≤ q
values_ascend e l a b p q u v h =
    let k : u.logarithm ≤ v.logarithm = ascends (max 1 a) (max 1 b) _ _ u.of_value v.of_value (omega arith) in
    let f : u.from ≡ v.from = same_logarithm e.low _ _ u.of_low v.of_low in
    let g : u.to ≡ v.to = same_logarithm e.high _ _ u.of_high v.of_high in
    let x : Extent = record { from = v.from; span = max 1 (v.to - v.from) } in
    let r = along_ascends x l u.logarithm v.logarithm (omega arith) k in
    rw (u.is, v.is, f, g) r

pub quantiles_ascend : (e : Extent) (length n a b p q : ℕ) → 0 < e.span
    → IsQuantilePlace e length n a p → IsQuantilePlace e length n b q → b ≤ a → p ≤ q
quantiles_ascend e l n a b p q s u v h =
    let k : v.of_part ≤ u.of_part = ascends (max 1 b) (max 1 a) _ _ v.part_logarithm u.part_logarithm (omega arith) in
    let f : u.of_samples ≡ v.of_samples = same_logarithm (max 1 n) _ _ u.samples_logarithm v.samples_logarithm in
    let r = along_ascends e l (u.of_samples - u.of_part) (v.of_samples - v.of_part) s (omega arith) in
    rw (u.is, v.is) r

pub colours_ascend : (greatest a b m n : ℕ) → IsColour a greatest m → IsColour b greatest n → a ≤ b → m ≤ n
colours_ascend g a b m n u v h =
    let k : u.of_samples ≤ v.of_samples = ascends (max 1 a) (max 1 b) _ _ u.samples_logarithm v.samples_logarithm (omega arith) in
    let f : u.of_greatest ≡ v.of_greatest = same_logarithm (max 1 g) _ _ u.greatest_logarithm v.greatest_logarithm in
    let d : 8 * u.of_samples / max 1 v.of_greatest ≤ 8 * v.of_samples / max 1 v.of_greatest = div-le-div _ _ (max 1 v.of_greatest) (omega arith) (omega arith) in
    rw (u.is, v.is, f) (omega arith)
