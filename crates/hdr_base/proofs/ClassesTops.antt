-- The greatest value of a class by its number.
use Rattle.std.proofs.Common.{◌≡◌, ℕ, ◌+◌, ◌-◌, ◌*◌, ◌/◌, ◌%◌, ◌^◌, ◌<◌, ◌≤◌, ap, ◌∙◌, sym, arith}
use Rattle.std.proofs.lemmas.Nat.{one_shl}
use Rattle.hdr_base.specs.Classes.{Resolution, bin_of, value_of, lowest_of, width_of, top_of}
use Rattle.hdr_base.proofs.ClassesLaws.{width-pos}
use Rattle.hdr_base.proofs.ClassesScale.{index-few, class-end}
use Rattle.hdr_base.proofs.ClassesFiner.{width-value_of, lowest-value_of}

-- the parts of a class's top: the amount shifted by, the width, and the end of the class
pub record TopParts (g : Resolution) (i v k : ℕ) : Type 0 where
  pub few : g.unit + k < 64
  pub width : 1 * 2 ^ (g.unit + k) % 2 ^ 64 ≡ width_of g v
  pub some : 1 ≤ width_of g v
  pub end : v + width_of g v ≤ 2 ^ 64
  pub top : v + (width_of g v - 1) ≡ top_of g (value_of g i)

pub TopParts-of : (g : Resolution) (i v k : ℕ) → 0 < g.digits → g.digits ≤ 18 → g.unit + g.digits ≤ 63 → v < 2 ^ 64 → bin_of g v ≡ i → v ≡ value_of g i → k ≡ i / 2 ^ (g.digits - 1) - 1 → TopParts g i v k
unfolding top_of
TopParts-of g i v k m d fits small bin value is =
    let few = index-few g i m d fits v k small bin is in
    let width : width_of g v ≡ 2 ^ (g.unit + k) = ap (width_of g) value ∙ (width-value_of g i m ∙ ap (λ b. 2 ^ (g.unit + b)) (sym is)) in
    let low : lowest_of g v ≡ v = ap (lowest_of g) value ∙ (lowest-value_of g i m ∙ sym value) in
    let same_low = ap (lowest_of g) value in
    let same_width = ap (width_of g) value in
    let shift = one_shl (g.unit + k) 64 (omega (arith, few, m)) in
    let pos = width-pos g v in
    record {
      few = omega (arith, few, m);
      width = shift ∙ sym width;
      some = omega (arith, pos);
      end = omega (arith, class-end g v small fits, low);
      top = omega (arith, low, same_low, same_width, pos);
    }
