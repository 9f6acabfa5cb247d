use Rattle.std.proofs.Common.{ℕ, List, ◌≡◌, ◌<◌, ◌+◌, ◌*◌, ◌-◌, ◌%◌, length, get_or, arith, refl, sym, subst, ◌∙◌}
use Rattle.hdr_zlib.proofs.AdlerLaws.{next_high, weighted_below, sums_next}
use Rattle.hdr_zlib.proofs.checksum.sums_after_piece.Goals as goal

pub loop-index-init : goal.loop-index-init
loop-index-init c = record {
  sum = omega arith;
  weighted = omega arith;
  sums =
      let all : length c.args.piece.now - 0 ≡ length c.args.piece.now = omega arith in
      let none : c.args.low + 0 ≡ c.args.low = omega arith in
      let e : c.args.high + (length c.args.piece.now - 0) * (c.args.low + 0) ≡ c.args.high + length c.args.piece.now * c.args.low + 0 = rw (all, none) (omega arith) in
      let low : (c.args.low + 0) % 65521 ≡ c.args.low = let r = c.requires.low in omega arith in
      let high : c.args.high % 65521 ≡ c.args.high = let r = c.requires.high in omega arith in
      (c.args.high, e, λ rest. rw (low, high) refl);
}

pub loop-index-preserved : goal.loop-index-preserved
loop-index-preserved c =
    let bytes : List ℕ = c.args.piece.now in
    let i : ℕ = c.loop-index.index in
    let low : ℕ = c.args.low + c.loop-index.sum in
    let within : i < length bytes = c.loop-index-test.true in
    let below : get_or bytes i 0 < 256 = let fits = c.type_inv.piece i in omega (arith, fits) in
    let few = c.requires.few in
    let s = c.loop-index.invariant.sums in
    let left : ℕ = length bytes - (i + 1) in
    let one : length bytes - i ≡ left + 1 = omega arith in
    let byte = c.from.ensures in
    let byte_sum = c.from-sum.ensures in
    let sum : c.args.low + (c.loop-index.sum + get_or bytes i 0) ≡ low + get_or bytes i 0 = omega arith in
    let more = weighted_below (length bytes - i) (get_or bytes i 0) (omega arith) below in
    record {
      sum = omega (arith, below, c.loop-index.invariant.sum);
      weighted = rw byte (omega (arith, more, c.loop-index.invariant.weighted));
      sums =
          let next = next_high left s.0 low (get_or bytes i 0) _ (subst (λ (n : ℕ). s.0 + n * low ≡ c.args.high + length bytes * c.args.low + c.loop-index.weighted) one s.1) in
          (s.0 + (low + get_or bytes i 0), rw (byte, byte_sum, one) (omega (arith, next)), λ rest. rw (byte_sum, sum) (sym (sums_next bytes rest i low s.0 within) ∙ s.2 rest));
    }
