use Rattle.std.proofs.Common.{◌≡◌, ℕ, ◌+◌, ◌-◌, ◌≤◌, ◌++◌, ◌∷◌, [], List, length, map, arith, ap, sym, ◌∙◌}
use Rattle.std.specs.List.{range_with_len}
use Rattle.std.proofs.lemmas.List.FromFn.{map-range_with_len_more}
use Rattle.hdr_verdict.specs.Missing.{swing_before}
use Rattle.hdr_verdict.proofs.missing.swings.Goals as goal

-- one more change
more : (f : ℕ → ℕ) (changes : List ℕ) (n y : ℕ) → 1 ≤ n → changes ≡ map f (range_with_len 1 (n - 1)) → y ≡ f n → changes ++ y ∷ [] ≡ map f (range_with_len 1 (n + 1 - 1))
more f changes n y some so_far is =
    let all = map-range_with_len_more f 1 (n - 1) n (omega arith) in
    let index : n - 1 + 1 ≡ n + 1 - 1 = omega arith in
    ap (λ xs. xs ++ y ∷ []) so_far ∙ ap (λ z. map f (range_with_len 1 (n - 1)) ++ z ∷ []) is ∙ sym all ∙ ap (λ k. map f (range_with_len 1 k)) index

pub loop-next-preserved : goal.loop-next-preserved
loop-next-preserved c = record {
  so_far = c.in_ok-push.ensures.items ∙ more (swing_before c.args.rates.now) c.loop-next.changes.items c.loop-next.next c.swing.result (omega arith) c.loop-next.invariant.so_far c.swing.ensures;
  within = omega arith;
}

pub returns : goal.returns
returns c =
    let all : c.loop-next.next - 1 ≡ length c.args.rates.now - 1 = omega arith in
    c.loop-next.invariant.so_far ∙ ap (λ k. map (swing_before c.args.rates.now) (range_with_len 1 k)) all
