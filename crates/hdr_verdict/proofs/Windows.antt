-- The cells that count for a usual rate.
use Rattle.std.proofs.Common.{◌≡◌, ℕ, ◌+◌, ◌-◌, ◌^◌, ◌≤◌, ◌<◌, Bool, true, false, nat_le, nat_lt, cond, min, List, length, get_or, drop, arith, refl, ap, sym, subst, ◌∙◌}
use Rattle.std.specs.List.{sum_by, range_with_len, position_or_len}
use Rattle.std.proofs.lemmas.List.{drop_more}
use Rattle.std.proofs.lemmas.List.Sums.{position_or_len_is, sum_by-cons}
use Rattle.std.proofs.lemmas.List.FromFn.{length-range_with_len, get_or-range_with_len}
use Rattle.std.proofs.lemmas.Bool.{ltb-true, ltb-false}
use Rattle.hdr_verdict.specs.declared.rate.Rate.{Rate}
use Rattle.hdr_verdict.specs.Rates.{together, last_of, samples_before_last, window}

-- the first number from a that passes a test
first-passing : (p : ℕ → Bool) (a m i : ℕ) → i ≤ m → ((k : ℕ) → k < i → p (a + k) ≡ false) → (i < m → p (a + i) ≡ true) → position_or_len p (range_with_len a m) ≡ i
first-passing p a m i h few enough =
    let long : length (range_with_len a m) ≡ m = length-range_with_len a m in
    position_or_len_is p (range_with_len a m) i 0 (omega (arith, long))
    (λ k l. subst (λ x. p x ≡ false) (sym (get_or-range_with_len a m k 0 (omega arith))) (few k l))
    (λ l. let within : i < m = omega (arith, long) in subst (λ x. p x ≡ true) (sym (get_or-range_with_len a m i 0 within)) (enough within))

-- one more cell before the last n
abbrev total : List Rate → ℕ
total rates = sum_by (λ (r : Rate). r.samples) rates

total-more : (past : List Rate) (n : ℕ) (d : Rate) → n < length past → total (last_of (n + 1) past) ≡ (get_or past (length past - 1 - n) d).samples + total (last_of n past)
total-more past n d h =
    let i = length past - (n + 1) in
    let within : i < length past = omega arith in
    let next : i + 1 ≡ length past - n = omega arith in
    let here : i ≡ length past - 1 - n = omega arith in
    let split = drop_more past i d within in
    let sums : total (drop i past) ≡ (get_or past i d).samples + total (drop (i + 1) past) = ap total split ∙ sum_by-cons (λ (r : Rate). r.samples) (get_or past i d) (drop (i + 1) past) in
    let one = subst (λ j. total (drop i past) ≡ (get_or past i d).samples + total (drop j past)) next sums in
    subst (λ j. total (drop i past) ≡ (get_or past j d).samples + total (drop (length past - n) past)) here one

total-same : (past : List Rate) (n : ℕ) → length past ≤ n → total (last_of (n + 1) past) ≡ total (last_of n past)
total-same past n h =
    let same : length past - (n + 1) ≡ length past - n = omega arith in
    ap (λ i. total (drop i past)) same

pub samples-more : (past : List Rate) (n : ℕ) → (together (last_of (n + 1) past)).samples ≡ min ((together (last_of n past)).samples + samples_before_last n past) (2 ^ 64 - 1)
samples-more past n = by_cases (nat_lt n (length past)) refl
  where
    d : Rate
    d = record { samples = 0; time = 0 }

    by_cases : (test : Bool) → nat_lt n (length past) ≡ test → (together (last_of (n + 1) past)).samples ≡ min ((together (last_of n past)).samples + samples_before_last n past) (2 ^ 64 - 1)
    by_cases true e =
        let more = total-more past n d (ltb-true n (length past) e) in
        let one : samples_before_last n past ≡ (get_or past (length past - 1 - n) d).samples = ap (λ t. cond t (get_or past (length past - 1 - n) d).samples 0) e in
        omega (arith, more, one)
    by_cases false e =
        let same = total-same past n (ltb-false n (length past) e) in
        let none : samples_before_last n past ≡ 0 = ap (λ t. cond t (get_or past (length past - 1 - n) d).samples 0) e in
        omega (arith, same, none)

pub window-is : (past : List Rate) (n : ℕ) → 16 ≤ n → n ≤ 64 → ((k : ℕ) → 16 + k < n → nat_le 100 (together (last_of (16 + k) past)).samples ≡ false) → (n < 64 → nat_le 100 (together (last_of n past)).samples ≡ true) → n ≡ window past
unfolding window
window-is past n low high few enough =
    let p : ℕ → Bool = λ k. nat_le 100 (together (last_of k past)).samples in
    let back : 16 + (n - 16) ≡ n = omega arith in
    let is = first-passing p 16 48 (n - 16) (omega arith) (λ k h. few k (omega arith)) (λ h. subst (λ k. p k ≡ true) (sym back) (enough (omega arith))) in
    sym back ∙ ap (λ k. 16 + k) (sym is)
