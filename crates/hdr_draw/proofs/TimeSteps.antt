-- The steps of a scale of time.
use Rattle.std.proofs.Common.{◌≡◌, ℕ, zero, suc, ◌+◌, ◌*◌, ◌/◌, ◌%◌, ◌<◌, ◌≤◌, ◌&&◌, min, max, Bool, true, false, List, [], ◌∷◌, length, slice_index, inl, inr, arith, rules, refl, sym, ◌∙◌, leb, get_or, nat_lt}
use Rattle.std.proofs.Math.Nat.{add-mul, mul-le-mul_right, mul-pos, mul_left_comm, one-mul}
use Rattle.std.proofs.lemmas.Bool.{cases_lt}
use Rattle.std.proofs.lemmas.Grind.{div_ceil_times, get_or_default_zero}
use Rattle.std.specs.List.{Contains}
use Rattle.hdr_draw.specs.Steps.{IsEvery, IsStepOfSpan, most_steps, most_texts, time_steps}

abbrev ascends : List ℕ → Bool
ascends [] = true
ascends (x ∷ []) = true
ascends (x ∷ y ∷ ys) = leb x y && ascends (y ∷ ys)

ordered : (xs : List ℕ) → ascends xs ≡ true → (i j : ℕ) → i ≤ j → j < length xs → get_or xs i 0 ≤ get_or xs j 0
ordered [] t i j h l = absurd (omega arith)
ordered (x ∷ []) t i j h l =
    let e : i ≡ 0 = omega arith in
    let f : j ≡ 0 = omega arith in
    rw (e, f) (omega arith)
ordered (x ∷ y ∷ ys) t zero zero h l = omega arith
ordered (x ∷ y ∷ ys) t zero (suc j) h l =
    let a : x ≤ y = search (rules, t) in
    let u : ascends (y ∷ ys) ≡ true = search (rules, t) in
    let b : y ≤ get_or (y ∷ ys) j 0 = ordered (y ∷ ys) u 0 j (omega arith) (omega arith) in
    omega (arith, a, b)
ordered (x ∷ y ∷ ys) t (suc i) zero h l = absurd (omega arith)
ordered (x ∷ y ∷ ys) t (suc i) (suc j) h l =
    let u : ascends (y ∷ ys) ≡ true = search (rules, t) in
    ordered (y ∷ ys) u i j (omega arith) (omega arith)

steps_ascend : (i j : ℕ) → i ≤ j → j < 21 → slice_index time_steps i ≤ slice_index time_steps j
unfolding time_steps
steps_ascend i j h l = ordered time_steps refl i j h l

last : slice_index time_steps 20 ≡ 2592000
unfolding time_steps
last = refl

first : slice_index time_steps 0 ≡ 1
unfolding time_steps
first = refl

number : length time_steps ≡ 21
unfolding time_steps
number = refl

pub in_table : (i : ℕ) → i < 21 → Contains time_steps (slice_index time_steps i)
in_table i h = (i, omega (arith, number), get_or_default_zero time_steps i _ (omega (arith, number)))

-- a step of the table that some months are, too
at_most_months : (i m : ℕ) → i < 21 → 0 < m → slice_index time_steps i ≤ m * 2592000
at_most_months i m h p = omega (arith, steps_ascend i 20 (omega arith) (omega arith), last, p)

pub within_table : (i : ℕ) → i < 21 → (0 < slice_index time_steps i) × (slice_index time_steps i ≤ 2592000)
within_table i h = (omega (arith, first, steps_ascend 0 i (omega arith) h), omega (arith, last, steps_ascend i 20 (omega arith) (omega arith)))

-- a step of the table of which a span has few is none of the first ones, so it is not below the next
in_order : (span i o : ℕ) → i < 21 → ((k : ℕ) → k < i → span ≤ most_steps (slice_index time_steps k) * (1000 * slice_index time_steps k) → ⊥)
    → Contains time_steps o → span ≤ most_steps o * (1000 * o) → slice_index time_steps i ≤ o
in_order span i o h b q g =
    let l : q.0 < 21 = omega (arith, q.1, number) in
    let e : slice_index time_steps q.0 ≡ o = sym (get_or_default_zero time_steps q.0 o q.1) ∙ q.2 in
    elim (cases_lt q.0 i) [
      | inl k ↦ absurd (b q.0 k (rw e g))
      | inr k ↦ omega (arith, e, steps_ascend i q.0 k l)
    ]

pub shortest_of_table : (span i : ℕ) → i < 21 → ((k : ℕ) → k < i → span ≤ most_steps (slice_index time_steps k) * (1000 * slice_index time_steps k) → ⊥)
    → span ≤ most_steps (slice_index time_steps i) * (1000 * slice_index time_steps i) → IsStepOfSpan span (slice_index time_steps i)
shortest_of_table span i h b f = record {
  is = inl (in_table i h);
  few = f;
  shortest = λ o s g. elim s [
    | inl q ↦ in_order span i o h b q g
    | inr m ↦ rw m.2 (at_most_months i m.0 h m.1)
  ];
}

months_many : (m : ℕ) → 0 < m → most_steps (m * 2592000) ≡ 8
unfolding most_steps
months_many m p =
    let t : nat_lt (m * 2592000) 60 ≡ false = search (arith, p) in
    rw t refl

pub some_months : (span q : ℕ) → ((k : ℕ) → k < 21 → span ≤ most_steps (slice_index time_steps k) * (1000 * slice_index time_steps k) → ⊥)
    → span ≤ q * 20736000000 → q * 20736000000 < span + 20736000000 → IsStepOfSpan span (q * 2592000)
some_months span q b f g =
    let d : span ≤ 8 * (1000 * 2592000) → ⊥ = λ k. b 20 (omega arith) (rw (last, months_many 1 (omega arith)) k) in
    let l : 20736000000 < span = elim (cases_lt 20736000000 span) [
      | inl k ↦ k
      | inr k ↦ absurd (d (omega arith))
    ] in
    let p : 0 < q = omega arith in
    record {
      is = inr (q, p, refl);
      few = rw (months_many q p) (omega arith);
      shortest = λ o s h. elim s [
        | inl t ↦ absurd (b t.0 (omega (arith, t.1, number)) (rw (sym (get_or_default_zero time_steps t.0 o t.1) ∙ t.2) h))
        | inr m ↦ let k : span ≤ 8 * (1000 * (m.0 * 2592000)) = rw (m.2, months_many m.0 m.1) at h in rw m.2 (omega (arith, k))
      ];
    }

pub few_texts : (step : ℕ) → step < 60 → most_texts step ≡ 3
unfolding most_texts
few_texts step p =
    let t : nat_lt step 60 ≡ true = search (arith, p) in
    rw t refl

pub more_texts : (step : ℕ) → 60 ≤ step → most_texts step ≡ 4
unfolding most_texts
more_texts step p =
    let t : nat_lt step 60 ≡ false = search (arith, p) in
    rw t refl

texts_some : (step : ℕ) → 0 < most_texts step
unfolding most_texts
texts_some step = search (arith)

pub every_by_ceil : (span step d : ℕ) → 0 < step → d ≡ most_texts step * (1000 * step) → IsEvery span step (max 1 (span / d + min 1 (span % d)))
every_by_ceil span step d p e =
    let m : ℕ = most_texts step in
    let q : ℕ = span / d + min 1 (span % d) in
    let t = texts_some step in
    let z : 0 < d = rw e (mul-pos t (omega (arith, p))) in
    let b = div_ceil_times span d z in
    record {
      some = omega arith;
      few = rw (mul_left_comm m (max 1 q) (1000 * step), ← e) (omega (arith, b.0, (let l : q * d ≤ max 1 q * d = mul-le-mul_right d (omega arith) in l)));
      least = λ n h k. elim (cases_lt n q) [
        | inl l ↦
            let r : (n + 1) * d ≤ q * d = mul-le-mul_right d (omega arith) in
            let u : span ≤ n * d = rw (mul_left_comm m n (1000 * step), ← e) at k in
            absurd (omega (arith, r, u, b.1, add-mul n 1 d, one-mul d))
        | inr l ↦ omega (arith, h, l)
      ];
    }
