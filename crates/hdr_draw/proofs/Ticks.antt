-- The ticks of a scale of time.
use Rattle.std.proofs.Common.{◌≡◌, ℕ, ◌+◌, ◌*◌, ◌/◌, ◌%◌, ◌<◌, ◌≤◌, ◌⊎◌, ◌↔◌, Bool, IsTrue, List, [], ◌∷◌, ◌++◌, map, inl, inr, arith, sym, ap, ◌∙◌}
use Rattle.std.proofs.lemmas.List.{map-append}
use Rattle.std.proofs.Math.Nat.{add-mul, mul-le-mul_right, mul-div_cancel, mul-mod_left, mod-add-div, mul_comm, lt_of_mul-lt-mul_right, one-mul}
use Rattle.std.proofs.lemmas.Bool.{cases_lt}
use Rattle.std.specs.List.{All}
use Rattle.std.proofs.lemmas.List.Elements.{All-nil, All-push, All-map, All-weaker, Contains-push, Contains-append_left}
use Rattle.hdr_draw.specs.declared.times.TimeTick.{TimeTick}
use Rattle.hdr_draw.specs.Steps.{AreTicks, IsTickTime}
use Rattle.hdr_draw.proofs.Pushing.{ascending}

-- one step more
more : (n w : ℕ) → (n + 1) * w ≡ n * w + w
more n w = add-mul n 1 w ∙ ap (λ k. n * w + k) (one-mul w)

whole : (w t : ℕ) → t % w ≡ 0 → t ≡ t / w * w
whole w t m = omega (arith, m, mod-add-div t w, mul_comm w (t / w))

-- a multiple below another is a step before it
before : (w n t : ℕ) → t % w ≡ 0 → t < n * w → t + w ≤ n * w
before w n t m h =
    let d = whole w t m in
    let k : t / w < n = lt_of_mul-lt-mul_right w (rw (← d) h) in
    let l : (t / w + 1) * w ≤ n * w = mul-le-mul_right w (omega arith) in
    omega (arith, d, l, more (t / w) w)

-- a multiple below the next one is at most this one
multiple : (w n t : ℕ) → t % w ≡ 0 → t < (n + 1) * w → (t ≡ n * w) ⊎ (t < n * w)
multiple w n t m h =
    let b = before w (n + 1) t m h in
    elim (cases_lt t (n * w)) [
      | inl a ↦ inr a
      | inr a ↦ inl (omega (arith, b, a, more n w))
    ]

pub left_out : (w e f t n : ℕ) (xs : List TimeTick) → AreTicks w e f t (n * w) xs → (f ≤ n * w → n * w ≤ t → ⊥) → AreTicks w e f t ((n + 1) * w) xs
left_out w e f t n xs a none = record {
  times = a.times;
  below = All-weaker (λ x. x.time < n * w) (λ x. x.time < (n + 1) * w) (λ x h. omega (arith, h, more n w)) xs a.below;
  ascending = a.ascending;
  all = λ x i h. elim (multiple w n x i.2 h) [
    | inl q ↦ absurd (none (rw q at i.0) (rw q at i.1))
    | inr l ↦ a.all x i l
  ];
  coarse = a.coarse;
}

pub pushed : (w e f t n time : ℕ) (b : Bool) (xs : List TimeTick) → AreTicks w e f t (n * w) xs → 0 < w → time ≡ n * w → f ≤ time → time ≤ t
    → (IsTrue b ↔ n % e ≡ 0) → AreTicks w e f t ((n + 1) * w) (xs ++ (record { time = time; is_coarse = b }) ∷ [])
pushed w e f t n u b xs a p q g h c =
    let x : TimeTick = record { time = u; is_coarse = b } in
    let m : map (λ t. t.time) (xs ++ x ∷ []) ≡ map (λ t. t.time) xs ++ u ∷ [] = map-append (λ t. t.time) xs (x ∷ []) in
    let l : n * w < (n + 1) * w = omega (arith, p, more n w) in
    let d : u / w ≡ n = rw q (mul-div_cancel n p) in
    let z : u % w ≡ 0 = rw q (mul-mod_left n w) in
    let r : All (λ n. n < u) (map (λ t. t.time) xs) = All-map (λ n. n < u) (λ t. t.time) xs (rw q a.below) in
    record {
      times = All-push (λ x. IsTickTime w f t x.time) xs x a.times (g, h, z);
      below = All-push (λ x. x.time < (n + 1) * w) xs x (All-weaker (λ x. x.time < n * w) (λ x. x.time < (n + 1) * w) (λ x k. omega (arith, k, l)) xs a.below) (omega (arith, q, l));
      ascending = rw m (ascending u (map (λ t. t.time) xs) a.ascending r);
      all = λ y i k. rw m (elim (multiple w n y i.2 k) [
        | inl e ↦ let o : y ≡ u = e ∙ sym q in rw o (Contains-push (map (λ t. t.time) xs) u)
        | inr e ↦ Contains-append_left (map (λ t. t.time) xs) (u ∷ []) y (a.all y i e)
      ]);
      coarse = All-push (λ x. IsTrue x.is_coarse ↔ x.time / w % e ≡ 0) xs x a.coarse (rw d c);
    }

-- no multiple lies from a time to the first that is not below it
pub none : (w e f t n : ℕ) → 0 < w → n * w < f + w → AreTicks w e f t (n * w) []
none w e f t n p h = record {
  times = All-nil (λ x. IsTickTime w f t x.time);
  below = All-nil (λ x. x.time < n * w);
  ascending = λ k l. absurd (omega arith);
  all = λ x i l. absurd (omega (arith, before w n x i.2 l, i.0, h));
  coarse = All-nil (λ x. IsTrue x.is_coarse ↔ x.time / w % e ≡ 0);
}

-- the first ten are those below ten steps after a time
pub first_ten : (w e f t n : ℕ) (xs : List TimeTick) → 0 < w → f ≤ n * w → n * w < f + w → AreTicks w e f t ((n + 10) * w) xs → AreTicks w e f t (f + 10 * w) xs
first_ten w e f t n xs p g h a =
    let m : (n + 10) * w ≡ n * w + 10 * w = add-mul n 10 w in
    record {
      times = a.times;
      below = λ k d l. omega (arith, before w (n + 10) _ (a.times k d l).2 (a.below k d l), h, m);
      ascending = a.ascending;
      all = λ x i l. a.all x i (omega (arith, l, g, m));
      coarse = a.coarse;
    }
