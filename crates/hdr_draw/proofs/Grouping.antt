-- Commas between groups of digits.
use Rattle.std.proofs.Common.{◌≡◌, ℕ, ◌+◌, ◌/◌, ◌%◌, ◌^◌, ◌==◌, ◌&&◌, ◌<◌, ◌≤◌, not, List, [], ◌∷◌, ◌++◌, length, codes, Bool, true, false, if◌then◌else◌, refl, ap, arith, append_assoc, length-append}
use Rattle.std.specs.Fmt.{decimal}
use Rattle.std.proofs.lemmas.Fmt.{decimal_step_wide, decimal_digit, decimal_by_steps_wide, length-decimal-le_wide}
use Rattle.hdr_draw.specs.Numbers.{with_commas, grouped, last_digits}

-- three digits or fewer have no comma
few : (ds : List ℕ) → length ds ≤ 3 → with_commas ds ≡ ds
few [] h = refl
few (a ∷ []) h = refl
few (a ∷ b ∷ []) h = refl
few (a ∷ b ∷ c ∷ []) h = refl
few (a ∷ b ∷ c ∷ d ∷ ds) h = absurd (omega arith)

same_test : (n : ℕ) → 0 < n → ((n + 3) % 3 == 0 && not (n + 3 == 0)) ≡ (n % 3 == 0 && not (n == 0))
same_test n h = grind arith

chosen : (b : Bool) (d : ℕ) (ds end : List ℕ) → (if b then d ∷ 44 ∷ (ds ++ end) else d ∷ (ds ++ end)) ≡ (if b then d ∷ 44 ∷ ds else d ∷ ds) ++ end
chosen true d ds end = refl
chosen false d ds end = refl

-- a digit before digits of which there are three more
after : (d : ℕ) (ds es end : List ℕ) → length es ≡ length ds + 3
    → ((length ds + 3) % 3 == 0 && not (length ds + 3 == 0)) ≡ (length ds % 3 == 0 && not (length ds == 0))
    → with_commas es ≡ with_commas ds ++ end → with_commas (d ∷ es) ≡ with_commas (d ∷ ds) ++ end
after d ds es end l t i = rw (l, t, i) (chosen (length ds % 3 == 0 && not (length ds == 0)) d (with_commas ds) end)

-- one group more
more : (ds : List ℕ) (a b c : ℕ) → 0 < length ds → with_commas (ds ++ a ∷ b ∷ c ∷ []) ≡ with_commas ds ++ (codes "," ++ a ∷ b ∷ c ∷ [])
more [] a b c h = absurd (omega arith)
more (d ∷ []) a b c h = refl
more (d ∷ e ∷ ds) a b c h =
    let i : with_commas ((e ∷ ds) ++ a ∷ b ∷ c ∷ []) ≡ with_commas (e ∷ ds) ++ (codes "," ++ a ∷ b ∷ c ∷ []) = more (e ∷ ds) a b c (omega arith) in
    let l : length ((e ∷ ds) ++ a ∷ b ∷ c ∷ []) ≡ length (e ∷ ds) + 3 = length-append (e ∷ ds) (a ∷ b ∷ c ∷ []) in
    let t = same_test (length (e ∷ ds)) (omega arith) in
    after d (e ∷ ds) ((e ∷ ds) ++ a ∷ b ∷ c ∷ []) (codes "," ++ a ∷ b ∷ c ∷ []) l t i

three : (n : ℕ) → 1000 ≤ n → n < 10 ^ 64 → decimal n ≡ decimal (n / 1000) ++ (48 + n / 100 % 10) ∷ (48 + n / 10 % 10) ∷ (48 + n % 10) ∷ []
three n h b =
    let x : decimal n ≡ decimal (n / 10) ++ (48 + n % 10) ∷ [] = decimal_step_wide n (omega arith) b in
    let y : decimal (n / 10) ≡ decimal (n / 10 / 10) ++ (48 + n / 10 % 10) ∷ [] = decimal_step_wide (n / 10) (omega arith) (omega arith) in
    let z : decimal (n / 10 / 10) ≡ decimal (n / 10 / 10 / 10) ++ (48 + n / 10 / 10 % 10) ∷ [] = decimal_step_wide (n / 10 / 10) (omega arith) (omega arith) in
    let p : n / 10 / 10 ≡ n / 100 = omega arith in
    let q : n / 10 / 10 / 10 ≡ n / 1000 = omega arith in
    let r : n / 10 / 10 % 10 ≡ n / 100 % 10 = ap (λ k. k % 10) p in
    rw (x, y, z, q, r, append_assoc, append_assoc) refl

last_three : (n : ℕ) → last_digits 3 n ≡ (48 + n / 100 % 10) ∷ (48 + n / 10 % 10) ∷ (48 + n % 10) ∷ []
last_three n =
    let a : decimal (n / 100 % 10) ≡ (48 + n / 100 % 10) ∷ [] = decimal_digit (n / 100 % 10) (omega arith) in
    let b : decimal (n / 10 % 10) ≡ (48 + n / 10 % 10) ∷ [] = decimal_digit (n / 10 % 10) (omega arith) in
    let c : decimal (n % 10) ≡ (48 + n % 10) ∷ [] = decimal_digit (n % 10) (omega arith) in
    let d : n / 1 % 10 ≡ n % 10 = omega arith in
    rw (d, a, b, c) refl

positive : (n : ℕ) → n < 10 ^ 64 → 0 < length (decimal n)
positive n h = decimal_by_steps_wide (λ n ds. 0 < length ds) (λ n k. omega arith) (λ n ds k i. omega (arith, length-append ds ((48 + n % 10) ∷ []))) n h

pub short : (n : ℕ) → n < 1000 → grouped n ≡ decimal n
unfolding grouped
short n h = few (decimal n) (length-decimal-le_wide 3 n (omega arith) (omega arith) (omega arith))

pub longer : (n : ℕ) → 1000 ≤ n → n < 10 ^ 64 → grouped n ≡ grouped (n / 1000) ++ codes "," ++ last_digits 3 n
unfolding grouped
longer n h b =
    let k : 0 < length (decimal (n / 1000)) = positive (n / 1000) (omega arith) in
    let m = more (decimal (n / 1000)) (48 + n / 100 % 10) (48 + n / 10 % 10) (48 + n % 10) k in
    rw (three n h b, last_three n, append_assoc) m
