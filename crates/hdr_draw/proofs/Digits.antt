-- Numbers by their digits to the base 2^64.
use Rattle.std.proofs.Common.{◌≡◌, ℕ, zero, suc, ◌+◌, ◌*◌, ◌^◌, ◌<◌, ◌≤◌, List, [], ◌∷◌, ◌++◌, length, take, get_or, arith, sym, ap, ◌∙◌, take-suc, length-take, add-one, Bool, true, false, ltb, ltb-true, ltb-false, le_of_lt}
use Rattle.std.proofs.Math.Nat.{mul-add, add-mul, mul-le-mul_right, mul_assoc, mul_comm, pow-suc}
use Rattle.hdr_draw.specs.Rows.{number}

abbrev pub base : ℕ
base = 18446744073709551616

snoc : (ds : List ℕ) (d : ℕ) → number (ds ++ d ∷ []) ≡ number ds + base ^ length ds * d
snoc [] d = omega arith
snoc (x ∷ ds) d =
    let i : number (ds ++ d ∷ []) ≡ number ds + base ^ length ds * d = snoc ds d in
    let p : base ^ suc (length ds) ≡ base ^ length ds * base = pow-suc base (length ds) in
    let q : base ^ suc (length ds) * d ≡ base * (base ^ length ds * d) = ap (λ n. n * d) (p ∙ mul_comm (base ^ length ds) base) ∙ mul_assoc base (base ^ length ds) d in
    rw (q, i) (omega arith)

pub push_digit : (ds : List ℕ) (d k : ℕ) → length ds ≡ k → number (ds ++ d ∷ []) ≡ number ds + base ^ k * d
push_digit ds d k e = rw (← e) (snoc ds d)

number_suc : (ds : List ℕ) (k : ℕ) → k < length ds → number (take (suc k) ds) ≡ number (take k ds) + base ^ k * get_or ds k 0
number_suc ds k h =
    let t : take (suc k) ds ≡ take k ds ++ get_or ds k 0 ∷ [] = take-suc ds k 0 h in
    let l : length (take k ds) ≡ k = omega (arith, length-take k ds) in
    rw t (push_digit (take k ds) (get_or ds k 0) k l)

pub number_take : (ds : List ℕ) (k : ℕ) → k < length ds → number (take (k + 1) ds) ≡ number (take k ds) + base ^ k * get_or ds k 0
number_take ds k h = rw add-one (number_suc ds k h)

pub power_more : (k : ℕ) → base ^ (k + 1) ≡ base ^ k * base
power_more k = rw add-one (pow-suc base k)

whole : (w e d : ℕ) → e < d → w * e + w ≤ w * d
whole w e d h =
    let m : (e + 1) * w ≤ d * w = mul-le-mul_right w (omega arith) in
    let a : (e + 1) * w ≡ e * w + 1 * w = add-mul e 1 w in
    rw (mul_comm w e, mul_comm w d) (omega arith)

-- a number is below the weight of its next digit
pub bounded : (ds : List ℕ) → ((i : ℕ) → get_or ds i 0 < base) → (k : ℕ) → k ≤ length ds → number (take k ds) < base ^ k
bounded ds f zero h = omega arith
bounded ds f (suc k) h =
    let b : number (take k ds) < base ^ k = bounded ds f k (omega arith) in
    let t : number (take (suc k) ds) ≡ number (take k ds) + base ^ k * get_or ds k 0 = number_suc ds k (omega arith) in
    let q : base ^ suc k ≡ base ^ k * base = pow-suc base k in
    let d : get_or ds k 0 < base = f k in
    let m : base ^ k * get_or ds k 0 + base ^ k ≤ base ^ k * base = whole (base ^ k) (get_or ds k 0) base d in
    rw (t, q) (omega arith)

-- the order of two numbers whose lower digits are ordered, by one digit more
pub greater_digit : (a b w d e : ℕ) → b < w → e < d → b + w * e < a + w * d
greater_digit a b w d e h k =
    let m : w * e + w ≤ w * d = whole w e d k in
    omega arith

-- whether one number is at least another, after lower digits by r
abbrev pub Orders : Bool → ℕ → ℕ → Type 0
Orders r a b = (r ≡ true → b ≤ a) × (r ≡ false → a < b)

pub other_digits : (a b w d e : ℕ) (r : Bool) → a < w → b < w → (d ≡ e → ⊥) → r ≡ ltb e d → Orders r (a + w * d) (b + w * e)
other_digits a b w d e r h k n q = (
  λ t. le_of_lt (greater_digit a b w d e k (ltb-true e d (sym q ∙ t))),
  λ f. let l : d ≤ e = ltb-false e d (sym q ∙ f) in greater_digit b a w e d h (omega (arith, n)),
)

pub same_digit : (a b w d e : ℕ) (r s : Bool) → Orders s a b → d ≡ e → r ≡ s → Orders r (a + w * d) (b + w * e)
same_digit a b w d e r s o q p = rw (p, q) (λ t. omega (arith, o.0 t), λ f. omega (arith, o.1 f))

-- one digit more, times a factor
pub times_step : (n p w f d c low high : ℕ) → n * f ≡ p + w * c → low + base * high ≡ d * f + c → (n + w * d) * f ≡ (p + w * low) + (w * base) * high
times_step n p w f d c low high h e =
    let a : (n + w * d) * f ≡ n * f + w * d * f = add-mul n (w * d) f in
    let b : w * d * f ≡ w * (d * f) = mul_assoc w d f in
    let g : w * (d * f + c) ≡ w * (d * f) + w * c = mul-add w (d * f) c in
    let k : w * (low + base * high) ≡ w * low + w * (base * high) = mul-add w low (base * high) in
    let l : w * base * high ≡ w * (base * high) = mul_assoc w base high in
    let j : w * (low + base * high) ≡ w * (d * f + c) = ap (λ n. w * n) e in
    omega arith
