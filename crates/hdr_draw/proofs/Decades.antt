-- Powers of ten, and which steps have a line.
use Rattle.std.proofs.Common.{◌≡◌, ℕ, suc, ◌+◌, ◌*◌, ◌^◌, ◌<◌, ◌≤◌, inl, inr, arith, sym, ap, ◌∙◌, add-one, refl, zero, max, true, nat_eq, min, ◌%◌, ◌-◌, List, [], ◌∷◌, ◌++◌, map, length, slice_index, rules}
use Rattle.std.proofs.Math.Nat.{pow-suc, pow-le-pow_right, one-le-pow}
use Rattle.std.proofs.Math.Nat.{eq-or-lt_of_le}
use Rattle.std.proofs.lemmas.Bool.{cases_lt}
use Rattle.std.proofs.lemmas.List.{map-append}
use Rattle.std.specs.Int.{div_ceil}
use Rattle.std.specs.List.{All, Contains}
use Rattle.std.proofs.lemmas.Grind.{get_or_default_zero}
use Rattle.std.proofs.lemmas.List.Elements.{All-contains, All-nil, All-push, All-map, Contains-get_or, Contains-push, Contains-append_left}
use Rattle.hdr_draw.specs.declared.values.AxisTick.{AxisTick}
use Rattle.hdr_draw.specs.Lines.{AreLines, HasLine, IsLine}
use Rattle.hdr_draw.specs.Rows.{Ends}
use Rattle.hdr_draw.specs.Scales.{IsValuePlace}
use Rattle.hdr_draw.specs.Steps.{IsStep, IsStrictlyAscending}
use Rattle.hdr_draw.proofs.Pushing.{ascending}

-- a value between a power and the next is not a power
pub same_power : (k r : ℕ) → 10 ^ r ≤ 10 ^ k → 10 ^ k < 10 * 10 ^ r → k ≡ r
same_power k r a b =
    let p : 10 ^ (r + 1) ≡ 10 ^ r * 10 = rw add-one (pow-suc 10 r) in
    let q : 10 ^ (k + 1) ≡ 10 ^ k * 10 = rw add-one (pow-suc 10 k) in
    let o : 1 ≤ 10 ^ k = one-le-pow k 10 (omega arith) in
    elim (cases_lt k r) [
      | inl l ↦ let m : 10 ^ (k + 1) ≤ 10 ^ r = pow-le-pow_right {n = 10} (omega arith) (omega arith) in absurd (omega (arith, a, m, q, o))
      | inr l ↦ elim (cases_lt r k) [
        | inl h ↦ let m : 10 ^ (r + 1) ≤ 10 ^ k = pow-le-pow_right {n = 10} (omega arith) (omega arith) in absurd (omega (arith, b, m, p))
        | inr h ↦ omega arith
      ]
    ]

pub no_power : (value r : ℕ) → 10 ^ r ≤ max 1 value → max 1 value < 10 * 10 ^ r → (value ≡ 10 ^ r → ⊥) → (k : ℕ) → value ≡ 10 ^ k → ⊥
no_power value r a b n k e =
    let o : 1 ≤ 10 ^ k = one-le-pow k 10 (omega arith) in
    let s : k ≡ r = same_power k r (omega (arith, a, e, o)) (omega (arith, b, e, o)) in
    n (e ∙ ap (λ i. 10 ^ i) s)

pub line_of_power : (decade octave step k : ℕ) → step ≡ 10 ^ k
    → IsLine decade octave (record { value = step; has_text = nat_eq (k % div_ceil 150 (max 1 decade)) 0; is_power = true })
line_of_power decade octave step k e = record {
  is = inl (k, e);
  power = (λ t. (k, e), λ t. refl);
  text_of_power = λ j f.
      let o : 1 ≤ 10 ^ k = one-le-pow k 10 (omega arith) in
      let s : j ≡ k = same_power j k (omega (arith, e, f)) (omega (arith, e, f, o)) in
      rw s (λ t. search (rules, t), λ t. search (rules, t));
  text_of_other = λ n. absurd (n (k, e));
}

rises : (xs : List ℕ) → IsStrictlyAscending xs → (i d : ℕ) → i + d + 1 < length xs → slice_index xs i < slice_index xs (i + d + 1)
rises xs a i zero h = let e : i + 0 + 1 ≡ i + 1 = omega arith in rw e (a i (omega arith))
rises xs a i (suc d) h =
    let p = rises xs a i d (omega arith) in
    let q = a (i + d + 1) (omega arith) in
    let e : i + suc d + 1 ≡ i + d + 1 + 1 = omega arith in
    rw e (omega (arith, p, q))

later : (xs : List ℕ) → IsStrictlyAscending xs → (i k : ℕ) → i < k → k < length xs → slice_index xs i < slice_index xs k
later xs a i k h l =
    let e : i + (k - i - 1) + 1 ≡ k = omega arith in
    rw e at (rises xs a i (k - i - 1) (omega arith))

-- the lines of the steps before an index
pub record Drawn (decade octave : ℕ) (xs : List ℕ) (i : ℕ) (ts : List AxisTick) : Type 0 where
  pub lines : All (IsLine decade octave) ts
  pub among : All (λ t. Contains xs t.value) ts
  pub before : All (λ t. (k : ℕ) → i ≤ k → k < length xs → t.value < slice_index xs k) ts
  pub ascending : IsStrictlyAscending (map (λ t. t.value) ts)
  pub all : (k : ℕ) → k < i → HasLine decade (slice_index xs k) → Contains (map (λ t. t.value) ts) (slice_index xs k)

pub none_drawn : (decade octave : ℕ) (xs : List ℕ) → Drawn decade octave xs 0 []
none_drawn d o xs = record {
  lines = All-nil (IsLine d o);
  among = All-nil (λ t. Contains xs t.value);
  before = All-nil (λ t. (k : ℕ) → 0 ≤ k → k < length xs → t.value < slice_index xs k);
  ascending = λ k l. absurd (omega arith);
  all = λ k l. absurd (omega arith);
}

before_more : (xs : List ℕ) (i : ℕ) (ts : List AxisTick) → All (λ t. (k : ℕ) → i ≤ k → k < length xs → t.value < slice_index xs k) ts
    → All (λ t. (k : ℕ) → i + 1 ≤ k → k < length xs → t.value < slice_index xs k) ts
before_more xs i ts a = λ j d h k l. a j d h k (omega arith)

pub left_out : (decade octave : ℕ) (xs : List ℕ) (i : ℕ) (ts : List AxisTick) → Drawn decade octave xs i ts → (HasLine decade (slice_index xs i) → ⊥)
    → Drawn decade octave xs (i + 1) ts
left_out d o xs i ts a n = record {
  lines = a.lines;
  among = a.among;
  before = before_more xs i ts a.before;
  ascending = a.ascending;
  all = λ k l h. elim (eq-or-lt_of_le (let g : k ≤ i = omega arith in g)) [
    | inl e ↦ absurd (n (rw e at h))
    | inr g ↦ a.all k g h
  ];
}

pub pushed : (decade octave : ℕ) (xs : List ℕ) (i : ℕ) (ts : List AxisTick) (t : AxisTick) → IsStrictlyAscending xs → i < length xs → Drawn decade octave xs i ts
    → IsLine decade octave t → t.value ≡ slice_index xs i → Drawn decade octave xs (i + 1) (ts ++ t ∷ [])
pushed d o xs i ts t up h a l e =
    let m : map (λ t. t.value) (ts ++ t ∷ []) ≡ map (λ t. t.value) ts ++ t.value ∷ [] = map-append (λ t. t.value) ts (t ∷ []) in
    let c : Contains xs t.value = rw e (Contains-get_or xs i 0 h) in
    let r : All (λ n. n < t.value) (map (λ t. t.value) ts) = All-map (λ n. n < t.value) (λ t. t.value) ts (rw e (λ j x k. a.before j x k i (omega arith) h)) in
    record {
      lines = All-push (IsLine d o) ts t a.lines l;
      among = All-push (λ t. Contains xs t.value) ts t a.among c;
      before = All-push (λ t. (k : ℕ) → i + 1 ≤ k → k < length xs → t.value < slice_index xs k) ts t (before_more xs i ts a.before)
          (λ k g b. rw e (later xs up i k (omega arith) b));
      ascending = rw m (ascending t.value (map (λ t. t.value) ts) a.ascending r);
      all = λ k g b. rw m (elim (eq-or-lt_of_le (let q : k ≤ i = omega arith in q)) [
        | inl f ↦ rw (f, ← e) (Contains-push (map (λ t. t.value) ts) t.value)
        | inr f ↦ Contains-append_left (map (λ t. t.value) ts) (t.value ∷ []) (slice_index xs k) (a.all k f b)
      ]);
    }

pub all_drawn : (e : Ends) (height decade octave : ℕ) (xs : List ℕ) (ts : List AxisTick) → IsValuePlace e height (min (10 * e.low) (2 ^ 64 - 1)) decade
    → IsValuePlace e height (min (2 * e.low) (2 ^ 64 - 1)) octave → All IsStep xs → All (λ n. (e.low ≤ n) × (n ≤ e.high)) xs
    → ((n : ℕ) → IsStep n → e.low ≤ n → n ≤ e.high → Contains xs n) → Drawn decade octave xs (length xs) ts → AreLines e height ts
all_drawn e height decade octave xs ts p q s i every a = record {
  decade = decade;
  octave = octave;
  is_decade = p;
  is_octave = q;
  lines = a.lines;
  steps = λ k d h. All-contains IsStep xs _ s (a.among k d h);
  inside = λ k d h. All-contains (λ n. (e.low ≤ n) × (n ≤ e.high)) xs _ i (a.among k d h);
  ascending = a.ascending;
  all = λ n t l b u.
      let c = every n t b u in
      let f : slice_index xs c.0 ≡ n = sym (get_or_default_zero xs c.0 n c.1) ∙ c.2 in
      rw f at (a.all c.0 c.1 (rw f l));
}
