-- The levels of powers, one on.
use Rattle.std.proofs.Common.{◌≡◌, ℕ, ◌+◌, ◌-◌, ◌*◌, ◌^◌, ◌<◌, ◌≤◌, min, zero, suc, Bool, true, false, cond, ltb, [], ◌∷◌, map, count_by, sym, refl, ap, ◌∙◌, subst, ◌⊎◌, ⊎_elim, arith}
use Rattle.std.proofs.lemmas.Bool.{cases_lt, lt-ltb, le-ltb, ltb-true}
use Rattle.std.proofs.Math.Nat.{pow-zero, pow-suc, pow-succ', mul-le-mul_right, mul-le-mul_left}
use Rattle.std.specs.List.{range_with_len}
use Rattle.hdr_iterators.specs.Seen.{Seen, AreBins, bins_in, capped, bin_or_last, lowest_in}
use Rattle.hdr_iterators.specs.Picks.{Pick, NoneBefore, AllBefore}
use Rattle.hdr_iterators.specs.Places.{level_pick, log_level, log_count, log_picks}
use Rattle.hdr_iterators.specs.Log.{LogStep}
use Rattle.hdr_iterators.proofs.LinearLevels.{range_more}
use Rattle.hdr_iterators.proofs.SeenPlaces.{before-class, from-class, place-le, lowest-small}
use Rattle.hdr_iterators.proofs.TicksFronts.{ones, IsFront, count_first, count_last, count_same, count_none}

pow_some : (b j : ℕ) → 1 ≤ b → 1 ≤ b ^ j
pow_some b zero l = let z : b ^ 0 ≡ 1 = pow-zero b in omega (arith, z)
pow_some b (suc j) l =
    let m : 1 * b ≤ b ^ j * b = mul-le-mul_right b (pow_some b j l) in
    omega (arith, pow-suc b j, m, l)

pow_wide : (b j : ℕ) → 2 ≤ b → 2 ^ j ≤ b ^ j
pow_wide b zero l = let z : b ^ 0 ≡ 1 = pow-zero b in omega (arith, z)
pow_wide b (suc j) l =
    let m : 2 ^ j * 2 ≤ b ^ j * 2 = mul-le-mul_right 2 (pow_wide b j l) in
    let n : b ^ j * 2 ≤ b ^ j * b = mul-le-mul_left (b ^ j) l in
    omega (arith, pow-suc 2 j, pow-suc b j, m, n)

-- a product may be capped at each factor
pub capped_times : (a c : ℕ) → 1 ≤ c → capped (capped a * c) ≡ capped (a * c)
capped_times a c l =
    ⊎_elim
    (λ (lt : a < (2 ^ 64 - 1)).
    let e : capped a ≡ a = omega (arith, lt) in
    ap (λ n. capped (n * c)) e)
    (λ (ge : (2 ^ 64 - 1) ≤ a).
    let e : capped a ≡ (2 ^ 64 - 1) = omega (arith, ge) in
    let m : (2 ^ 64 - 1) * 1 ≤ (2 ^ 64 - 1) * c = mul-le-mul_left (2 ^ 64 - 1) l in
    let n : (2 ^ 64 - 1) * c ≤ a * c = mul-le-mul_right c ge in
    let f : capped ((2 ^ 64 - 1) * c) ≡ capped (a * c) = omega (arith, m, n) in
    ap (λ n. capped (n * c)) e ∙ f)
    (cases_lt a (2 ^ 64 - 1))

-- the levels from the next power on
pub level_shift : (p b j : ℕ) → 1 ≤ b → log_level p b (j + 1) ≡ log_level (capped (p * b)) b j
level_shift p b j l =
    let u : j + 1 ≡ suc j = omega arith in
    let e : p * b ^ (j + 1) ≡ p * b * b ^ j = ap (λ k. p * b ^ k) u ∙ (ap (λ n. p * n) (pow-succ' b j) ∙ omega arith) in
    ap (λ n. capped n - 1) e ∙ ap (λ n. n - 1) (sym (capped_times (p * b) (b ^ j) (pow_some b j l)))

pub level-le : (p b j : ℕ) → 1 ≤ b → log_level p b j ≤ log_level p b (j + 1)
level-le p b j l =
    let u : j + 1 ≡ suc j = omega arith in
    let e : p * b ^ (j + 1) ≡ p * (b ^ j * b) = ap (λ k. p * b ^ k) u ∙ ap (λ n. p * n) (pow-suc b j) in
    let m : b ^ j * 1 ≤ b ^ j * b = mul-le-mul_left (b ^ j) l in
    let n : p * (b ^ j * 1) ≤ p * (b ^ j * b) = mul-le-mul_left p m in
    let o : p * (b ^ j * 1) ≡ p * b ^ j = omega arith in
    omega (arith, e, n, o)

-- the first level
pub level_start : (p b : ℕ) → p ≤ (2 ^ 64 - 1) → log_level p b 0 ≡ p - 1
level_start p b l =
    let z : p * b ^ 0 ≡ p = ap (λ n. p * n) (pow-zero b) ∙ omega arith in
    omega (arith, z, l)

-- a power past the 64th is past each number
level_far : (p b : ℕ) → 1 ≤ p → 2 ≤ b → log_level p b 64 ≡ (2 ^ 64 - 1) - 1
level_far p b l m =
    let w : 2 ^ 64 ≤ b ^ 64 = pow_wide b 64 m in
    let n : 1 * b ^ 64 ≤ p * b ^ 64 = mul-le-mul_right (b ^ 64) l in
    omega (arith, w, n)

-- a level is below the last recorded class
abbrev is_low : Seen → ℕ → ℕ → ℕ → Bool
is_low h p b j = ltb (log_level p b j) (lowest_in h h.last)

low_front : (h : Seen) (p b : ℕ) → 1 ≤ b → IsFront (is_low h p b)
low_front h p b l = λ k t. lt-ltb (log_level p b k) (lowest_in h h.last) (omega (arith, level-le p b k l, ltb-true (log_level p b (k + 1)) (lowest_in h h.last) t))

count_low : (h : Seen) (p b : ℕ) → LogStep h p b → p - 1 < lowest_in h h.last → log_count h p b ≡ log_count h (capped (p * b)) b + 1
count_low h p b w l =
    let wide : 1 ≤ b = omega (arith, w.wide) in
    let first : is_low h p b 0 ≡ true = lt-ltb (log_level p b 0) (lowest_in h h.last) (omega (arith, l, level_start p b w.fits)) in
    let far : is_low h p b 64 ≡ false = le-ltb (log_level p b 64) (lowest_in h h.last) (omega (arith, level_far p b w.some w.wide, lowest-small h h.last w.plain w.plain.last_inside)) in
    let e : ones (is_low h p b 0) ≡ 1 = ap ones first in
    let f : ones (is_low h p b 64) ≡ 0 = ap ones far in
    let s : count_by (is_low h p b) (range_with_len 1 64) ≡ count_by (is_low h (capped (p * b)) b) (range_with_len 0 64) = count_same (is_low h p b) (is_low h (capped (p * b)) b) 1 0 64 (λ j.
    let u : 1 + j ≡ j + 1 = omega arith in
    let v : j ≡ 0 + j = omega arith in
    ap (is_low h p b) u ∙ (ap (λ n. ltb n (lowest_in h h.last)) (level_shift p b j wide) ∙ ap (is_low h (capped (p * b)) b) v)) in
    omega (arith, count_first (is_low h p b) 0 64, count_last (is_low h p b) 0 64, e, f, s)

count_high : (h : Seen) (p b : ℕ) → LogStep h p b → lowest_in h h.last ≤ p - 1 → log_count h p b ≡ 1
count_high h p b w l =
    let wide : 1 ≤ b = omega (arith, w.wide) in
    let first : is_low h p b 0 ≡ false = le-ltb (log_level p b 0) (lowest_in h h.last) (omega (arith, l, level_start p b w.fits)) in
    omega (arith, count_none (is_low h p b) (low_front h p b wide) 64 0 first)

map_shift : (f g : ℕ → Pick) → ((j : ℕ) → f (j + 1) ≡ g j) → (a n : ℕ) → map f (range_with_len (a + 1) n) ≡ map g (range_with_len a n)
map_shift f g h a zero = refl
map_shift f g h a (suc n) = ap (λ x. x ∷ map f (range_with_len (a + 1 + 1) n)) (h a) ∙ ap (λ xs. g a ∷ xs) (map_shift f g h (a + 1) n)

first_pick : (h : Seen) (p b : ℕ) → p ≤ (2 ^ 64 - 1) → level_pick h (log_level p b 0) ≡ level_pick h (p - 1)
first_pick h p b l = ap (level_pick h) (level_start p b l)

-- below the last recorded class, the levels go on from the next power
pub log_more : (h : Seen) (p b : ℕ) → LogStep h p b → bin_or_last h (p - 1) < h.last → log_picks h p b ≡ level_pick h (p - 1) ∷ log_picks h (capped (p * b)) b
log_more h p b w l =
    let wide : 1 ≤ b = omega (arith, w.wide) in
    let low : p - 1 < lowest_in h h.last =
    ⊎_elim
    (λ (lt : p - 1 < lowest_in h h.last). lt)
    (λ (ge : lowest_in h h.last ≤ p - 1).
    absurd (omega (arith, from-class h.resolution (p - 1) h.last w.plain.digits ge, l, w.plain.last_inside)))
    (cases_lt (p - 1) (lowest_in h h.last)) in
    let c = count_low h p b w low in
    let n : log_count h p b - 1 ≡ log_count h (capped (p * b)) b = omega (arith, c) in
    ap (map (λ j. level_pick h (log_level p b j))) (range_more 0 (log_count h p b) (omega arith))
    ∙ (ap (λ q. level_pick h (log_level p b 0) ∷ map (λ j. level_pick h (log_level p b j)) (range_with_len 1 q)) n
    ∙ (ap (λ q. q ∷ map (λ j. level_pick h (log_level p b j)) (range_with_len 1 (log_count h (capped (p * b)) b))) (first_pick h p b w.fits)
    ∙ ap (λ ps. level_pick h (p - 1) ∷ ps) (map_shift (λ j. level_pick h (log_level p b j)) (λ j. level_pick h (log_level (capped (p * b)) b j)) (λ j. ap (level_pick h) (level_shift p b j wide)) 0 (log_count h (capped (p * b)) b))))

-- the first level picked at the last recorded bin or after it is the last one
pub log_last : (h : Seen) (p b : ℕ) → LogStep h p b → h.last ≤ bin_or_last h (p - 1) → log_picks h p b ≡ level_pick h (p - 1) ∷ []
log_last h p b w l =
    let high : lowest_in h h.last ≤ p - 1 =
    ⊎_elim
    (λ (lt : p - 1 < lowest_in h h.last).
    absurd (omega (arith, before-class h.resolution (p - 1) h.last w.plain.digits lt, l)))
    (λ (ge : lowest_in h h.last ≤ p - 1). ge)
    (cases_lt (p - 1) (lowest_in h h.last)) in
    ap (λ q. map (λ j. level_pick h (log_level p b j)) (range_with_len 0 q)) (count_high h p b w high) ∙ ap (λ q. q ∷ []) (first_pick h p b w.fits)

levels_ahead : (h : Seen) (p b a n m : ℕ) → AreBins h → 1 ≤ b → m ≤ bin_or_last h (log_level p b a) → NoneBefore m (map (λ j. level_pick h (log_level p b j)) (range_with_len a n))
levels_ahead h p b a zero m w l q = tt
levels_ahead h p b a (suc n) m w l q =
    let up : bin_or_last h (log_level p b a) ≤ bin_or_last h (log_level p b (a + 1)) = place-le h (log_level p b a) (log_level p b (a + 1)) w (level-le p b a l) in
    (q, levels_ahead h p b (a + 1) n m w l (omega (arith, q, up)))

pub log_within : (h : Seen) (p b a n : ℕ) → 0 < bins_in h → AllBefore (bins_in h) (map (λ j. level_pick h (log_level p b j)) (range_with_len a n))
log_within h p b a zero l = tt
log_within h p b a (suc n) l = (omega (arith, l), log_within h p b (a + 1) n l)

-- no level to come is picked at or before a bin that the next one comes after
pub log_behind : (h : Seen) (p b i : ℕ) (done : Bool) → LogStep h p b → i < bin_or_last h (p - 1) → NoneBefore (i + 1) (cond done [] (log_picks h p b))
log_behind h p b i true w l = tt
log_behind h p b i false w l =
    let e : bin_or_last h (log_level p b 0) ≡ bin_or_last h (p - 1) = ap (bin_or_last h) (level_start p b w.fits) in
    levels_ahead h p b 0 (log_count h p b) (i + 1) w.plain (omega (arith, w.wide)) (omega (arith, e, l))

pub LogStep-next : (h : Seen) (p b next : ℕ) → LogStep h p b → next ≡ min (p * b) (2 ^ 64 - 1) → LogStep h next b
LogStep-next h p b next w e =
    let m : p * 2 ≤ p * b = mul-le-mul_left p w.wide in
    record { plain = w.plain; some = omega (arith, m, e, w.some); fits = omega (arith, e); wide = w.wide }

-- the next level is at the current bin, and the rest comes of the next power
pub log_step : (h : Seen) (p b i next : ℕ) (done : Bool) → LogStep h p b → bin_or_last h (p - 1) ≤ i → NoneBefore i (log_picks h p b) → next ≡ min (p * b) (2 ^ 64 - 1)
    → ((done ≡ true) × (h.last ≤ i)) ⊎ ((done ≡ false) × (i < h.last))
    → (i ≡ bin_or_last h (p - 1)) × (log_picks h p b ≡ level_pick h (p - 1) ∷ cond done [] (log_picks h next b))
log_step h p b i next done w l a n picked =
    ⊎_elim
    (λ (lt : bin_or_last h (p - 1) < h.last).
    let more = log_more h p b w lt in
    let at : NoneBefore i (level_pick h (p - 1) ∷ log_picks h (capped (p * b)) b) = subst (NoneBefore i) more a in
    let here : i ≡ bin_or_last h (p - 1) = omega (arith, l, at.0) in (
      here,
      ⊎_elim
          (λ (y : (done ≡ true) × (h.last ≤ i)). absurd (omega (arith, y.1, here, lt)))
          (λ (y : (done ≡ false) × (i < h.last)). more ∙ ap (λ q. level_pick h (p - 1) ∷ log_picks h q b) (sym n) ∙ ap (λ d. level_pick h (p - 1) ∷ cond d [] (log_picks h next b)) (sym y.0))
          picked,
    ))
    (λ (ge : h.last ≤ bin_or_last h (p - 1)).
    let more = log_last h p b w ge in
    let at : NoneBefore i (level_pick h (p - 1) ∷ []) = subst (NoneBefore i) more a in
    let here : i ≡ bin_or_last h (p - 1) = omega (arith, l, at.0) in (
      here,
      ⊎_elim
          (λ (y : (done ≡ true) × (h.last ≤ i)). more ∙ ap (λ d. level_pick h (p - 1) ∷ cond d [] (log_picks h next b)) (sym y.0))
          (λ (y : (done ≡ false) × (i < h.last)). absurd (omega (arith, y.1, here, ge)))
          picked,
    ))
    (cases_lt (bin_or_last h (p - 1)) (h.last))
