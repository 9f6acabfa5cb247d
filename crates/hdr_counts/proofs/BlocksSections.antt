-- The sections of blocks.
use Rattle.std.proofs.Common.{◌≡◌, ℕ, ◌+◌, ◌-◌, ◌*◌, ◌/◌, ◌%◌, ◌<◌, ◌≤◌, ◌&&◌, ◌++◌, List, leb, ltb, eqb, inl, inr, length, get_or, take, replicate, refl, ap, sym, subst, ◌∙◌, ⊎_elim, arith}
use Rattle.std.proofs.Math.Nat.{mul_assoc, mul-mod_left, mod_self, mul-le-mul_left, mul-le-mul_right, mul-div_cancel}
use Rattle.std.proofs.lemmas.Bool.{and_parts, cases_Bool, cases_lt, eqb-true, lt-ltb, le-ltb}
use Rattle.std.proofs.lemmas.Nat.{div-add-mod'}
use Rattle.std.proofs.lemmas.List.{append-nil, length-append, length-replicate, take_all}
use Rattle.std.proofs.lemmas.List.Elements.{All-append, All-replicate}
use Rattle.hdr_base.specs.Classes.{most_bins}
use Rattle.hdr_counts.specs.Blocks.{AreSections, AreSums, sum_below, parted, own_section, section_of}
use Rattle.hdr_counts.proofs.BlocksSums.{AreSums-grow, sum_below-zeros, sum_below_all, sums_grown}

-- a section parts a block evenly
record Divides (b s : ℕ) : Type 0 where
  some : 1 ≤ s
  whole : b / s * s ≡ b

itself : (b : ℕ) → 1 ≤ b → Divides b b
itself b some = record { some = some; whole = omega (arith, div-add-mod' b b, mod_self b) }

parted-divides : (b least s rest : ℕ) → 1 ≤ s → Divides b rest → Divides b (parted b least s rest)
unfolding parted
parted-divides b least s rest some h =
    elim (cases_Bool (leb least b && eqb (b % s) 0)) [
      | inl long ↦ rw long (record { some = some; whole = omega (arith, div-add-mod' b s, eqb-true (b % s) 0 (and_parts (leb least b) (eqb (b % s) 0) long).1) })
      | inr short ↦ rw short h
    ]

divides : (b : ℕ) → 1 ≤ b → Divides b (own_section b)
unfolding own_section
divides b some =
    parted-divides b 131072 4096 _ (omega arith) (parted-divides b 16384 1024 _ (omega arith) (parted-divides b 1024 256 b (omega arith) (itself b some)))

pub own_section-some : (b : ℕ) → 1 ≤ b → 1 ≤ own_section b
own_section-some b some = (divides b some).some

-- the one section of short blocks, and the sections of others
section-short : (b len : ℕ) → b < 32 → 0 < len → section_of b len ≡ len
unfolding section_of
section-short b len few some = rw (lt-ltb b 32 few, lt-ltb 0 len some) refl

section-long : (b len : ℕ) → 32 ≤ b → section_of b len ≡ own_section b
unfolding section_of
section-long b len many = rw (le-ltb b 32 many) refl

section-none : (b len : ℕ) → len ≡ 0 → section_of b len ≡ own_section b
unfolding section_of
section-none b len none = elim (cases_Bool (ltb b 32)) [
  | inl short ↦ rw (short, none) refl
  | inr long ↦ rw long refl
]

-- sections part all numbers evenly, and a block too if they are no longer
pub record AreParted (b s len : ℕ) : Type 0 where
  pub some : 1 ≤ s
  pub all : len / s * s ≡ len
  pub in_block : s ≤ b → (1 ≤ b / s) × (b / s * s ≡ b)

at-least-one : (b s : ℕ) → 1 ≤ b → b / s * s ≡ b → 1 ≤ b / s
at-least-one b s some whole = ⊎_elim (λ (lt : b / s < 1). absurd (let none : b / s ≡ 0 = omega (arith, lt) in omega (arith, ap (λ q. q * s) none, whole, some))) (λ (ge : 1 ≤ b / s). ge) (cases_lt (b / s) 1)

parted-own : (b s len : ℕ) → 1 ≤ b → len % b ≡ 0 → Divides b s → AreParted b s len
parted-own b s len some whole h =
    let n = len / b * (b / s) in
    let is : len ≡ n * s = omega (arith, div-add-mod' len b, whole, mul_assoc (len / b) (b / s) s, ap (λ m. len / b * m) h.whole) in
    let number : len / s ≡ n = ap (λ m. m / s) is ∙ mul-div_cancel n {n = s} h.some in
    record { some = h.some; all = ap (λ m. m * s) number ∙ sym is; in_block = λ _. (at-least-one b s some h.whole, h.whole) }

parted-all : (b len : ℕ) → 1 ≤ b → 0 < len → len % b ≡ 0 → AreParted b len len
parted-all b len some full whole =
    let q = len / b in
    let is : q * b ≡ len = omega (arith, div-add-mod' len b, whole) in
    record {
      some = full;
      all = (itself len full).whole;
      in_block = λ few.
          let one : q < 2 = ⊎_elim (λ (lt : q < 2). lt) (λ (ge : 2 ≤ q). absurd (omega (arith, mul-le-mul_right b ge, is, few, some))) (cases_lt q 2) in
          let same : len ≡ b = ⊎_elim (λ (lt : q < 1). absurd (let none : q ≡ 0 = omega (arith, lt) in omega (arith, ap (λ m. m * b) none, is, full))) (λ (ge : 1 ≤ q). let e : q ≡ 1 = omega (arith, ge, one) in omega (arith, ap (λ m. m * b) e, is)) (cases_lt q 1) in
          let h : Divides b len = subst (λ m. Divides b m) (sym same) (itself b some) in
          (at-least-one b len some h.whole, h.whole);
    }

pub AreParted-of : (b s len : ℕ) → 1 ≤ b → len % b ≡ 0 → s ≡ section_of b len → AreParted b s len
AreParted-of b s len some whole is =
    let own = parted-own b (own_section b) len some whole (divides b some) in
    subst (λ t. AreParted b t len) (sym is)
    (⊎_elim
    (λ (short : b < 32).
    ⊎_elim
    (λ (none : len < 1). rw (section-none b len (omega (arith, none))) own)
    (λ (full : 1 ≤ len). rw (section-short b len short full) (parted-all b len some full whole))
    (cases_lt len 1))
    (λ (long : 32 ≤ b). rw (section-long b len long) own)
    (cases_lt b 32))

pub AreSections-made : (b s n : ℕ) → 1 ≤ b → s ≡ section_of b (n * b) → AreSections b s (n * b)
AreSections-made b s n some is = record { some = some; section_is = is; whole = mul-mod_left n b }

-- the sums of longer lists, if a section keeps its length
grown-own : (b s t len : ℕ) (ns ss zs : List ℕ) (l : ℕ) → s ≡ t → AreParted b t len → AreSums s ns ss → length ns ≤ len → len ≤ most_bins → l ≡ length ss → zs ≡ take (len / t) ss ++ replicate (len / t - l) 0
    → AreSums t (ns ++ replicate (len - length ns) 0) zs
grown-own b s t len ns ss zs l same p h le few l_is is =
    let own : AreSums t ns ss = subst (λ m. AreSums m ns ss) same h in
    let n = len / t in
    let at : length ns ≤ n * t = omega (arith, p.all, le) in
    let sums : zs ≡ ss ++ replicate (n - length ss) 0 = sums_grown t ns ss zs n l own at l_is is in
    rw sums (subst (λ m. AreSums t (ns ++ replicate (m - length ns) 0) (ss ++ replicate (n - length ss) 0)) p.all (AreSums-grow t ns ss n own at (omega (arith, p.all, few))))

div-itself : (n : ℕ) → 1 ≤ n → n / n ≡ 1
div-itself n some = ap (λ m. m / n) (let e : n ≡ 1 * n = omega arith in e) ∙ mul-div_cancel 1 {n = n} some

-- one section, which grew
grown-short : (len : ℕ) (ns ss zs : List ℕ) (l : ℕ) → 0 < length ns → AreSums (length ns) ns ss → length ns ≤ len → len ≤ most_bins → l ≡ length ss → zs ≡ take (len / len) ss ++ replicate (len / len - l) 0
    → AreSums len (ns ++ replicate (len - length ns) 0) zs
grown-short len ns ss zs l full h le few l_is is =
    let n = length ns in
    let one : length ss ≡ 1 = sym (ap (λ m. m / n) h.whole ∙ mul-div_cancel (length ss) {n = n} full) ∙ div-itself n full in
    let number : len / len ≡ 1 = div-itself len (omega (arith, full, le)) in
    let front : take (len / len) ss ≡ ss = take_all (len / len) ss (omega (arith, number, one)) in
    let none : len / len - l ≡ 0 = omega (arith, number, one, l_is) in
    let sums : zs ≡ ss = is ∙ ap (λ x. x ++ replicate (len / len - l) 0) front ∙ ap (λ k. ss ++ replicate k 0) none ∙ append-nil ss in
    let size : length (ns ++ replicate (len - n) 0) ≡ len = simp (length-append, length-replicate) (omega (arith, le)) in
    rw sums (record {
      some = omega (arith, full, le);
      few = rw size few;
      whole = rw size (omega (arith, ap (λ m. m * len) one));
      each = λ k k_in.
          let first : k ≡ 0 = omega (arith, k_in, one) in
          let begin : sum_below ns (k * len) ≡ sum_below ns (0 * n) = ap (sum_below ns) (let e : k * len ≡ 0 * n = omega (arith, ap (λ m. m * len) first) in e) in
          let same : get_or ss k 0 ≡ get_or ss 0 0 = ap (λ m. get_or ss m 0) first in
          let end : (k + 1) * len ≡ len = omega (arith, ap (λ m. (m + 1) * len) first) in
          rw (sum_below-zeros ns (len - n) (k * len), sum_below-zeros ns (len - n) ((k + 1) * len))
          (omega (arith, begin, same, h.each 0 (omega (arith, one)), sum_below_all ns ((k + 1) * len) (omega (arith, end, le)), sum_below_all ns ((0 + 1) * n) (omega arith)));
      fits = All-append (λ m. m ≤ 18446744073709551615) ns (replicate (len - n) 0) h.fits (All-replicate (λ m. m ≤ 18446744073709551615) (len - n) 0 (omega arith));
    })

-- the sums that a call resized
pub AreSums-regrown : (b s t len : ℕ) (ns ss zs : List ℕ) (l : ℕ) → AreSections b s (length ns) → AreSums s ns ss → t ≡ section_of b len → len % b ≡ 0 → length ns ≤ len → len ≤ most_bins → l ≡ length ss → zs ≡ take (len / t) ss ++ replicate (len / t - l) 0
    → AreSums t (ns ++ replicate (len - length ns) 0) zs
AreSums-regrown b s t len ns ss zs l old h t_is whole le few l_is is =
    let p = AreParted-of b t len old.some whole t_is in
    ⊎_elim
    (λ (short : b < 32).
    ⊎_elim
    (λ (none : length ns < 1).
    let empty : length ss ≡ 0 = omega (arith, mul-le-mul_left (length ss) h.some, h.whole, none) in
    let fresh : AreSums t ns ss = record { some = p.some; few = h.few; whole = omega (arith, none, ap (λ m. m * t) empty); each = λ k lt. absurd (omega (arith, lt, empty)); fits = h.fits } in
    grown-own b t t len ns ss zs l refl p fresh le few l_is is)
    (λ (full : 1 ≤ length ns).
    let s_is : s ≡ length ns = old.section_is ∙ section-short b (length ns) short full in
    let t_len : t ≡ len = t_is ∙ section-short b len short (omega (arith, full, le)) in
    subst (λ m. AreSums m (ns ++ replicate (len - length ns) 0) zs) (sym t_len)
    (grown-short len ns ss zs l full (subst (λ m. AreSums m ns ss) s_is h) le few l_is (is ∙ ap (λ m. take (len / m) ss ++ replicate (len / m - l) 0) t_len)))
    (cases_lt (length ns) 1))
    (λ (long : 32 ≤ b). grown-own b s t len ns ss zs l (old.section_is ∙ section-long b (length ns) long ∙ sym (section-long b len long) ∙ sym t_is) p h le few l_is is)
    (cases_lt b 32)
