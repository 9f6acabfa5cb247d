-- The number of histograms that are finer than their sum, and the numbers of intervals that are counted.
use Rattle.std.proofs.Common.{◌≡◌, ℕ, ◌+◌, Bool, true, false, ◌&&◌, cond, leb, List, [], ◌∷◌, ◌++◌, length, map, refl, ap, arith}
use Rattle.std.specs.List.{All}
use Rattle.std.proofs.lemmas.Bool.Decides.{nat_tests}
use Rattle.std.proofs.lemmas.List.Elements.{All-head, All-tail}
use Rattle.hdr_base.specs.Classes.{Resolution, IsFiner}
use Rattle.hdr_model.specs.Plain.{Plain, resolution}
use Rattle.hdr_gather.specs.Counts.{one_if_finer, finer_of, AreCounts, CountsMore}
use Rattle.hdr_gather.specs.declared.sum.Counts.{Counts}

abbrev mark : Bool → ℕ
mark b = cond b 0 1

-- the classes of a sum lie in those of a histogram
pub none_finer : (g : Resolution) (h : Plain) → IsFiner g (resolution h) → one_if_finer g h ≡ 0
none_finer g h f =
    let unit : leb g.unit (resolution h).unit ≡ true = (let le = f.unit in grind (arith, nat_tests)) in
    let digits : leb (resolution h).digits g.digits ≡ true = (let le = f.digits in grind (arith, nat_tests)) in
    rw (unit, digits) refl

pub one_finer : (g : Resolution) (h : Plain) → (IsFiner g (resolution h) → ⊥) → one_if_finer g h ≡ 1
one_finer g h not = step (leb g.unit (resolution h).unit) (leb (resolution h).digits g.digits) refl refl
  where
    step : (a b : Bool) → leb g.unit (resolution h).unit ≡ a → leb (resolution h).digits g.digits ≡ b → mark (a && b) ≡ 1
    step true true unit digits =
        absurd (not (record { unit = grind (arith, nat_tests); digits = grind (arith, nat_tests) }))
    step true false unit digits = refl
    step false true unit digits = refl
    step false false unit digits = refl

pub finer_push : (g : Resolution) (hs : List Plain) (h : Plain) → finer_of g (hs ++ h ∷ []) ≡ finer_of g hs + one_if_finer g h
finer_push g [] h = omega arith
finer_push g (k ∷ hs) h = omega (arith, finer_push g hs h)

-- all are finer than a sum that is coarser than one that all are as fine as
pub all_finer : (f g : Resolution) (hs : List Plain) → All (λ h. IsFiner (resolution h) f) hs → (IsFiner g f → ⊥) → finer_of g hs ≡ length hs
all_finer f g [] nested not = refl
all_finer f g (h ∷ hs) nested not =
    let fine = All-head (λ k. IsFiner (resolution k) f) h hs nested in
    let here : one_if_finer g h ≡ 1 = one_finer g h (λ finer. not (record { unit = omega (arith, finer.unit, fine.unit); digits = omega (arith, finer.digits, fine.digits) })) in
    omega (arith, here, all_finer f g hs (All-tail (λ k. IsFiner (resolution k) f) h hs nested) not)

abbrev pub growing : Plain → Plain
growing h = record h { auto_resize = true }

-- growing does not change the classes
pub finer_growing : (g : Resolution) (hs : List Plain) → finer_of g (map growing hs) ≡ finer_of g hs
finer_growing g [] = refl
finer_growing g (h ∷ hs) = ap (λ n. one_if_finer g h + n) (finer_growing g hs)

-- no interval more
pub counts_none : (c : Counts) → CountsMore c 0 0 c
counts_none c = λ n m are. (omega (arith, are.0), omega (arith, are.1))

-- the intervals of a sum, after others
pub counts_sum : (old sum new : Counts) (more finer : ℕ) → AreCounts sum more finer → AreCounts new (old.intervals + sum.intervals) (old.finer + sum.finer) → CountsMore old more finer new
counts_sum old sum new more finer s t = λ n m are. (omega (arith, are.0, s.0, t.0), omega (arith, are.1, s.1, t.1))

pub counts_then : (a b c : Counts) (i j f g : ℕ) → CountsMore a i f b → CountsMore b j g c → CountsMore a (i + j) (f + g) c
counts_then a b c i j f g s t = λ n m are. let all = t (n + i) (m + f) (s n m are) in (omega (arith, all.0), omega (arith, all.1))

-- all intervals from the first on
pub counts_all : (old new : Counts) (more finer : ℕ) → AreCounts old 0 0 → CountsMore old more finer new → AreCounts new more finer
counts_all old new more finer none s = let all = s 0 0 none in (omega (arith, all.0), omega (arith, all.1))
