-- How many samples are above a value.
use Rattle.std.proofs.Common.{◌≡◌, ℕ, ◌+◌, ◌-◌, ◌^◌, ◌<◌, ◌≤◌, ◌⊎◌, Bool, true, false, cond, leb, ltb, List, [], ◌∷◌, length, map, get_or, count_by, min, max, refl, sym, ap, subst, ◌∙◌, arith, inl, inr}
use Rattle.std.specs.Prelude.{◌&&◌}
use Rattle.std.specs.List.{All}
use Rattle.std.proofs.lemmas.Bool.Decides.{nat_tests}
use Rattle.std.proofs.lemmas.Bool.{cases_lt}
use Rattle.std.proofs.lemmas.List.Sums.{sum_by-cons}
use Rattle.std.proofs.lemmas.List.Elements.{All-head, All-tail}
use Rattle.hdr_base.specs.Classes.{Resolution, top_of, lowest_of, IsFiner, HasScale, resolution_of}
use Rattle.hdr_base.proofs.ClassesLaws.{lowest-le, top-of-value, width-pos}
use Rattle.hdr_base.proofs.ClassesScale.{class-end}
use Rattle.hdr_base.proofs.ClassesDigits.{digits-pos-of, digits-mono}
use Rattle.hdr_base.proofs.ClassesReach.{reach-fits}
use Rattle.hdr_base.proofs.ClassesIntervals.{inside-class, equivalent-bin, bin-equivalent}
use Rattle.hdr_base.proofs.ClassesFiner.{finer-bin}
use Rattle.hdr_model.specs.Plain.{Plain, IsPlain, resolution, reach}
use Rattle.hdr_model.proofs.PlainKept.{resolution-fits, resolution-digits}
use Rattle.hdr_model.specs.Statistics.{samples_between}
use Rattle.hdr_verdict.specs.declared.width.Width.{Width}
use Rattle.hdr_verdict.specs.Samples.{Rounds, classes_of}
use Rattle.hdr_verdict.specs.Tails.{count_above}

-- a sample ends above v if and only if it is at least the least value of the class of v + 1
ends-above : (g : Resolution) (v s : ℕ) → 0 < g.digits → lowest_of g (v + 1) ≤ s → v < top_of g s
ends-above g v s m le = elim (cases_lt s (v + 1)) [
  | inl lt ↦ omega (arith, (inside-class g (v + 1) s m le (omega (arith, top-of-value g (v + 1)))).top, top-of-value g (v + 1))
  | inr ge ↦ omega (arith, top-of-value g s)
]

lowest-own : (g : Resolution) (v : ℕ) → 0 < g.digits → lowest_of g (lowest_of g v) ≡ lowest_of g v
lowest-own g v m = (inside-class g v (lowest_of g v) m (omega arith) (omega (arith, lowest-le g v, top-of-value g v))).lowest

ends-within : (g : Resolution) (v s : ℕ) → 0 < g.digits → s < lowest_of g (v + 1) → top_of g s ≤ v
ends-within g v s m lt = elim (cases_lt (top_of g s) (lowest_of g (v + 1))) [
  | inl end ↦ omega (arith, end, lowest-le g (v + 1))
  | inr ge ↦ absurd (
      let first = lowest_of g (v + 1) in
      let same : lowest_of g first ≡ lowest_of g s = (inside-class g s first m (omega (arith, lowest-le g s, lt)) ge).lowest in
      omega (arith, same, lowest-own g (v + 1) m, lowest-le g s, lt))
]

-- the two tests of a sample are one
pub ends-same : (g : Resolution) (v s : ℕ) → 0 < g.digits → ltb v (top_of g s) ≡ leb (lowest_of g (v + 1)) s
ends-same g v s m = elim (cases_lt s (lowest_of g (v + 1))) [
  | inl lt ↦ (
      let within : top_of g s ≤ v = ends-within g v s m lt in
      let no : ltb v (top_of g s) ≡ false = grind (arith, nat_tests) in
      let not-from : leb (lowest_of g (v + 1)) s ≡ false = grind (arith, nat_tests) in
      no ∙ sym not-from)
  | inr ge ↦ (
      let over : v < top_of g s = ends-above g v s m ge in
      let yes : ltb v (top_of g s) ≡ true = grind (arith, nat_tests) in
      let from : leb (lowest_of g (v + 1)) s ≡ true = grind (arith, nat_tests) in
      yes ∙ sym from)
]

count-map : (p : ℕ → Bool) (f : ℕ → ℕ) (S : List ℕ) → count_by p (map f S) ≡ count_by (λ s. p (f s)) S
count-map p f [] = refl
count-map p f (x ∷ S) = sum_by-cons (λ y. cond (p y) 1 0) (f x) (map f S) ∙ ap (λ n. cond (p (f x)) 1 0 + n) (count-map p f S) ∙ sym (sum_by-cons (λ s. cond (p (f s)) 1 0) x S)

pub above-tops : (g : Resolution) (v : ℕ) (S : List ℕ) → count_above v (map (top_of g) S) ≡ count_by (λ s. ltb v (top_of g s)) S
unfolding count_above
above-tops g v S = count-map (ltb v) (top_of g) S

pub top-fits : (low sigfig s : ℕ) → HasScale low sigfig → s < 2 ^ 64 → top_of (resolution_of low sigfig) s < 2 ^ 64
unfolding top_of resolution_of
top-fits low sigfig s scale small =
    let fits : (resolution_of low sigfig).unit + (resolution_of low sigfig).digits ≤ 63 = scale.fits in
    omega (arith, class-end (resolution_of low sigfig) s small fits, width-pos (resolution_of low sigfig) s)

-- fewer digits of the same lowest value
scaled : (low same digits most : ℕ) → same ≡ low → digits ≤ most → HasScale low most → HasScale same digits
scaled low same digits most is le scale = subst (λ l. HasScale l digits) (sym is) (record {
  not_zero = scale.not_zero;
  digits = omega (arith, le, scale.digits);
  fits = omega (arith, digits-mono digits most le, scale.fits);
})

-- the joined width has a scale
pub joined-scale : (low sigfig other digits : ℕ) → HasScale low sigfig → HasScale other digits → HasScale (max low other) (min sigfig digits)
joined-scale low sigfig other digits one two = elim (cases_lt low other) [
  | inl lt ↦ scaled other (max low other) (min sigfig digits) digits (omega arith) (omega arith) two
  | inr ge ↦ scaled low (max low other) (min sigfig digits) sigfig (omega arith) (omega arith) one
]
