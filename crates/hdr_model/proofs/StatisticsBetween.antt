-- The samples from one class to another.
use Rattle.std.proofs.Common.{◌≡◌, ℕ, ◌+◌, ◌-◌, ◌^◌, ◌<◌, ◌≤◌, true, false, cond, leb, ltb, min, List, [], ◌∷◌, length, take, drop, sum, refl, ap, ◌∙◌, arith, inl, inr}
use Rattle.std.specs.Prelude.{◌&&◌}
use Rattle.std.specs.List.{slice_range}
use Rattle.std.proofs.lemmas.Bool.Decides.{nat_tests}
use Rattle.std.proofs.lemmas.Bool.{cases_lt}
use Rattle.std.proofs.lemmas.List.Sums.{sum_by-cons, sum_by-append, sum_by-take-drop, count_by-le-length}
use Rattle.std.proofs.lemmas.List.Folds.{drop_split}
use Rattle.hdr_base.specs.Classes.{Resolution, bin_of, lowest_of, top_of, width_of}
use Rattle.hdr_base.proofs.ClassesLaws.{bin-mono, bin-lowest, bin-top, same-bin, lowest-le, width-pos, top-of-value}
use Rattle.hdr_model.specs.Plain.{Plain, IsPlain, resolution, reach}
use Rattle.hdr_model.specs.Samples.{StandsFor}
use Rattle.hdr_model.specs.Statistics.{bin_or_last, sum_between, samples_between}
use Rattle.hdr_model.proofs.PlainKept.{resolution-digits, room-in}
use Rattle.hdr_model.proofs.QuantilesOrder.{in_first, running}

leb-yes : (a b : ℕ) → a ≤ b → leb a b ≡ true
leb-yes a b h = grind (arith, nat_tests)

leb-no : (a b : ℕ) → b < a → leb a b ≡ false
leb-no a b h = grind (arith, nat_tests)

ltb-yes : (a b : ℕ) → a < b → ltb a b ≡ true
ltb-yes a b h = grind (arith, nat_tests)

ltb-no : (a b : ℕ) → b ≤ a → ltb a b ≡ false
ltb-no a b h = grind (arith, nat_tests)

module _ (g : Resolution) (m : 0 < g.digits) where
  bin-of-lowest : (v : ℕ) → bin_of g (lowest_of g v) ≡ bin_of g v
  bin-of-lowest v = same-bin g v (lowest_of g v) m (omega arith) (omega (arith, width-pos g v))

  bin-of-top : (v : ℕ) → bin_of g (top_of g v) ≡ bin_of g v
  unfolding top_of
  bin-of-top v = same-bin g v (lowest_of g v + width_of g v - 1) m (omega (arith, width-pos g v)) (omega (arith, width-pos g v))

  -- a value is below the lowest of a class if and only if its class is an earlier one
  earlier : (v s : ℕ) → s < lowest_of g v → bin_of g s < bin_of g v
  earlier v s lt =
      elim (cases_lt (bin_of g s) (bin_of g v)) [
        | inl below ↦ below
        | inr ge ↦ (
            let same : bin_of g s ≡ bin_of g v = omega (arith, bin-mono g s (lowest_of g v) m (omega arith), bin-of-lowest v) in
            absurd (omega (arith, bin-lowest g s v m same, lowest-le g s))
            )
      ]

  not-earlier : (v s : ℕ) → lowest_of g v ≤ s → bin_of g v ≤ bin_of g s
  not-earlier v s le = omega (arith, bin-mono g (lowest_of g v) s m le, bin-of-lowest v)

  later : (v s : ℕ) → top_of g v < s → bin_of g v < bin_of g s
  later v s lt =
      elim (cases_lt (bin_of g v) (bin_of g s)) [
        | inl above ↦ above
        | inr le ↦ (
            let same : bin_of g s ≡ bin_of g v = omega (arith, bin-mono g (top_of g v) s m (omega arith), bin-of-top v) in
            absurd (omega (arith, bin-top g s v m same, top-of-value g s))
            )
      ]

  not-later : (v s : ℕ) → s ≤ top_of g v → bin_of g s ≤ bin_of g v
  not-later v s le = omega (arith, bin-mono g s (top_of g v) m le, bin-of-top v)

  one : (a b s : ℕ) → bin_of g a ≤ bin_of g b
      → cond {A = ℕ} (ltb (bin_of g s) (bin_of g b + 1)) 1 0 ≡ cond (ltb (bin_of g s) (bin_of g a)) 1 0 + cond (leb (lowest_of g a) s && leb s (top_of g b)) 1 0
  one a b s le =
      elim (cases_lt s (lowest_of g a)) [
        | inl below ↦ rw (leb-no (lowest_of g a) s below, ltb-yes (bin_of g s) (bin_of g a) (earlier a s below), ltb-yes (bin_of g s) (bin_of g b + 1) (omega (arith, earlier a s below))) (omega arith)
        | inr from ↦ elim (cases_lt (top_of g b) s) [
          | inl past ↦ rw (leb-yes (lowest_of g a) s from, leb-no s (top_of g b) past, ltb-no (bin_of g s) (bin_of g a) (not-earlier a s from), ltb-no (bin_of g s) (bin_of g b + 1) (omega (arith, later b s past))) (omega arith)
          | inr to ↦ rw (leb-yes (lowest_of g a) s from, leb-yes s (top_of g b) to, ltb-no (bin_of g s) (bin_of g a) (not-earlier a s from), ltb-yes (bin_of g s) (bin_of g b + 1) (omega (arith, not-later b s to))) (omega arith)
        ]
      ]

  -- the samples of the first classes up to one, by those of the classes before another and those between
  pub all : (a b : ℕ) (S : List ℕ) → bin_of g a ≤ bin_of g b
      → in_first g (bin_of g b + 1) S ≡ in_first g (bin_of g a) S + samples_between (lowest_of g a) (top_of g b) S
  all a b [] le = refl
  all a b (s ∷ S) le =
      omega (
        arith,
        sum_by-cons (λ s. cond (ltb (bin_of g s) (bin_of g b + 1)) 1 0) s S,
        sum_by-cons (λ s. cond (ltb (bin_of g s) (bin_of g a)) 1 0) s S,
        sum_by-cons (λ s. cond (leb (lowest_of g a) s && leb s (top_of g b)) 1 0) s S,
        one a b s le,
        all a b S le,
      )

-- the sum of a part of a list
pub part-sum : (xs : List ℕ) (a e : ℕ) → a ≤ e → sum (take a xs) + sum (slice_range xs a e) ≡ sum (take e xs)
part-sum xs a e le =
    let split : sum (drop a xs) ≡ sum (slice_range xs a e) + sum (drop e xs) = ap sum (drop_split xs a e le) ∙ sum_by-append (λ x. x) (slice_range xs a e) (drop e xs) in
    omega (arith, sum_by-take-drop (λ x. x) xs a, sum_by-take-drop (λ x. x) xs e)

pub held-is : (greatest : ℕ) (h : Plain) (v : ℕ) → IsPlain greatest h → v ≤ reach h → bin_or_last h v ≡ bin_of (resolution h) v
unfolding bin_or_last
held-is greatest h v p le = omega (arith, room-in greatest h v p le)

pub between-samples : (greatest : ℕ) (h : Plain) (a b : ℕ) (S : List ℕ) → IsPlain greatest h → StandsFor h S → a ≤ b → b ≤ reach h
    → min (sum_between h a b) (2 ^ 64 - 1) ≡ samples_between (lowest_of (resolution h) a) (top_of (resolution h) b) S
between-samples greatest h a b S p stands le within =
    let g = resolution h in
    let m = resolution-digits greatest h p in
    let first : bin_or_last h a ≡ bin_of g a = held-is greatest h a p (omega arith) in
    let last : bin_or_last h b ≡ bin_of g b = held-is greatest h b p within in
    let order : bin_of g a ≤ bin_of g b = bin-mono g a b m le in
    let room : bin_of g b < length h.counts = room-in greatest h b p within in
    let part : sum_between h a b ≡ sum (slice_range h.counts (bin_of g a) (bin_of g b + 1)) = rw (first, last) refl in
    omega (
      arith,
      part,
      part-sum h.counts (bin_of g a) (bin_of g b + 1) (omega arith),
      running h S (bin_of g a) stands (omega arith),
      running h S (bin_of g b + 1) stands (omega arith),
      all g m a b S order,
      count_by-le-length (λ s. leb (lowest_of g a) s && leb s (top_of g b)) S,
      stands.total,
      p.total_fits,
    )

pub held-order : (greatest : ℕ) (h : Plain) (a b : ℕ) → IsPlain greatest h → a ≤ b → b ≤ reach h → bin_or_last h a ≤ bin_or_last h b
held-order greatest h a b p le within =
    omega (arith, held-is greatest h a p (omega arith), held-is greatest h b p within, bin-mono (resolution h) a b (resolution-digits greatest h p) le)
