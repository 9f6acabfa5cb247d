-- Cells without samples, in a run.
use Rattle.std.proofs.Common.{◌≡◌, ℕ, ◌+◌, ◌-◌, ◌*◌, ◌≤◌, ◌<◌, Bool, true, false, not, cond, List, [], ◌∷◌, length, get_or, reverse, arith, refl, sym, ap, ◌∙◌, inl, inr}
use Rattle.std.specs.List.{sum_by, suffix_len}
use Rattle.std.proofs.lemmas.Bool.{or_cases, and_parts, ltb-true, cases_lt, true≢false}
use Rattle.std.proofs.lemmas.List.{get_or-reverse, length-take, length-drop}
use Rattle.std.proofs.lemmas.List.Sums.{sum_by-cons, prefix_len-le-length, passes_at_first, prefix_len_passes}
use Rattle.hdr_verdict.specs.declared.rate.Rate.{Rate}
use Rattle.hdr_verdict.specs.declared.runs.Run.{Run}
use Rattle.hdr_verdict.specs.Rates.{together}
use Rattle.hdr_verdict.specs.Missing.{is_empty, empty_time, is_gap, first_empty, end_of_empty, cells_of, no_rate, IsWithin}

-- the time of a cell without samples
abbrev time_of : Rate → ℕ
time_of r = cond (is_empty r) r.time 0

none-empty : (cells : List Rate) → length cells ≤ first_empty cells → sum_by time_of cells ≡ 0
none-empty [] h = refl
none-empty (r ∷ rs) h = by_cases (is_empty r) refl (none-empty rs)
  where
    by_cases : (test : Bool) → is_empty r ≡ test → (length rs ≤ first_empty rs → sum_by time_of rs ≡ 0) → sum_by time_of (r ∷ rs) ≡ 0
    by_cases true e rest =
        let first : first_empty (r ∷ rs) ≡ 0 = ap (λ t. cond (not t) (1 + first_empty rs) 0) e in
        absurd (omega (arith, first))
    by_cases false e rest =
        let first : first_empty (r ∷ rs) ≡ 1 + first_empty rs = ap (λ t. cond (not t) (1 + first_empty rs) 0) e in
        let time : time_of r ≡ 0 = ap (λ t. cond t r.time 0) e in
        omega (arith, sum_by-cons time_of r rs, time, rest (omega (arith, first)))

-- a cell without samples comes before the end of the last one
first-before-end : (cells : List Rate) → first_empty cells < length cells → first_empty cells < end_of_empty cells
first-before-end cells h = elim (cases_lt k (end_of_empty cells)) [
  | inl before ↦ before
  | inr behind ↦
      (let back : length cells - 1 - k < suffix_len has_some cells = omega arith in
      let passes : has_some (get_or (reverse cells) (length cells - 1 - k) no_rate) ≡ true = prefix_len_passes has_some (reverse cells) (length cells - 1 - k) no_rate back in
      let same : get_or (reverse cells) (length cells - 1 - k) no_rate ≡ get_or cells (length cells - 1 - (length cells - 1 - k)) no_rate = get_or-reverse cells (length cells - 1 - k) no_rate (omega arith) in
      let index : length cells - 1 - (length cells - 1 - k) ≡ k = omega arith in
      let at : has_some (get_or cells k no_rate) ≡ true = ap (λ i. has_some (get_or cells i no_rate)) (sym index) ∙ ap has_some (sym same) ∙ passes in
      let none : is_empty (get_or cells k no_rate) ≡ true = passes_at_first is_empty cells no_rate h in
      absurd (true≢false (sym at ∙ ap not none)))
]
  where
    k : ℕ
    k = first_empty cells

    has_some : Rate → Bool
    has_some r = not (is_empty r)

some-empty : (cells : List Rate) → is_gap cells ≡ true → 0 < empty_time cells
some-empty cells gap = elim (or_cases _ _ gap) [
  | inl most ↦ (let more : (together cells).time < 2 * empty_time cells = ltb-true (together cells).time (2 * empty_time cells) most in omega arith)
  | inr few ↦ ltb-true 0 (empty_time cells) (and_parts _ _ few).1
]

-- a gap has a cell without samples
pub gap-within : (cells : List Rate) → is_gap cells ≡ true → first_empty cells < end_of_empty cells
gap-within cells gap = elim (cases_lt (first_empty cells) (length cells)) [
  | inl some ↦ first-before-end cells some
  | inr none ↦ (let zero_time = none-empty cells none in absurd (omega (arith, some-empty cells gap, zero_time)))
]

pub first-at-most : (cells : List Rate) → first_empty cells ≤ length cells
first-at-most cells = prefix_len-le-length (λ r. not (is_empty r)) cells

-- the cells of a run are as many
pub length-cells : (rates : List Rate) (run : Run) → IsWithin (length rates) run → length (cells_of rates run) ≡ run.end - run.start
length-cells rates run within = simp (length-take, length-drop) (omega arith)
