-- The digits and the quantiles of arguments, and the empty histogram of these digits.
use Rattle.hdr_tool.proofs.Common.{◌≡◌, ℕ, ◌-◌, ◌^◌, ◌<◌, ◌≤◌, ◌+◌, ◌==◌, zero, suc, Bool, true, false, cond, leb, List, [], ◌∷◌, Option, Some, None, IfSome, refl, arith, lit<, lit≤, codes, filter_map, AllByRecursion, bytes_eq, leb-true, Ratio, IsPlain, resolution, ◌>>=◌, sigfig_of, are_fractions, Task, Report, Log, Merge, figures_of, log_of, no_options, options_of, greatest_into}
use Rattle.std.specs.List.{cons_option}
use Rattle.hdr_base.specs.Classes.{least_from, unit_of, digits_of, resolution_of}
use Rattle.hdr_log.specs.Parts.{split_at_byte, number_of}
use Rattle.hdr_model.specs.CallErrors.{IsBounds}
use Rattle.hdr_model.specs.Plain.{empty_plain}
use Rattle.hdr_tool.specs.Arguments.{fraction_of, merge_of, task_of}
use Rattle.hdr_tool.specs.declared.arguments.CounterType.{CounterType}
use Rattle.hdr_tool.specs.declared.arguments.CounterType.TheVariants as counter
use Rattle.hdr_tool.proofs.CommandsParsed.{one_of, tail, any, if_both, mapped}

-- ---- the number of digits

abbrev Few : ℕ → Type 0
Few n = n ≤ 5

sigfig_few : (word : List ℕ) → IfSome (sigfig_of word) Few
sigfig_few [] = tt
sigfig_few (digit ∷ []) = if_both Few (leb 48 digit) (leb digit 53) (digit - 48) (λ e. omega (arith, leb-true digit 53 e))
sigfig_few (digit ∷ more ∷ rest) = tt

-- ---- the quantiles

abbrev pub HasDen : Ratio → Type 0
HasDen q = 0 < q.den

positive : (n : ℕ) → (n == 0) ≡ false → 0 < n
positive n h = grind arith

unless_zero : (b : Bool) (q : Ratio) → (b ≡ false → HasDen q) → IfSome (cond b None (Some q)) HasDen
unless_zero true q h = tt
unless_zero false q h = h refl

fraction_has_den : (word : List ℕ) → IfSome (fraction_of word) HasDen
unfolding fraction_of
fraction_has_den word =
    any HasDen (split_at_byte 47 word) _ (λ sides. any HasDen (number_of sides.0) _ (λ num. any HasDen (number_of sides.1) _ (λ den. unless_zero (den == 0) _ (positive den))))

onto : (o : Option Ratio) (qs : List Ratio) → IfSome o HasDen → AllByRecursion HasDen qs → AllByRecursion HasDen (cons_option o qs)
onto None qs one all = all
onto (Some q) qs one all = (one, all)

fractions_have_den : (words : List (List ℕ)) → AllByRecursion HasDen (filter_map fraction_of words)
fractions_have_den [] = tt
fractions_have_den (word ∷ words) = onto (fraction_of word) (filter_map fraction_of words) (fraction_has_den word) (fractions_have_den words)

-- ---- a task

abbrev pub AreFigures : ℕ × List Ratio → Type 0
AreFigures f = (f.0 ≤ 5) × AllByRecursion HasDen f.1

abbrev pub HasFigures : Task → Type 0
HasFigures (Report n quantiles) = AreFigures (n, quantiles)
HasFigures (Log n) = n ≤ 5
HasFigures (Merge options n quantiles) = AreFigures (n, quantiles)

figures_are : (words : List (List ℕ)) → IfSome (figures_of words) AreFigures
figures_are [] = tt
figures_are (digit ∷ []) = tt
figures_are (digit ∷ q ∷ qs) =
    tail Few AreFigures (sigfig_of digit) (λ n. cond (are_fractions (q ∷ qs)) (Some (n, filter_map fraction_of (q ∷ qs))) None) (sigfig_few digit)
    (λ n few. one_of AreFigures (are_fractions (q ∷ qs)) (Some (n, filter_map fraction_of (q ∷ qs))) None (few, fractions_have_den (q ∷ qs)) tt)

log_figures : (words : List (List ℕ)) → IfSome (log_of words) HasFigures
log_figures [] = tt
log_figures (digit ∷ []) = mapped Few HasFigures Log (sigfig_of digit) (sigfig_few digit) (λ n few. few)
log_figures (digit ∷ more ∷ rest) = tt

merge_figures : (words : List (List ℕ)) → IfSome (merge_of words) HasFigures
unfolding merge_of
merge_figures words =
    any HasFigures (options_of no_options words) (λ given. figures_of given.1 >>= λ f. Some (Merge given.0 f.0 f.1)) (λ given.
    tail AreFigures HasFigures (figures_of given.1) (λ f. Some (Merge given.0 f.0 f.1)) (figures_are given.1) (λ f are. are))

pub task_figures : (words : List (List ℕ)) → IfSome (task_of words) HasFigures
unfolding task_of
task_figures [] = tt
task_figures (name ∷ words) =
    one_of HasFigures (bytes_eq name (codes "report")) _ _ (mapped AreFigures HasFigures (λ f. Report f.0 f.1) (figures_of words) (figures_are words) (λ f are. are))
    (one_of HasFigures (bytes_eq name (codes "log")) _ _ (log_figures words) (one_of HasFigures (bytes_eq name (codes "merge")) _ None (merge_figures words) tt))

-- ---- the counter type

pub some_greatest : (into : Option CounterType) → 1 ≤ greatest_into into
some_greatest None = lit≤ tt
some_greatest (Some counter.U8) = lit≤ tt
some_greatest (Some counter.U16) = lit≤ tt
some_greatest (Some counter.U32) = lit≤ tt
some_greatest (Some counter.U64) = lit≤ tt

-- ---- the histogram before the first line

narrow : (n : ℕ) → n ≤ 5 → unit_of 1 + digits_of n ≤ 63
unfolding unit_of digits_of least_from
narrow zero h = leb-true (unit_of 1 + digits_of 0) 63 refl
narrow (suc zero) h = leb-true (unit_of 1 + digits_of 1) 63 refl
narrow (suc (suc zero)) h = leb-true (unit_of 1 + digits_of 2) 63 refl
narrow (suc (suc (suc zero))) h = leb-true (unit_of 1 + digits_of 3) 63 refl
narrow (suc (suc (suc (suc zero)))) h = leb-true (unit_of 1 + digits_of 4) 63 refl
narrow (suc (suc (suc (suc (suc zero))))) h = leb-true (unit_of 1 + digits_of 5) 63 refl
narrow (suc (suc (suc (suc (suc (suc n)))))) h = absurd (omega (arith, h))

-- what the core's law on new histograms says
abbrev pub NewIsPlain : Type 0
NewIsPlain = (greatest low high sigfig : ℕ) (auto_resize : Bool) → IsBounds low high sigfig → high < 2 ^ 64 → IsPlain greatest (empty_plain low high sigfig auto_resize)

pub empty_is_plain : NewIsPlain → (greatest n : ℕ) → n ≤ 5 → IsPlain greatest (empty_plain 1 2 n true)
empty_is_plain new greatest n few =
    let bounds : IsBounds 1 2 n = record { low_fits = lit< tt; wide = omega arith; scale = record { not_zero = omega arith; digits = few; fits = narrow n few } } in
    new greatest 1 2 n true bounds (lit< tt)

pub empty_resolution : (n : ℕ) → resolution (empty_plain 1 2 n true) ≡ resolution_of 1 n
unfolding empty_plain
empty_resolution n = refl

pub empty_low : (n : ℕ) → (empty_plain 1 2 n true).low ≡ 1
unfolding empty_plain
empty_low n = refl

pub empty_sigfig : (n : ℕ) → (empty_plain 1 2 n true).sigfig ≡ n
unfolding empty_plain
empty_sigfig n = refl

pub empty_high : (n : ℕ) → (empty_plain 1 2 n true).high ≡ 2
unfolding empty_plain
empty_high n = refl
