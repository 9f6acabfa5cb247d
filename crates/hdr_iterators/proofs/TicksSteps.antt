-- The steps of the picker of ticks.
use Rattle.std.proofs.Common.{◌≡◌, ℕ, ◌+◌, ◌^◌, ◌<◌, ◌≤◌, true, false, [], ◌∷◌, get_or, drop, Option, Some, None, sym, refl, ap, ◌∙◌, subst, inr, arith}
use Rattle.std.proofs.lemmas.Bool.{false≢true}
use Rattle.hdr_iterators.specs.Seen.{Seen, bins_in, running}
use Rattle.hdr_iterators.specs.Picks.{NoneBefore, bin_after}
use Rattle.hdr_iterators.specs.Places.{quantile_picks, tick_pick, tick_of, is_within, all_of_them}
use Rattle.hdr_iterators.specs.Ticks.{TickStep}
use Rattle.hdr_iterators.proofs.TicksLists.{more_given, next_open, closes, total_some}

-- the next tick is within the running count
pub advances : (h : Seen) (t k i : ℕ) (last : Option ℕ) → TickStep h t k false false last → i < bins_in h → h.total < 2 ^ 64 → 0 < get_or h.numbers i 0 → running h i < h.total → is_within t (running h i) h.total k ≡ true → NoneBefore i (drop k (quantile_picks h t))
    → TickStep h t (k + 1) false false (Some i) × (drop k (quantile_picks h t) ≡ tick_pick i (tick_of t k) ∷ drop (k + 1) (quantile_picks h t))
advances h t k i last w l fit m o e a =
    let given_more = more_given h t i k w.some l fit m o e in (
      record { plain = w.plain; some = w.some; going = λ _. (given_more, inr o); whole = λ no. absurd (false≢true no) },
      next_open h t i k l m o given_more a,
    )

-- the running count is the total
pub begins_to_close : (h : Seen) (t k i : ℕ) (last : Option ℕ) → TickStep h t k false false last → i < bins_in h → 0 < get_or h.numbers i 0 → h.total ≤ running h i → NoneBefore i (drop k (quantile_picks h t))
    → TickStep h t k true false (Some i) × (drop k (quantile_picks h t) ≡ tick_pick i (tick_of t k) ∷ drop (k + 1) (quantile_picks h t))
begins_to_close h t k i last w l m f a =
    let going = w.going refl in
    let both = closes h t i k last l (total_some h i w.plain l m) m f going.0 going.1 a in (
      record { plain = w.plain; some = w.some; going = λ no. absurd (false≢true (sym no)); whole = λ _ _. (both.1, m) },
      both.0 ∙ ap (λ ps. tick_pick i (tick_of t k) ∷ ps) (sym both.1),
    )

-- 1 comes
pub ends : (h : Seen) (t k i : ℕ) (last : Option ℕ) → TickStep h t k true false last → bin_after last ≤ i + 1 → NoneBefore i (drop (k + 1) (quantile_picks h t))
    → TickStep h t k true true (Some i) × (drop (k + 1) (quantile_picks h t) ≡ tick_pick i all_of_them ∷ [])
ends h t k i None w l a = absurd (w.whole refl refl)
ends h t k i (Some b) w l a =
    let rest = (w.whole refl refl).0 in
    let at : NoneBefore i (tick_pick b all_of_them ∷ []) = subst (NoneBefore i) rest a in
    let here : b ≡ i = omega (arith, l, at.0) in (
      record { plain = w.plain; some = w.some; going = λ no. absurd (false≢true (sym no)); whole = λ _ no. absurd (false≢true (sym no)) },
      rest ∙ ap (λ j. tick_pick j all_of_them ∷ []) here,
    )
