-- A histogram that has V2 bytes has no count that is too great for them.
use Rattle.hdr_tool.proofs.Common.{◌≡◌, ℕ, zero, suc, ◌+◌, ◌*◌, ◌%◌, ◌^◌, ◌<◌, ◌≤◌, nat_lt, Bool, true, false, List, [], ◌∷◌, ◌++◌, Option, Some, None, unwrap_or, inl, inr, get_or, replicate, flat_map, refl, sym, ap, ◌∙◌, subst, arith, lit<, pow-add, nat_le, All, MatchBool, AllByRecursion, pow-le-pow_right, le-leb, lt-leb, Plain, IsPlain, written_counts, IsV2, HasTooGreatCount}
use Rattle.std.proofs.lemmas.Bool.{cases_lt, true≢false}
use Rattle.std.proofs.lemmas.Grind.{get_or_default_zero}
use Rattle.std.proofs.lemmas.List.{get_or-take}
use Rattle.std.proofs.lemmas.List.Elements.{All-weaker}
use Rattle.std.proofs.lemmas.List.Folds.{list_any-from_Any, list_any_at, list_any_none}
use Rattle.hdrhistogram.specs.Varint.{IsSpelling, number_of_spelling, Spells}
use Rattle.hdrhistogram.specs.Payload.{Part, run, bin, bins_of, AreSpelt}
use Rattle.hdrhistogram.specs.V2.{written_bins}
use Rattle.hdr_model.specs.Marks.{IsAbove}
use Rattle.hdr_tool.specs.Program.{has_too_great_count}

abbrev Small : ℕ → Type 0
Small n = n < 2 ^ 63

-- nine bytes encode a number of 64 bits
no_number : (left : ℕ) → number_of_spelling left [] ≡ 0
unfolding number_of_spelling
no_number zero = refl
no_number (suc left) = refl

more_fits : (b : Bool) (left x : ℕ) (xs : List ℕ) → MatchBool b (xs ≡ []) (IsSpelling left xs) → (IsSpelling left xs → number_of_spelling left xs < 2 ^ (7 * left + 8)) → x % 128 + 128 * number_of_spelling left xs < 2 ^ (7 * suc left + 8)
more_fits b left x xs s h =
    let e : 7 * suc left + 8 ≡ 7 + (7 * left + 8) = omega arith in
    let power : 2 ^ (7 * suc left + 8) ≡ 128 * 2 ^ (7 * left + 8) = ap (λ k. 2 ^ k) e ∙ pow-add 2 7 (7 * left + 8) in
    omega (arith, power, rest_fits b left xs s h)
  where
    rest_fits : (b : Bool) (left : ℕ) (xs : List ℕ) → MatchBool b (xs ≡ []) (IsSpelling left xs) → (IsSpelling left xs → number_of_spelling left xs < 2 ^ (7 * left + 8)) → number_of_spelling left xs < 2 ^ (7 * left + 8)
    rest_fits true left xs s h =
        let within : 0 ≤ 7 * left + 8 = omega arith in
        let one : 2 ^ 0 ≤ 2 ^ (7 * left + 8) = pow-le-pow_right (lit< tt) within in
        omega (arith, one, ap (number_of_spelling left) s ∙ no_number left)
    rest_fits false left xs s h = h s

number_fits : (left : ℕ) (xs : List ℕ) → AllByRecursion (λ b. b < 256) xs → IsSpelling left xs → number_of_spelling left xs < 2 ^ (7 * left + 8)
unfolding IsSpelling number_of_spelling
number_fits left [] b s = absurd s
number_fits zero (x ∷ xs) b s = b.0
number_fits (suc left) (x ∷ xs) b s = more_fits (nat_lt x 128) left x xs s (λ t. number_fits left xs b.1 t)

spelt_number : (text : List ℕ) (n : ℕ) → Spells text n → n < 2 ^ 64
spelt_number text n s = subst (λ k. k < 2 ^ 64) (sym s.value) (number_fits 8 text s.bytes s.whole)

-- counts that have bytes are small
zeros : (z : ℕ) (ys : List ℕ) → AllByRecursion Small ys → AllByRecursion Small (replicate z 0 ++ ys)
zeros zero ys h = h
zeros (suc z) ys h = (lit< tt, zeros z ys h)

spelt_small : (parts : List Part) (text : List ℕ) → AreSpelt parts text → AllByRecursion Small (flat_map bins_of parts)
spelt_small [] text s = tt
spelt_small (run z ∷ parts) text (f, r, e, s, more) = zeros z (flat_map bins_of parts) (spelt_small parts r more)
spelt_small (bin c ∷ parts) text (f, r, e, s, more) = let h : 2 * c < 2 ^ 64 = spelt_number f (2 * c) s.spells in (omega (arith, h), spelt_small parts r more)

at_any : (xs : List ℕ) (k : ℕ) → AllByRecursion Small xs → get_or xs k 0 < 2 ^ 63
at_any [] k h = lit< tt
at_any (x ∷ xs) zero h = h.0
at_any (x ∷ xs) (suc k) h = at_any xs k h.1

-- counts that are not written are those after the top mark
after_mark : (mark : Option ℕ) (k : ℕ) → unwrap_or mark 0 + 1 ≤ k → IsAbove mark k
after_mark None k h = tt
after_mark (Some m) k h = omega arith

all_small : (greatest : ℕ) (h : Plain) → IsPlain greatest h → AllByRecursion Small (written_counts h) → All Small h.counts
all_small greatest h p small k d l = rw (get_or_default_zero h.counts k d l) (elim (cases_lt k (written_bins h)) [
  | inl within ↦ omega (arith, at_any (written_counts h) k small, get_or-take (written_bins h) h.counts k 0 within)
  | inr later ↦ omega (arith, p.none_above k (after_mark h.top_mark k later))
])

pub small_counts : (h : Plain) → has_too_great_count h ≡ false → All Small h.counts
unfolding has_too_great_count
small_counts h none k d l = elim (cases_lt (get_or h.counts k d) (2 ^ 63)) [
  | inl small ↦ small
  | inr great ↦ absurd (true≢false (sym (list_any_at (λ n. nat_le (2 ^ 63) n) h.counts k d l (le-leb (2 ^ 63) (get_or h.counts k d) great)) ∙ none))
]

pub none_too_great : (h : Plain) → All Small h.counts → has_too_great_count h ≡ false
unfolding has_too_great_count
none_too_great h s = list_any_none (λ n. nat_le (2 ^ 63) n) h.counts (All-weaker Small (λ n. nat_le (2 ^ 63) n ≡ false) (λ n l. lt-leb (2 ^ 63) n l) h.counts s)

pub one_too_great : (h : Plain) → HasTooGreatCount h → has_too_great_count h ≡ true
unfolding has_too_great_count
one_too_great h (k, n, l, e, g) = list_any-from_Any (λ n. nat_le (2 ^ 63) n) h.counts (k, n, l, e, le-leb (2 ^ 63) n g)

pub bytes_not_great : (greatest : ℕ) (h : Plain) (bytes : List ℕ) → IsPlain greatest h → IsV2 h bytes → has_too_great_count h ≡ false
bytes_not_great greatest h bytes p v =
    let small : AllByRecursion Small (written_counts h) = subst (λ l. AllByRecursion Small l) v.counts.split.whole (spelt_small v.counts.parts v.payload v.counts.spelt) in
    none_too_great h (all_small greatest h p small)
