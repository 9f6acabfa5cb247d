-- Intervals in order of time, one after another.
use Rattle.std.proofs.Common.{◌≡◌, ℕ, ◌≤◌, ◌<◌, ◌+◌, List, [], ◌∷◌, ◌++◌, Option, sym, subst, arith}
use Rattle.std.specs.List.{All}
use Rattle.std.proofs.lemmas.List.Elements.{All-nil, All-cons, All-head, All-tail}
use Rattle.hdr_logs.specs.Stored.{Stored}
use Rattle.hdr_gather.specs.Logs.{Writes}
use Rattle.hdr_gather.proofs.Groups.{writes_none, writes_both}

-- intervals begin in order of time, from `low` on and before `high`
unfoldable pub Ascend : ℕ → ℕ → List Stored → Type 0
Ascend low high [] = low ≤ high
Ascend low high (first ∷ others) = (low ≤ first.start) × (first.start < high) × Ascend first.start high others

-- these intervals were written, which begin in order of time, from `low` on and before `high`
abbrev pub WritesFrom : ℕ → ℕ → List Stored → ℕ → Option (List ℕ) → Option (List ℕ) → Type 0
WritesFrom low high all finer old new = Ascend low high all × Writes all finer old new

ascend_lower : (a b high : ℕ) (ps : List Stored) → a ≤ b → Ascend b high ps → Ascend a high ps
unfolding Ascend
ascend_lower a b high [] l s = omega (arith, l, s)
ascend_lower a b high (p ∷ ps) l s = let first : a ≤ p.start = omega (arith, l, s.0) in (first, s.1, s.2)

ascend_bounds : (a b : ℕ) (ps : List Stored) → Ascend a b ps → a ≤ b
unfolding Ascend
ascend_bounds a b [] s = s
ascend_bounds a b (p ∷ ps) s = omega (arith, s.0, s.1)

ascend_append : (a b c : ℕ) (ps qs : List Stored) → Ascend a b ps → Ascend b c qs → Ascend a c (ps ++ qs)
unfolding Ascend
ascend_append a b c [] qs l s = ascend_lower a b c qs l s
ascend_append a b c (p ∷ ps) qs s t =
    let below : p.start < c = omega (arith, s.1, ascend_bounds b c qs t) in (s.0, below, ascend_append p.start b c ps qs s.2 t)

-- all begin below the upper bound, and from the lower bound on
ascend_below : (a b : ℕ) (ps : List Stored) → Ascend a b ps → All (λ p. p.start < b) ps
unfolding Ascend
ascend_below a b [] s = All-nil (λ p. p.start < b)
ascend_below a b (p ∷ ps) s = All-cons (λ p. p.start < b) p ps s.1 (ascend_below p.start b ps s.2)

ascend_above : (a b low : ℕ) (ps : List Stored) → low ≤ a → Ascend a b ps → All (λ p. low ≤ p.start) ps
unfolding Ascend
ascend_above a b low [] l s = All-nil (λ p. low ≤ p.start)
ascend_above a b low (p ∷ ps) l s =
    let here : low ≤ p.start = omega (arith, l, s.0) in All-cons (λ p. low ≤ p.start) p ps here (ascend_above p.start b low ps here s.2)

-- intervals that begin at one time
pub ascend_same : (s : ℕ) (ps : List Stored) → All (λ p. p.start ≡ s) ps → Ascend s (s + 1) ps
unfolding Ascend
ascend_same s [] h = omega arith
ascend_same s (p ∷ ps) h =
    let is : p.start ≡ s = All-head (λ p. p.start ≡ s) p ps h in
    let first : s ≤ p.start = omega (arith, is) in
    let below : p.start < s + 1 = omega (arith, is) in
    (first, below, subst (λ x. Ascend x (s + 1) ps) (sym is) (ascend_same s ps (All-tail (λ p. p.start ≡ s) p ps h)))

-- intervals after intervals that begin earlier
pub writes_then : (a b c d : ℕ) (all more : List Stored) (f g : ℕ) (o m n : Option (List ℕ)) → WritesFrom a b all f o m → b ≤ c → Ascend c d more → Writes more g m n
    → WritesFrom a d (all ++ more) (f + g) o n
writes_then a b c d all more f g o m n s l ascend t =
    (ascend_append a b d all more s.0 (ascend_lower b c d more l ascend), writes_both all more f g o m n b (ascend_below a b all s.0) (ascend_above c d b more l ascend) s.1 t)

-- no intervals
pub writes_nothing : (low : ℕ) (o : Option (List ℕ)) → WritesFrom low low [] 0 o o
unfolding Ascend
writes_nothing low o = let same : low ≤ low = omega arith in (same, writes_none o)
