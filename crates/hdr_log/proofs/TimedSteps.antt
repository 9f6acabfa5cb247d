-- The intervals of entries, one entry after another.
use Rattle.std.proofs.Common.{◌≡◌, ℕ, ◌+◌, ◌≤◌, List, [], ◌∷◌, length, Option, Some, None, Result, Ok, Err, arith, refl, ap, subst}
use Rattle.hdr_log.specs.Grammar.{Entry, Start, Base, Span}
use Rattle.hdr_log.specs.Timed.{TimedInterval, base_after, interval_after, and_interval, time_after, timed}

and_few : (o : Option TimedInterval) (items : List (Result TimedInterval ℕ)) (n : ℕ) → length items ≤ n → length (and_interval o items) ≤ n + 1
and_few None items n h = omega (arith, h)
and_few (Some i) items n h = omega (arith, h)

-- there are at most as many intervals as entries
pub timed_few : (entries : List (Result Entry ℕ)) (base : Option ℕ) → length (timed base entries) ≤ length entries
timed_few [] base = omega arith
timed_few (Ok entry ∷ entries) base =
    let few = and_few (interval_after base entry) (timed (base_after base entry) entries) (length entries) (timed_few entries (base_after base entry)) in omega (arith, few)
timed_few (Err at ∷ entries) base = let few = timed_few entries base in omega (arith, few)

-- the entry of an interval
pub entry_is : (base : Option ℕ) (e : Entry) (i : TimedInterval) → Some i ≡ interval_after base e → e ≡ Span i.interval
entry_is base (Start time) i is = absurd (let f = is in cc)
entry_is base (Base time) i is = absurd (let f = is in cc)
entry_is base (Span j) i is = ap (λ (x : TimedInterval). Span x.interval) (let same : record { time = time_after base j.start; interval = j } ≡ i = let f = is in cc in same)
