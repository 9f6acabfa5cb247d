-- What some of a list are, or all of them so far: units of intervals, and great factors.
use Rattle.std.proofs.Common.{◌≡◌, ◌⊎◌, ◌<◌, ◌≤◌, ◌+◌, ◌^◌, ℕ, List, Option, Some, None, IsSome, length, get_or, take, inl, inr, refl, sym, ap, ◌∙◌, subst, arith, lit<}
use Rattle.std.specs.List.{All, Any}
use Rattle.std.proofs.Math.Nat.{pow-le-pow_right}
use Rattle.hdr_input.specs.declared.unit.Unit.{Unit}
use Rattle.hdr_logs.specs.Scales.{HaveMixedUnits, IsOtherKind}
use Rattle.hdr_logs.specs.declared.stored.StoredInterval.{StoredInterval}
use Rattle.hdr_logs.proofs.Parts.{all_so_far}

module _ {X : Type 0} (P : X → Type 0) (xs : List X) (i : ℕ) (x : X) (inside : i < length xs) (is : x ≡ get_or xs i x) where
  -- this one is
  pub any_at : P x → Any P xs
  any_at p = (i, x, inside, sym is, p)

  -- some were before, or this one is
  pub some_next : {A : Type 0} → (A → Any P xs) → A ⊎ P x → Any P xs
  some_next before (inl a) = before a
  some_next before (inr p) = any_at p

  -- one more is
  pub all_next : All P (take i xs) → P x → All P (take (i + 1) xs)
  all_next so_far p = (all_so_far P xs i x inside is (λ a. a, λ a. a) (λ b. b, λ b. b)).0 (so_far, p)

-- a unit of another kind than none is one
other_than_none : (unit : Option Unit) → IsOtherKind unit None → unit ≡ None → ⊥
other_than_none unit other is = subst (λ u. IsOtherKind u None) is other

other_than_some : (one : Unit) (unit : Option Unit) → IsOtherKind unit (Some one) → unit ≡ None
other_than_some one None other = refl
other_than_some one (Some unit) other = absurd other

-- one interval is of another kind than the finest unit of all
pub mixed : (all : List StoredInterval) (unit : Option Unit) → (IsSome unit → Any (λ s. IsSome s.unit) all) → (unit ≡ None → All (λ s. s.unit ≡ None) all)
    → Any (λ s. IsOtherKind s.unit unit) all → HaveMixedUnits all
mixed all (Some unit) some none (k, s, inside, is, other) = record { some = some refl; none = (k, s, inside, is, other_than_some unit s.unit other) }
mixed all None some none (k, s, inside, is, other) = absurd (other_than_none s.unit other (ap (λ x. x.unit) (sym is) ∙ none refl k s inside))

pub power_beyond : (e : ℕ) → 2 ^ 32 ≤ e → 2 ^ 64 ≤ 10 ^ e
power_beyond e many = let most : 10 ^ 39 ≤ 10 ^ e = pow-le-pow_right (lit< tt) (let l : 39 ≤ e = omega (arith, many) in l) in omega (arith, most)
