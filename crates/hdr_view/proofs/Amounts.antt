-- Amounts in longer units.
use Rattle.std.proofs.Common.{◌≡◌, ◌∙◌, ℕ, ◌+◌, ◌-◌, ◌*◌, ◌^◌, ◌≤◌, Option, None, Some, IfSome, IsSome, Result, Ok, Err, OnOk, List, ◌++◌, append_assoc, append-nil, refl, sym, ap, arith}
use Rattle.hdr_draw.proofs.Bounds.{power_step}
use Rattle.hdr_draw.specs.Numbers.{IsNearest, IsDecimalOf, decimal_text, exponent, grouped}
use Rattle.hdr_draw.proofs.Decimals.{of_nearest, of_trimmed}
use Rattle.hdr_view.specs.Amounts.{IsInUnit, IsValueText, IsExact, IsLabel, longer_by, unit_text}

same_unit : (u : Option ℕ) → u ≡ longer_by 0 u
same_unit None = refl
same_unit (Some k) = ap Some (omega arith)

pub begun : (u : Option ℕ) (num den : ℕ) → IsInUnit u num den u num den
begun u num den = record {
  power = 0;
  is_longer = same_unit u;
  same = refl;
  parts = omega arith;
  known = λ h. refl;
  no_longer = λ h. absurd (omega arith);
  at_least = λ h. absurd (omega arith);
}

unit_step : (u v w : Option ℕ) (p : ℕ) → v ≡ longer_by p u → w ≡ longer_by 1 v → w ≡ longer_by (p + 1) u
unit_step None v w p e f = rw e at f
unit_step (Some k) v w p e f = let g : w ≡ Some (k + p + 1) = rw e at f in let h : k + p + 1 ≡ k + (p + 1) = omega arith in g ∙ ap Some h

unknown : (u v : Option ℕ) (p n : ℕ) → v ≡ longer_by p u → IsSome v → u ≡ None → n ≡ 0
unknown u v p n e s h = let t = rw (e, h) at s in absurd cc

no_longer_unit : (u w : Option ℕ) (p : ℕ) → w ≡ longer_by p u → IfSome w (λ k. k ≤ 3) → IfSome u (λ k. k + p ≤ 3)
no_longer_unit None w p e h = tt
no_longer_unit (Some k) w p e h = rw e at h

pub longer_unit : (u v w : Option ℕ) (num den n d m e : ℕ) → IsInUnit u num den v n d → IsSome v → w ≡ longer_by 1 v
    → m ≡ n → e ≡ d * 1000 → e * 9995 ≤ m * 10000 → IfSome w (λ k. k ≤ 3) → IsInUnit u num den w m e
longer_unit u v w num den n d m e i s q a b h l = record {
  power = i.power + 1;
  is_longer = unit_step u v w i.power i.is_longer q;
  same = a ∙ i.same;
  parts = power_step den d e 1000 i.power b i.parts;
  known = unknown u v i.power (i.power + 1) i.is_longer s;
  no_longer = λ k. no_longer_unit u w (i.power + 1) (unit_step u v w i.power i.is_longer q) l;
  at_least = λ k. h;
}

twice : (old mid new first second : List ℕ) → mid ≡ old ++ first → new ≡ mid ++ second → new ≡ old ++ (first ++ second)
twice old mid new first second a b = rw (b, a, append_assoc) refl

-- a number and its exponent
pub with_exponent : {T E : Type 0} (r : Result T E) (num den power p d : ℕ) (old mid new : List ℕ) → IsNearest num (den * 10 ^ power) (10 ^ d) p
    → mid ≡ old ++ decimal_text p d → OnOk r (new ≡ mid ++ exponent power) → OnOk r ((x : List ℕ) × IsDecimalOf num den x × (new ≡ old ++ x))
with_exponent (Ok v) num den power p d old mid new n a b = (decimal_text p d ++ exponent power, of_nearest num den power p d n, twice old mid new _ _ a b)
with_exponent (Err v) num den power p d old mid new n a b = tt

-- an integer
pub of_integer : (num den n : ℕ) → n * den ≡ num → IsDecimalOf num den (grouped n)
unfolding decimal_text
of_integer num den n e =
    let o : den * 10 ^ 0 ≡ den = omega arith in
    of_trimmed num den n 0 n 0 (record { not_below = omega (arith, e); not_above = omega (arith, e) }) (omega arith) (omega arith)

-- a decimal without an exponent
pub of_plain : (num den p d : ℕ) → IsNearest num den (10 ^ d) p → IsDecimalOf num den (decimal_text p d)
of_plain num den p d n =
    let z : d - d ≡ 0 = omega arith in
    let s : p * 10 ^ (d - d) ≡ p = rw z (omega arith) in
    of_trimmed num den p d p d n (omega arith) s

-- a value and its unit
pub value_text : {T E : Type 0} (r : Result T E) (unit longer : Option ℕ) (value parts num den : ℕ) (number old mid new : List ℕ)
    → IsInUnit unit value parts longer num den → IsDecimalOf num den number → mid ≡ old ++ number → OnOk r (new ≡ mid ++ unit_text longer)
    → OnOk r ((x : List ℕ) × IsValueText unit value parts x × (new ≡ old ++ x))
value_text (Ok v) unit longer value parts num den number old mid new i n a b =
    let t : IsValueText unit value parts (number ++ unit_text longer) = record {
      power = i.power;
      number = number;
      nearest = rw (i.same, i.parts) at n;
      known = i.known;
      no_longer = i.no_longer;
      is = ap (λ u. number ++ unit_text u) i.is_longer;
    } in
    (number ++ unit_text longer, t, twice old mid new _ _ a b)
value_text (Err v) unit longer value parts num den number old mid new i n a b = tt

-- an integer exactly
pub exact_text : {T E : Type 0} (r : Result T E) (value number power : ℕ) (old mid new : List ℕ) → number * 10 ^ power ≡ value
    → mid ≡ old ++ grouped number → OnOk r (new ≡ mid ++ exponent power) → OnOk r ((x : List ℕ) × IsExact value x × (new ≡ old ++ x))
exact_text (Ok v) value number power old mid new e a b =
    (grouped number ++ exponent power, record { number = number; power = power; same = e; is = refl }, twice old mid new _ _ a b)
exact_text (Err v) value number power old mid new e a b = tt

-- a label whose unit is unknown
pub plain_label : {T E : Type 0} (r : Result T E) (value : ℕ) (old new : List ℕ) → OnOk r ((x : List ℕ) × IsExact value x × (new ≡ old ++ x))
    → OnOk r ((x : List ℕ) × IsLabel None value x × (new ≡ old ++ x))
plain_label (Ok v) value old new t =
    let l : IsLabel None value t.0 = record {
      power = 0;
      number = value;
      digits = t.0;
      same = omega arith;
      exact = t.1;
      known = λ h. refl;
      no_longer = λ h. absurd (omega arith);
      is = sym (append-nil t.0);
    } in
    (t.0, l, t.2)
plain_label (Err v) value old new t = tt

-- a label and its unit
pub unit_label : {T E : Type 0} (r : Result T E) (unit value number power : ℕ) (digits old mid new : List ℕ) → number * 1000 ^ power ≡ value
    → IsExact number digits → mid ≡ old ++ digits → OnOk r (new ≡ mid ++ unit_text (Some (unit + power))) → power ≤ 3 - unit
    → OnOk r ((x : List ℕ) × IsLabel (Some unit) value x × (new ≡ old ++ x))
unit_label (Ok v) unit value number power digits old mid new e x a b l =
    let l : IsLabel (Some unit) value (digits ++ unit_text (Some (unit + power))) = record {
      power = power;
      number = number;
      digits = digits;
      same = e;
      exact = x;
      known = λ h. absurd cc;
      no_longer = λ h. omega arith;
      is = refl;
    } in
    (digits ++ unit_text (Some (unit + power)), l, twice old mid new _ _ a b)
unit_label (Err v) unit value number power digits old mid new e x a b l = tt

-- a number and its unit in a box
pub boxed : {T E : Type 0} (r : Result T E) (P : List ℕ → Type 0) (number box old mid new : List ℕ) → P number → mid ≡ old ++ number → OnOk r (new ≡ mid ++ box)
    → OnOk r ((x : List ℕ) × P x × (new ≡ old ++ (x ++ box)))
boxed (Ok v) P number box old mid new p a b = (number, p, twice old mid new _ _ a b)
boxed (Err v) P number box old mid new p a b = tt

-- a number after a text
pub prefixed : {T E : Type 0} (r : Result T E) (P : List ℕ → Type 0) (prefix number old mid new : List ℕ) → P number → mid ≡ old ++ prefix → OnOk r (new ≡ mid ++ number)
    → OnOk r ((x : List ℕ) × P x × (new ≡ old ++ (prefix ++ x)))
prefixed (Ok v) P prefix number old mid new p a b = (number, p, twice old mid new _ _ a b)
prefixed (Err v) P prefix number old mid new p a b = tt
