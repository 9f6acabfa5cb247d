-- Recording the values of one class one by one is one addition.
use Rattle.std.proofs.Common.{◌≡◌, ℕ, ◌+◌, ◌-◌, ◌*◌, ◌^◌, ◌<◌, ◌≤◌, Bool, true, false, cond, eqb, Option, None, Some, min, max, List, [], ◌∷◌, length, get_or, set, refl, ap, ◌∙◌, arith}
use Rattle.std.specs.List.{All}
use Rattle.std.proofs.lemmas.List.{set-set, length-set, get_or-set_same}
use Rattle.std.proofs.lemmas.List.Elements.{All-head, All-tail}
use Rattle.hdr_base.specs.Classes.{bin_of}
use Rattle.hdr_model.specs.Plain.{Plain, resolution, reach}
use Rattle.hdr_model.specs.Recording.{after_add_to_bin, after_record, after_records}
use Rattle.hdr_model.specs.Marks.{later_mark, earlier_mark}
use Rattle.hdr_model.specs.Correction.{each_times}
use Rattle.hdr_model.proofs.PlainKept.{widened-same}

later-twice : (m : Option ℕ) (i : ℕ) → later_mark (later_mark m i) i ≡ later_mark m i
later-twice None i = ap Some (let e : max i i ≡ i = omega arith in e)
later-twice (Some m) i = ap Some (let e : max (max m i) i ≡ max m i = omega arith in e)

earlier-twice : (m : Option ℕ) (i : ℕ) → earlier_mark (earlier_mark m i) i ≡ earlier_mark m i
earlier-twice None i =
    let step : (b : Bool) → eqb i 0 ≡ b → earlier_mark (cond b None (Some i)) i ≡ cond b None (Some i) =
    λ b. elim b as (λ b. eqb i 0 ≡ b → earlier_mark (cond b None (Some i)) i ≡ cond b None (Some i)) [
      | true ↦ λ e. ap (λ (c : Bool). cond c None (Some i)) e
      | false ↦ λ e. ap (λ (c : Bool). cond c (Some i) (Some (min i i))) e ∙ ap Some (let s : min i i ≡ i = omega arith in s)
    ] in
    step (eqb i 0) refl
earlier-twice (Some m) i =
    let step : (b : Bool) → eqb i 0 ≡ b → earlier_mark (cond b (Some m) (Some (min m i))) i ≡ cond b (Some m) (Some (min m i)) =
    λ b. elim b as (λ b. eqb i 0 ≡ b → earlier_mark (cond b (Some m) (Some (min m i))) i ≡ cond b (Some m) (Some (min m i))) [
      | true ↦ λ e. ap (λ (c : Bool). cond c (Some m) (Some (min m i))) e
      | false ↦ λ e. ap (λ (c : Bool). cond c (Some (min m i)) (Some (min (min m i) i))) e ∙ ap Some (let s : min (min m i) i ≡ min m i = omega arith in s)
    ] in
    step (eqb i 0) refl

-- two capped additions to one bin are one of the sum
pub added-twice : (greatest : ℕ) (h : Plain) (b m n : ℕ) → b < length h.counts → after_add_to_bin greatest (after_add_to_bin greatest h b m) b n ≡ after_add_to_bin greatest h b (m + n)
unfolding after_add_to_bin
added-twice greatest h b m n room =
    let read : get_or (set h.counts b (min (get_or h.counts b 0 + m) greatest)) b 0 ≡ min (get_or h.counts b 0 + m) greatest = get_or-set_same h.counts b _ 0 room in
    let number : min (min (get_or h.counts b 0 + m) greatest + n) greatest ≡ min (get_or h.counts b 0 + (m + n)) greatest = omega arith in
    let total : min (min (h.total + m) (2 ^ 64 - 1) + n) (2 ^ 64 - 1) ≡ min (h.total + (m + n)) (2 ^ 64 - 1) = omega arith in
    rw (read, number, set-set, total, later-twice, earlier-twice) refl

-- adding to a bin keeps the classes
pub resolution-added : (greatest : ℕ) (h : Plain) (b n : ℕ) → resolution (after_add_to_bin greatest h b n) ≡ resolution h
unfolding after_add_to_bin
resolution-added greatest h b n = refl

pub reach-added : (greatest : ℕ) (h : Plain) (b n : ℕ) → reach (after_add_to_bin greatest h b n) ≡ reach h
unfolding after_add_to_bin reach
reach-added greatest h b n = refl

pub bins-added : (greatest : ℕ) (h : Plain) (b n : ℕ) → length (after_add_to_bin greatest h b n).counts ≡ length h.counts
unfolding after_add_to_bin
bins-added greatest h b n = length-set h.counts b _

-- a value within the reach is added to its bin
pub recorded-within : (greatest : ℕ) (h : Plain) (v n : ℕ) → v ≤ reach h → after_record greatest h v n ≡ after_add_to_bin greatest h (bin_of (resolution h) v) n
unfolding after_record
recorded-within greatest h v n le = ap (λ k. after_add_to_bin greatest k (bin_of (resolution h) v) n) (widened-same h v le)

-- the values of one class, one by one, are one addition
pub one-class : (greatest : ℕ) (h : Plain) (b n : ℕ) (values : List ℕ) → 0 < length values → b < length h.counts
    → All (λ y. (bin_of (resolution h) y ≡ b) × (y ≤ reach h)) values → after_records greatest h (each_times n values) ≡ after_add_to_bin greatest h b (length values * n)
one-class greatest h b n [] some room inside = absurd (omega arith)
one-class greatest h b n (x ∷ []) some room inside =
    let here = All-head (λ y. (bin_of (resolution h) y ≡ b) × (y ≤ reach h)) x [] inside in
    recorded-within greatest h x n here.1 ∙ ap (λ c. after_add_to_bin greatest h c n) here.0 ∙ ap (λ m. after_add_to_bin greatest h b m) (let e : n ≡ 1 * n = omega arith in e)
one-class greatest h b n (x ∷ y ∷ ys) some room inside =
    let here = All-head (λ y. (bin_of (resolution h) y ≡ b) × (y ≤ reach h)) x (y ∷ ys) inside in
    let rest = All-tail (λ y. (bin_of (resolution h) y ≡ b) × (y ≤ reach h)) x (y ∷ ys) inside in
    let first : after_record greatest h x n ≡ after_add_to_bin greatest h b n = recorded-within greatest h x n here.1 ∙ ap (λ c. after_add_to_bin greatest h c n) here.0 in
    let k = after_add_to_bin greatest h b n in
    let kept : All (λ z. (bin_of (resolution k) z ≡ b) × (z ≤ reach k)) (y ∷ ys) = rw (resolution-added greatest h b n, reach-added greatest h b n) rest in
    let others : after_records greatest k (each_times n (y ∷ ys)) ≡ after_add_to_bin greatest k b (length (y ∷ ys) * n) =
    one-class greatest k b n (y ∷ ys) (omega arith) (omega (arith, bins-added greatest h b n)) kept in
    ap (λ s. after_records greatest s (each_times n (y ∷ ys))) first ∙ others ∙ added-twice greatest h b n (length (y ∷ ys) * n) room
    ∙ ap (λ m. after_add_to_bin greatest h b m) (let e : n + length (y ∷ ys) * n ≡ length (x ∷ y ∷ ys) * n = omega arith in e)
