-- Steps that are stored one after another.
use Rattle.std.proofs.Common.{◌≡◌, ◌∙◌, ℕ, zero, suc, ◌+◌, ◌<◌, ◌≤◌, List, [], ◌∷◌, length, drop, slice_index, slice_set, refl, arith}
use Rattle.std.proofs.lemmas.Grind.{get_or-set_at}
use Rattle.std.proofs.lemmas.List.{get_or-set_other, length-set}
use Rattle.hdr_base.specs.Items.{Item}
use Rattle.hdr_c.specs.Steps.{AreStored, item_values, item_counts}

pub none_stored : (numbers values : List ℕ) → AreStored numbers 0 values values
none_stored numbers values = record { same_length = refl; stored = λ i lt. grind arith; rest = λ i le. refl }

pub next_stored : (numbers old new : List ℕ) (n number : ℕ) → n < length new → number ≡ slice_index numbers n → AreStored numbers n old new → AreStored numbers (n + 1) old (slice_set new n number)
next_stored numbers old new n number lt is are = record {
  same_length = length-set new n number ∙ are.same_length;
  stored = λ i le. grind (arith, is, are.stored, get_or-set_at, get_or-set_other);
  rest = λ i le. grind (arith, are.rest, get_or-set_other);
}

-- the first item that is left is item n
pub value_left : (n : ℕ) (items rest : List Item) (x : Item) → drop n items ≡ x ∷ rest → x.value ≡ slice_index (item_values items) n
value_left zero [] rest x e = absurd (let f = e in cc)
value_left zero (y ∷ items) rest x e = let f = e in cc
value_left (suc n) [] rest x e = absurd (let f = e in cc)
value_left (suc n) (y ∷ items) rest x e = value_left n items rest x e

pub count_left : (n : ℕ) (items rest : List Item) (x : Item) → drop n items ≡ x ∷ rest → x.since ≡ slice_index (item_counts items) n
count_left zero [] rest x e = absurd (let f = e in cc)
count_left zero (y ∷ items) rest x e = let f = e in cc
count_left (suc n) [] rest x e = absurd (let f = e in cc)
count_left (suc n) (y ∷ items) rest x e = count_left n items rest x e

pub left_after : (n : ℕ) (items rest : List Item) (x : Item) → drop n items ≡ x ∷ rest → drop (n + 1) items ≡ rest
left_after zero [] rest x e = absurd (let f = e in cc)
left_after zero (y ∷ items) rest x e = let f = e in cc
left_after (suc n) [] rest x e = absurd (let f = e in cc)
left_after (suc n) (y ∷ items) rest x e = let more : suc n + 1 ≡ suc (n + 1) = omega arith in rw more (left_after n items rest x e)

pub left_is_in : (n : ℕ) (items rest : List Item) (x : Item) → drop n items ≡ x ∷ rest → n < length items
left_is_in zero [] rest x e = absurd (let f = e in cc)
left_is_in zero (y ∷ items) rest x e = omega arith
left_is_in (suc n) [] rest x e = absurd (let f = e in cc)
left_is_in (suc n) (y ∷ items) rest x e = let lt = left_is_in n items rest x e in omega (arith, lt)

pub none_left : (n : ℕ) (items : List Item) → drop n items ≡ [] → length items ≤ n
none_left zero [] e = omega arith
none_left zero (y ∷ items) e = absurd (let f = e in cc)
none_left (suc n) [] e = omega arith
none_left (suc n) (y ∷ items) e = let le = none_left n items e in omega (arith, le)
