-- What a field in Base64 decodes to is bytes: numbers below 256.
use Rattle.std.proofs.Common.{◌≡◌, ℕ, zero, suc, ◌+◌, ◌*◌, ◌==◌, ◌<◌, ◌≤◌, nat_lt, Bool, true, false, cond, List, [], ◌∷◌, ◌++◌, length, take, drop, slice_index, slice_set, Option, Some, None, Result, Ok, Err, refl, sym, subst, arith, ◌⊎◌, inl, inr, lit<, lit≤}
use Rattle.std.proofs.lemmas.List.{get_or-set_same, get_or-set_other, set_past, get_or_past}
use Rattle.std.proofs.lemmas.Bool.{cases_lt, cases_eq}
use Rattle.std.specs.Prelude.{IfOk}
use Rattle.std.specs.List.{AllByRecursion}
use Rattle.std.specs.Result.{result_ok}
use Rattle.base64.specs.Engines.{standard}
use Rattle.base64.specs.GeneralPurpose.{IsBytes, decode_of}
use Rattle.base64.specs.Decode.{decode_group, or_else, symbol_error, group_error, group_bytes, groups_error, groups_bytes, groups_before_last, push_leftover, scan_steps, scan_last, scan_bytes, suffix_bytes, no_leftover, lone_error, decode_error, decoded_bytes, decode_outcome, IsDecodeTable}
use Rattle.base64.specs.declared.decode.DecodeError.{DecodeError}
use Rattle.base64.specs.declared.engine.DecodePaddingMode.{DecodePaddingMode}
use Rattle.base64.proofs.Tables.{are_tables_inverse, IsDecodeTable_from}
use Rattle.hdr_log.specs.Texts.{base64_bytes}

abbrev Bytes : List ℕ → Type 0
Bytes text = AllByRecursion (λ b. b < 256) text

each_byte : (text : List ℕ) → Bytes text → IsBytes text
each_byte [] all i = lit< tt
each_byte (b ∷ text) all zero = all.0
each_byte (b ∷ text) all (suc i) = each_byte text all.1 i

-- an entry of the table is 255 or the value of a symbol
abbrev IsTable : List ℕ → Type 0
IsTable dec = (x : ℕ) → (slice_index dec x ≡ 255) ⊎ (slice_index dec x < 64)

whole_table : (dec : List ℕ) → length dec ≤ 256 → IsDecodeTable dec → IsTable dec
whole_table dec long table x = elim (cases_lt x 256) [
  | inl below ↦ table x below
  | inr past ↦ inr (rw (get_or_past dec x 0 (omega (arith, past, long))) (lit< tt))
]

-- ---- groups of four symbols

group_small : (m0 m1 m2 m3 : ℕ) → m0 < 64 → m1 < 64 → m2 < 64 → m3 < 64 → Bytes (decode_group m0 m1 m2 m3)
group_small m0 m1 m2 m3 a b c d = (omega arith, (omega arith, (omega arith, tt)))

no_error : (x y : Option DecodeError) → or_else x y ≡ None → (x ≡ None) × (y ≡ None)
no_error None y e = (refl, e)
no_error (Some f) y e = absurd (let g = e in cc)

symbol_small : (dec s : List ℕ) (i : ℕ) → IsTable dec → symbol_error dec s i ≡ None → slice_index dec (slice_index s i) < 64
symbol_small dec s i table e = elim (table (slice_index s i)) [
  | inl bad ↦ absurd (let f = rw bad at e in cc)
  | inr small ↦ small
]

both : (xs ys : List ℕ) → Bytes xs → Bytes ys → Bytes (xs ++ ys)
both [] ys a b = b
both (x ∷ xs) ys a b = (a.0, both xs ys a.1 b)

groups_small : (dec s : List ℕ) (q : ℕ) → IsTable dec → groups_error dec s q ≡ None → Bytes (groups_bytes dec s q)
unfolding groups_error groups_bytes
groups_small dec s zero table e = tt
groups_small dec s (suc q) table e =
    let a = no_error (groups_error dec s q) (group_error dec s (4 * q)) e in
    let b = no_error (symbol_error dec s (4 * q)) _ a.1 in
    let c = no_error (symbol_error dec s (4 * q + 1)) _ b.1 in
    let d = no_error (symbol_error dec s (4 * q + 2)) _ c.1 in
    both (groups_bytes dec s q) (group_bytes dec s (4 * q)) (groups_small dec s q table a.0)
    (group_small _ _ _ _ (symbol_small dec s (4 * q) table b.0) (symbol_small dec s (4 * q + 1) table c.0) (symbol_small dec s (4 * q + 2) table d.0) (symbol_small dec s (4 * q + 3) table d.1))

-- ---- the last group

abbrev TypeOf : {A : Type 0} → A → Type 0
TypeOf {A} x = A

abbrev Leftover : Type 0
Leftover = TypeOf no_leftover

abbrev Few : Leftover → Type 0
Few st = (k : ℕ) → slice_index st.morsels k < 64

set_few : (xs : List ℕ) (i v k : ℕ) → ((j : ℕ) → slice_index xs j < 64) → v < 64 → slice_index (slice_set xs i v) k < 64
set_few xs i v k all small = elim (cases_eq k i) [
  | inl same ↦ elim (cases_lt i (length xs)) [
    | inl fits ↦ rw (same, get_or-set_same xs i v 0 fits) small
    | inr past ↦ rw (set_past xs i v past) (all k)
  ]
  | inr other ↦ rw (get_or-set_other xs i k v 0 other) (all k)
]

one_of_two : (b : Bool) (x y : Result Leftover DecodeError) → (b ≡ true → IfOk x Few) → (b ≡ false → IfOk y Few) → IfOk (cond b x y) Few
one_of_two true x y p q = p refl
one_of_two false x y p q = q refl

not_refused : (dec : List ℕ) (b : ℕ) → IsTable dec → (slice_index dec b == 255) ≡ false → slice_index dec b < 64
not_refused dec b table e = elim (table b) [
  | inl bad ↦ absurd (let f = rw bad at e in cc)
  | inr small ↦ small
]

push_few : (dec : List ℕ) (pad at : ℕ) (st : Leftover) (i b : ℕ) → IsTable dec → Few st → IfOk (push_leftover dec pad at st i b) Few
push_few dec pad at st i b table few =
    one_of_two (b == pad) _ _ (λ p. one_of_two (nat_lt i 2) _ _ (λ e. tt) (λ e. few))
    (λ p. one_of_two (nat_lt 0 st.padding_count) _ _ (λ e. tt)
    (λ e. one_of_two (slice_index dec b == 255) _ _ (λ f. tt) (λ f k. set_few st.morsels st.morsels_count (slice_index dec b) k few (not_refused dec b table f))))

steps_few : (dec : List ℕ) (pad at : ℕ) (r : Result Leftover DecodeError) (i : ℕ) (bs : List ℕ) → IsTable dec → IfOk r Few → IfOk (scan_steps dec pad at r i bs) Few
unfolding scan_steps
steps_few dec pad at (Err e) i bs table few = tt
steps_few dec pad at (Ok st) i [] table few = few
steps_few dec pad at (Ok st) i (b ∷ bs) table few = steps_few dec pad at (push_leftover dec pad at st i b) (i + 1) bs table (push_few dec pad at st i b table few)

start_few : Few no_leftover
start_few zero = lit< tt
start_few (suc zero) = lit< tt
start_few (suc (suc zero)) = lit< tt
start_few (suc (suc (suc zero))) = lit< tt
start_few (suc (suc (suc (suc k)))) = lit< tt

front : (n : ℕ) (xs : List ℕ) → Bytes xs → Bytes (take n xs)
front zero xs all = tt
front (suc n) [] all = tt
front (suc n) (x ∷ xs) all = (all.0, front n xs all.1)

scanned_small : (r : Result Leftover DecodeError) → IfOk r Few → Bytes (scan_bytes r)
scanned_small (Err e) few = tt
scanned_small (Ok st) few = front _ _ (group_small _ _ _ _ (few 0) (few 1) (few 2) (few 3))

-- ---- a field

decoded_small : (dec : List ℕ) (pad : ℕ) (allow : Bool) (mode : DecodePaddingMode) (s b : List ℕ) → IsTable dec → decode_outcome (decode_error dec pad allow mode s) (decoded_bytes dec pad s) ≡ Ok b → Bytes b
decoded_small dec pad allow mode s b table e =
    let o = outcome (decode_error dec pad allow mode s) (decoded_bytes dec pad s) e in
    let q = groups_before_last (length s) in
    let rest = no_error (lone_error dec pad s) _ o.0 in
    let groups = no_error (groups_error dec s q) _ rest.1 in
    subst (λ x. Bytes x) (sym o.1) (both (groups_bytes dec s q) (suffix_bytes dec pad (4 * q) s) (groups_small dec s q table groups.0)
    (scanned_small (scan_last dec pad (4 * q) s) (steps_few dec pad (4 * q) (Ok no_leftover) 0 (drop (4 * q) s) table start_few)))
  where
    outcome : (error : Option DecodeError) (bytes : List ℕ) → decode_outcome error bytes ≡ Ok b → (error ≡ None) × (b ≡ bytes)
    outcome None bytes e = (refl, cc)
    outcome (Some x) bytes e = absurd (let f = e in cc)

is_ok : {A B : Type 0} (r : Result A B) (x : A) → result_ok r ≡ Some x → r ≡ Ok x
is_ok (Ok y) x e = cc
is_ok (Err f) x e = absurd (let g = e in cc)

pub base64_are_bytes : (field bytes : List ℕ) → base64_bytes field ≡ Some bytes → IsBytes bytes
unfolding base64_bytes
base64_are_bytes field bytes e =
    let table : IsTable standard.decode_table = whole_table standard.decode_table (lit≤ tt) (IsDecodeTable_from standard.encode_table standard.decode_table (are_tables_inverse standard.encode_table standard.decode_table standard.padding.value refl)) in
    each_byte bytes (decoded_small standard.decode_table standard.padding.value standard.config.decode_allow_trailing_bits standard.config.decode_padding_mode field bytes table (is_ok (decode_of standard field) bytes e))
