-- The parts of a text.
use Rattle.hdr_tool.proofs.Common.{◌≡◌, ℕ, suc, ◌+◌, ◌-◌, ◌==◌, not, Bool, true, false, cond, List, [], ◌∷◌, ◌++◌, length, take, drop, Option, Some, None, is_some, refl, sym, ap, ◌∙◌, arith, slice_split, onto_first, position_or_len, enumerate_from, take_all, length-drop, get_or_default, ne_eqb, option_map, parts, parts_of_rest, number_lines}
use Rattle.std.proofs.lemmas.List.Splits.{slice_split_first, slice_split_none}
use Rattle.std.proofs.lemmas.List.Sums.{position_or_len_is}
use Rattle.memchr.specs.Find.{IsFirstByte, is_byte}
use Rattle.std.proofs.lemmas.List.FromFn.{length-enumerate_from}

-- there is a first part
pub parts_some : (b : ℕ) (text : List ℕ) (P : List (List ℕ) → Type 0) → ((first : List ℕ) (rest : List (List ℕ)) → P (first ∷ rest)) → P (parts b text)
parts_some b [] P h = h [] []
parts_some b (x ∷ xs) P h =
    elim (x == b) as (λ t. P (cond t ([] ∷ slice_split (λ y. y == b) xs) (onto_first x (slice_split (λ y. y == b) xs)))) [
      | true ↦ h [] (slice_split (λ y. y == b) xs)
      | false ↦ parts_some b xs (λ ps. P (onto_first x ps)) (λ first rest. h (x ∷ first) rest)
    ]

fails : (t : Bool) → (t ≡ true → ⊥) → t ≡ false
fails true h = absurd (h refl)
fails false h = refl

-- the first part ends at the first such byte, and if there is none, it is all of the text
pub first_part : (b : ℕ) (text : List ℕ) (at : ℕ) → IsFirstByte (is_byte b) text (Some at) → parts b text ≡ take at text ∷ parts b (drop (at + 1) text)
first_part b text at h =
    let e : position_or_len (λ x. x == b) text ≡ at = position_or_len_is (λ x. x == b) text at 0 (omega (arith, h.0.high)) (λ j l. fails _ (λ q. h.0.before j (omega arith) l q)) (λ l. h.1) in
    slice_split_first (λ x. x == b) text 0 (omega (arith, e, h.0.high)) ∙ ap (λ n. take n text ∷ parts b (drop (n + 1) text)) e

pub only_part : (b : ℕ) (text : List ℕ) → IsFirstByte (is_byte b) text None → parts b text ≡ text ∷ []
only_part b text h = slice_split_none (λ x. x == b) text (λ k d l. fails _ (λ q. h k (omega arith) l (ap (λ x. x == b) (sym (get_or_default text k d 0 l)) ∙ q)))

pub left_all : (k : ℕ) (text : List ℕ) → take (length text - k) (drop k text) ≡ drop k text
left_all k text = take_all (length text - k) (drop k text) (omega (arith, length-drop k text))

-- the length of the rest of a text
abbrev pub left_length : Option (List ℕ) → ℕ
left_length None = 0
left_length (Some text) = length text + 1

-- whether there is a rest
pub nothing_left : {A : Type 0} (text_of : A → List ℕ) (b : ℕ) (left : Option A) (none : Bool) → is_some left ≡ not none → none ≡ (length (parts_of_rest b (option_map text_of left)) == 0)
nothing_left text_of b None true e = refl
nothing_left text_of b None false e = absurd (let f : false ≡ true = e in cc)
nothing_left text_of b (Some x) true e = absurd (let f : true ≡ false = e in cc)
nothing_left text_of b (Some x) false e = parts_some b (text_of x) (λ ps. false ≡ (length ps == 0)) (λ first rest. sym (ne_eqb (length (first ∷ rest)) 0 (λ e. absurd (omega (arith, e)))))

-- ---- lines in two parts

front_kept : (x : ℕ) (front : List ℕ) (ps : List (List ℕ)) → onto_first x (parts 10 front ++ ps) ≡ onto_first x (parts 10 front) ++ ps
front_kept x front ps = parts_some 10 front (λ first. onto_first x (first ++ ps) ≡ onto_first x first ++ ps) (λ first rest. refl)

choose : (t : Bool) (x : ℕ) (ps qs : List (List ℕ)) → onto_first x (ps ++ qs) ≡ onto_first x ps ++ qs → cond t ([] ∷ (ps ++ qs)) (onto_first x (ps ++ qs)) ≡ cond t ([] ∷ ps) (onto_first x ps) ++ qs
choose true x ps qs h = refl
choose false x ps qs h = h

-- the lines before an LF, and those after it
lines_end : (front tail : List ℕ) → parts 10 (front ++ 10 ∷ tail) ≡ parts 10 front ++ parts 10 tail
lines_end [] tail = refl
lines_end (x ∷ front) tail =
    let f : List (List ℕ) → List (List ℕ) = λ ps. cond (x == 10) ([] ∷ ps) (onto_first x ps) in
    ap f (lines_end front tail) ∙ choose (x == 10) x (parts 10 front) (parts 10 tail) (front_kept x front (parts 10 tail))

enumerate_both : (n : ℕ) (xs ys : List (List ℕ)) → enumerate_from n (xs ++ ys) ≡ enumerate_from n xs ++ enumerate_from (n + length xs) ys
enumerate_both n [] ys = let e : n ≡ n + 0 = omega arith in ap (λ k. enumerate_from k ys) e
enumerate_both n (x ∷ xs) ys =
    let e : n + 1 + length xs ≡ n + suc (length xs) = omega arith in
    let f : List (ℕ × List ℕ) → List (ℕ × List ℕ) = λ l. (n, x) ∷ l in
    ap f (enumerate_both (n + 1) xs ys ∙ ap (λ k. enumerate_from (n + 1) xs ++ enumerate_from k ys) e)

-- the same with their numbers
pub numbered_end : (n : ℕ) (front tail : List ℕ) → number_lines n (Some (front ++ 10 ∷ tail)) ≡ number_lines n (Some front) ++ number_lines (n + length (number_lines n (Some front))) (Some tail)
numbered_end n front tail =
    let e : length (parts 10 front) ≡ length (number_lines n (Some front)) = sym (length-enumerate_from n (parts 10 front)) in
    ap (enumerate_from n) (lines_end front tail) ∙ enumerate_both n (parts 10 front) (parts 10 tail) ∙ ap (λ k. enumerate_from n (parts 10 front) ++ enumerate_from (n + k) (parts 10 tail)) e
