-- The cells of a heat map.
use Rattle.std.proofs.Common.{◌≡◌, ◌≢◌, ℕ, ◌+◌, ◌<◌, ◌≤◌, min, max, ◌⊎◌, List, [], length, get_or, set, replicate, inl, inr, arith, refl, ◌∙◌}
use Rattle.std.proofs.lemmas.Bool.{cases_eq, cases_lt}
use Rattle.std.proofs.lemmas.List.{get_or-set_same, get_or-set_other, length-set, set_past, set-get_or, get_or-replicate, length-replicate}
use Rattle.std.proofs.Math.ListN.{get_or-eq_default}
use Rattle.std.specs.List.{All}
use Rattle.std.proofs.lemmas.List.Elements.{All-set, All-get_or}
use Rattle.hdr_draw.specs.Heat.{IsMost, added, cell}

-- the cell itself
there : (m : List (List ℕ)) (i j n : ℕ) → i < length m → j < length (get_or m i []) → cell (set m i (set (get_or m i []) j n)) i j ≡ n
unfolding cell
there m i j n h k = rw (get_or-set_same m i (set (get_or m i []) j n) [] h) (get_or-set_same (get_or m i []) j n 0 k)

-- another row of its column
same_column : (m : List (List ℕ)) (i j n k : ℕ) → i < length m → k ≢ j → cell (set m i (set (get_or m i []) j n)) i k ≡ cell m i k
unfolding cell
same_column m i j n k h d = rw (get_or-set_same m i (set (get_or m i []) j n) [] h) (get_or-set_other (get_or m i []) j k n 0 d)

-- another column
other_column : (m : List (List ℕ)) (i k l : ℕ) (xs : List ℕ) → k ≢ i → cell (set m i xs) k l ≡ cell m k l
unfolding cell
other_column m i k l xs d = rw (get_or-set_other m i k xs [] d) refl

pub outside_column : (m : List (List ℕ)) (i j n : ℕ) → length m ≤ i → added m i j n ≡ m
unfolding added
outside_column m i j n h = set_past m i _ h

pub outside_row : (m : List (List ℕ)) (i j n : ℕ) → length (get_or m i []) ≤ j → added m i j n ≡ m
unfolding added
outside_row m i j n h = rw (set_past (get_or m i []) j (min (cell m i j + n) 18446744073709551615) h) (set-get_or m i [])

-- a cell is the one itself, or as before
either : (m : List (List ℕ)) (i j n c r : ℕ) → i < length m → j < length (get_or m i [])
    → ((c ≡ i) × (r ≡ j) × (cell (set m i (set (get_or m i []) j n)) c r ≡ n)) ⊎ (cell (set m i (set (get_or m i []) j n)) c r ≡ cell m c r)
either m i j n c r h k = elim (cases_eq c i) [
  | inl e ↦ elim (cases_eq r j) [
    | inl f ↦ inl (e, f, rw (e, f) (there m i j n h k))
    | inr d ↦ inr (rw e (same_column m i j n r h d))
  ]
  | inr d ↦ inr (other_column m i c r (set (get_or m i []) j n) d)
]

abbrev pub zeroes : ℕ → List ℕ
zeroes n = replicate n 0

zeros : (n r : ℕ) → get_or (zeroes n) r 0 ≡ 0
zeros n r = elim (cases_lt r n) [
  | inl h ↦ get_or-replicate n r 0 0 h
  | inr h ↦ get_or-eq_default (zeroes n) 0 (let e : length (zeroes n) ≡ n = length-replicate n 0 in rw e h)
]

none : (columns rows c r : ℕ) → cell (replicate columns (zeroes rows)) c r ≡ 0
unfolding cell
none columns rows c r = elim (cases_lt c columns) [
  | inl h ↦ rw (get_or-replicate columns c (zeroes rows) [] h) (zeros rows r)
  | inr h ↦
      let e : get_or (replicate columns (zeroes rows)) c [] ≡ [] = get_or-eq_default (replicate columns (zeroes rows)) [] (rw (length-replicate columns (zeroes rows)) h) in
      rw e refl
]

pub empty : (columns rows : ℕ) → IsMost (replicate columns (zeroes rows)) 1
empty columns rows = record {
  at_least = omega arith;
  greatest = λ c r. omega (arith, none columns rows c r);
  reached = λ h. absurd (omega arith);
}

same_cell : (m : List (List ℕ)) (c r i j : ℕ) → c ≡ i → r ≡ j → cell m c r ≡ cell m i j
same_cell m c r i j p q = rw (p, q) refl

pub most_added : (m : List (List ℕ)) (i j n most : ℕ) → i < length m → j < length (get_or m i []) → IsMost m most → cell m i j ≤ n
    → IsMost (set m i (set (get_or m i []) j n)) (max most n)
most_added m i j n most h k a g = record {
  at_least = omega (arith, a.at_least);
  greatest = λ c r. elim (either m i j n c r h k) [
    | inl e ↦ omega (arith, e.2)
    | inr e ↦ omega (arith, e, a.greatest c r)
  ];
  reached = λ l. elim (cases_lt n most) [
    | inl b ↦
        let w = a.reached (omega (arith, l, b)) in (
          w.0,
          (
            w.1.0,
            elim (either m i j n w.0 w.1.0 h k) [
              | inl e ↦ absurd (omega (arith, same_cell m w.0 w.1.0 i j e.0 e.1, w.1.1, g, b))
              | inr e ↦ omega (arith, e, w.1.1, b)
            ],
          ),
        )
    | inr b ↦ (i, (j, omega (arith, there m i j n h k, b)))
  ];
}

-- the columns keep their rows
pub rows_kept : (m : List (List ℕ)) (i j n : ℕ) → i < length m → All (λ c. length c ≡ 40) m → All (λ c. length c ≡ 40) (set m i (set (get_or m i []) j n))
rows_kept m i j n h a =
    All-set (λ c. length c ≡ 40) m i (set (get_or m i []) j n) (length-set (get_or m i []) j n ∙ All-get_or (λ c. length c ≡ 40) m i [] h a) a
