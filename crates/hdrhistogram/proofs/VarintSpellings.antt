-- Varints of numbers: none is a prefix of another, and each number of 64 bits has one that is
-- shortest.
use Rattle.std.proofs.Common.{◌≡◌, ℕ, zero, suc, ◌+◌, ◌*◌, ◌/◌, ◌%◌, ◌^◌, ◌<◌, ◌≤◌, Bool, true, false, cond, List, [], ◌∷◌, ◌++◌, length, refl, sym, ap, ◌∙◌, arith, MatchBool, pow-add, ltb, inl, inr}
use Rattle.std.proofs.lemmas.Bool.{ltb-true, ltb-false, le-ltb, cases_lt}
use Rattle.std.specs.List.{AllByRecursion}
use Rattle.hdrhistogram.specs.Varint.{IsSpelling, number_of_spelling, Spells, IsShortest}

-- ---- the number of a varint

last_of : (left : ℕ) (t s : Bool) (a b x y : List ℕ) → t ≡ s → MatchBool t (a ≡ []) (IsSpelling left a) → MatchBool s (b ≡ []) (IsSpelling left b) → a ++ x ≡ b ++ y
    → (IsSpelling left a → IsSpelling left b → a ≡ b) → a ≡ b
last_of left true true a b x y e p q same again = p ∙ sym q
last_of left false false a b x y e p q same again = again p q
last_of left true false a b x y e p q same again = cc
last_of left false true a b x y e p q same again = cc

-- two varints at the start of one text are one
pub one_of : (left : ℕ) (a b x y : List ℕ) → IsSpelling left a → IsSpelling left b → a ++ x ≡ b ++ y → a ≡ b
unfolding IsSpelling
one_of left [] b x y p q e = absurd p
one_of left (c ∷ a) [] x y p q e = absurd q
one_of zero (c ∷ a) (d ∷ b) x y p q e = let same : c ≡ d = cc in cc
one_of (suc left) (c ∷ a) (d ∷ b) x y p q e =
    let same : c ≡ d = cc in
    let rest : a ++ x ≡ b ++ y = cc in
    let equal = last_of left (ltb c 128) (ltb d 128) a b x y (ap (λ n. ltb n 128) same) p q rest (λ p' q'. one_of left a b x y p' q' rest) in
    cc

pub one_spelling_of : (a b x y : List ℕ) (m n : ℕ) → Spells a m → Spells b n → a ++ x ≡ b ++ y → (a ≡ b) × (m ≡ n)
one_spelling_of a b x y m n p q e =
    let same = one_of 8 a b x y p.whole q.whole e in
    (same, p.value ∙ ap (number_of_spelling 8) same ∙ sym q.value)

-- a varint has a byte
pub some_byte : (left : ℕ) (a : List ℕ) → IsSpelling left a → 0 < length a
unfolding IsSpelling
some_byte left [] p = absurd p
some_byte left (c ∷ a) p = omega arith

pub nothing_spelled : (left : ℕ) → number_of_spelling left [] ≡ 0
unfolding number_of_spelling
nothing_spelled left = refl

same_more : (t s : Bool) (left c d : ℕ) (a b : List ℕ) → ltb c 128 ≡ t → ltb d 128 ≡ s → MatchBool t (a ≡ []) (IsSpelling left a) → MatchBool s (b ≡ []) (IsSpelling left b)
    → c < 256 → d < 256 → length a ≡ length b → c % 128 + 128 * number_of_spelling left a ≡ d % 128 + 128 * number_of_spelling left b
    → (IsSpelling left a → IsSpelling left b → number_of_spelling left a ≡ number_of_spelling left b → a ≡ b) → (c ≡ d) × (a ≡ b)
same_more true true left c d a b e f p q h k size value again =
    let none : number_of_spelling left a ≡ 0 = ap (number_of_spelling left) p ∙ nothing_spelled left in
    let no : number_of_spelling left b ≡ 0 = ap (number_of_spelling left) q ∙ nothing_spelled left in
    (omega (arith, ltb-true c 128 e, ltb-true d 128 f), p ∙ sym q)
same_more false false left c d a b e f p q h k size value again =
    (omega (arith, ltb-false c 128 e, ltb-false d 128 f), again p q (omega arith))
same_more true false left c d a b e f p q h k size value again = absurd (omega (arith, some_byte left b q, ap (length {A = ℕ}) p))
same_more false true left c d a b e f p q h k size value again = absurd (omega (arith, some_byte left a p, ap (length {A = ℕ}) q))

-- two varints of one number that have the same length are one
same_from : (left : ℕ) (a b : List ℕ) → IsSpelling left a → IsSpelling left b → AllByRecursion (λ x. x < 256) a → AllByRecursion (λ x. x < 256) b
    → length a ≡ length b → number_of_spelling left a ≡ number_of_spelling left b → a ≡ b
unfolding IsSpelling number_of_spelling
same_from left [] b p q h k size value = absurd p
same_from left (c ∷ a) [] p q h k size value = absurd q
same_from zero (c ∷ a) (d ∷ b) p q h k size value = cc
same_from (suc left) (c ∷ a) (d ∷ b) p q h k size value =
    let both = same_more (ltb c 128) (ltb d 128) left c d a b refl refl p q h.0 k.0 (omega arith) value (λ p' q' v. same_from left a b p' q' h.1 k.1 (omega arith) v) in
    let first = both.0 in
    let rest = both.1 in
    cc

-- no number has two shortest varints
pub one_shortest : (n : ℕ) (a b : List ℕ) → IsShortest a n → IsShortest b n → a ≡ b
one_shortest n a b p q =
    let fewer = p.least b q.spells in
    let more = q.least a p.spells in
    same_from 8 a b p.spells.whole q.spells.whole p.spells.bytes q.spells.bytes (omega arith) (sym p.spells.value ∙ q.spells.value)

-- ---- the varint that is written, as a function

unfoldable pub spelling_from : ℕ → ℕ → List ℕ
spelling_from zero n = n ∷ []
spelling_from (suc left) n = cond (ltb n 128) (n ∷ []) ((n % 128 + 128) ∷ spelling_from left (n / 128))

unfoldable pub spelling : ℕ → List ℕ
spelling n = spelling_from 8 n

written_more : (b : Bool) (left n : ℕ) → ltb n 128 ≡ b → IsSpelling left (spelling_from left (n / 128)) → n / 128 ≡ number_of_spelling left (spelling_from left (n / 128))
    → IsSpelling (suc left) (cond b (n ∷ []) ((n % 128 + 128) ∷ spelling_from left (n / 128)))
    × (n ≡ number_of_spelling (suc left) (cond b (n ∷ []) ((n % 128 + 128) ∷ spelling_from left (n / 128))))
unfolding IsSpelling number_of_spelling
written_more true left n e p q = (rw e refl, omega (arith, ltb-true n 128 e))
written_more false left n e p q = (rw (le-ltb (n % 128 + 128) 128 (omega arith)) p, omega (arith, ltb-false n 128 e))

written_from : (left n : ℕ) → IsSpelling left (spelling_from left n) × (n ≡ number_of_spelling left (spelling_from left n))
unfolding IsSpelling number_of_spelling spelling_from
written_from zero n = (refl, refl)
written_from (suc left) n = let rest = written_from left (n / 128) in written_more (ltb n 128) left n refl rest.0 rest.1

bytes_more : (b : Bool) (left n : ℕ) → ltb n 128 ≡ b → AllByRecursion (λ x. x < 256) (spelling_from left (n / 128))
    → AllByRecursion (λ x. x < 256) (cond b (n ∷ []) ((n % 128 + 128) ∷ spelling_from left (n / 128)))
bytes_more true left n e p = (omega (arith, ltb-true n 128 e), tt)
bytes_more false left n e p = (omega arith, p)

power_more : (left : ℕ) → 2 ^ (7 * suc left + 8) ≡ 128 * 2 ^ (7 * left + 8)
power_more left = let e : 7 * suc left + 8 ≡ 7 + (7 * left + 8) = omega arith in ap (λ k. 2 ^ k) e ∙ pow-add 2 7 (7 * left + 8)

bytes_from : (left n : ℕ) → n < 2 ^ (7 * left + 8) → AllByRecursion (λ x. x < 256) (spelling_from left n)
unfolding spelling_from
bytes_from zero n h = (h, tt)
bytes_from (suc left) n h = bytes_more (ltb n 128) left n refl (bytes_from left (n / 128) (omega (arith, power_more left)))

least_more : (b t : Bool) (left n c : ℕ) (a : List ℕ) → ltb n 128 ≡ b → ltb c 128 ≡ t → MatchBool t (a ≡ []) (IsSpelling left a) → n ≡ c % 128 + 128 * number_of_spelling left a
    → (IsSpelling left a → n / 128 ≡ number_of_spelling left a → length (spelling_from left (n / 128)) ≤ length a)
    → length (cond b (n ∷ []) ((n % 128 + 128) ∷ spelling_from left (n / 128))) ≤ suc (length a)
unfolding number_of_spelling
least_more true t left n c a e f p q again = omega arith
least_more false true left n c a e f p q again =
    let none : number_of_spelling left a ≡ 0 = ap (number_of_spelling left) p in absurd (omega (arith, ltb-false n 128 e))
least_more false false left n c a e f p q again = omega (arith, again p (omega arith))

least_from : (left n : ℕ) (other : List ℕ) → IsSpelling left other → n ≡ number_of_spelling left other → length (spelling_from left n) ≤ length other
unfolding IsSpelling number_of_spelling spelling_from
least_from left n [] p e = absurd p
least_from zero n (c ∷ a) p e = omega arith
least_from (suc left) n (c ∷ a) p e = least_more (ltb n 128) (ltb c 128) left n c a refl refl p e (λ p' e'. least_from left (n / 128) a p' e')

pub spelling_spells : (n : ℕ) → n < 2 ^ 64 → Spells (spelling n) n
unfolding spelling
spelling_spells n h = record { bytes = bytes_from 8 n h; whole = (written_from 8 n).0; value = (written_from 8 n).1 }

pub spelling_least : (n : ℕ) → n < 2 ^ 64 → IsShortest (spelling n) n
unfolding spelling
spelling_least n h = record { spells = spelling_spells n h; least = λ other p. least_from 8 n other p.whole p.value }

-- a shortest varint is the one that is written
pub shortest_is : (n : ℕ) (text : List ℕ) → n < 2 ^ 64 → IsShortest text n → text ≡ spelling n
shortest_is n text h p = one_shortest n text (spelling n) p (spelling_least n h)

length_at_most : (left n : ℕ) → length (spelling_from left n) ≤ left + 1
unfolding spelling_from
length_at_most zero n = omega arith
length_at_most (suc left) n = at_most (ltb n 128) n (n % 128 + 128) (spelling_from left (n / 128)) (length_at_most left (n / 128))
  where
    at_most : (b : Bool) (n m : ℕ) (more : List ℕ) → length more ≤ left + 1 → length (cond b (n ∷ []) (m ∷ more)) ≤ suc left + 1
    at_most true n m more h = omega arith
    at_most false n m more h = omega arith

pub spelling_short : (n : ℕ) → length (spelling n) ≤ 9
unfolding spelling
spelling_short n = length_at_most 8 n

-- a canonical varint has at most nine bytes
pub shortest_short : (n : ℕ) (text : List ℕ) → n < 2 ^ 64 → IsShortest text n → length text ≤ 9
shortest_short n text h p = omega (arith, spelling_short n, ap (length {A = ℕ}) (shortest_is n text h p))

-- a complete varint has at most as many bytes of seven bits as may come, and one of eight
spelling_ends : (left : ℕ) (text : List ℕ) → IsSpelling left text → length text ≤ left + 1
unfolding IsSpelling
spelling_ends left [] h = absurd h
spelling_ends zero (b ∷ bs) h = rw h (omega arith)
spelling_ends (suc left) (b ∷ bs) h = got (ltb b 128) (λ more. spelling_ends left bs more) h
  where
    got : (t : Bool) → (IsSpelling left bs → length bs ≤ left + 1) → MatchBool t (bs ≡ []) (IsSpelling left bs) → length (b ∷ bs) ≤ suc left + 1
    got true rest none = rw none (omega arith)
    got false rest more = omega (arith, rest more)

-- a varint fits if there are nine bytes, or if it is known to fit
pub shortest_room : (n room : ℕ) → n < 2 ^ 64 → (room < 9 → (text : List ℕ) → IsShortest text n → length text ≤ room) → (text : List ℕ) → IsShortest text n → length text ≤ room
shortest_room n room fits h text shortest = elim (cases_lt room 9) [
  | inl few ↦ h few text shortest
  | inr enough ↦ omega (arith, enough, shortest_short n text fits shortest)
]

pub spelling_room : (n room : ℕ) → n < 2 ^ 64 → (room < 9 → (text : List ℕ) → IsShortest text n → length text ≤ room) → length (spelling n) ≤ room
spelling_room n room fits h = shortest_room n room fits h (spelling n) (spelling_least n fits)

pub spelt_short : (n : ℕ) (text : List ℕ) → Spells text n → length text ≤ 9
spelt_short n text s = spelling_ends 8 text s.whole
