-- A text that is read piece by piece.
use Rattle.std.proofs.Common.{◌≡◌, ℕ, suc, ◌+◌, ◌-◌, ◌≤◌, List, [], ◌∷◌, ◌++◌, Option, Some, None, IfSome, length, take, drop, get_or, refl, sym, ap, subst, ◌∙◌, arith, append_assoc, append-nil}
use Rattle.std.proofs.Math.Seq.{take-add, take-append-add}
use Rattle.std.proofs.lemmas.List.{take-take, take-append-le, length-take, length-take-le}
use Rattle.std.specs.Io.{IsEmptyOrEndsWith}
use Rattle.std.specs.Io.KnownBytes.{Consumes, IsAtEnd}
use Rattle.hdr_input.specs.Lines.{IsComplete}
use Rattle.std.proofs.KnownBytes.{Consumes-trans}

-- at the end of a reader, all that it had is read
pub all_read : (a c : Option (List ℕ)) (text : List ℕ) (P : List ℕ → Type 0) → Consumes a c text → IsAtEnd c → P text → IfSome a P
all_read None c text P gave end holds = tt
all_read (Some whole) None text P gave end holds = absurd gave
all_read (Some whole) (Some rest) text P gave end holds = subst P (sym (gave ∙ ap (λ l. text ++ l) end ∙ append-nil text)) holds

-- bytes that were read behind those of a line that is not complete
pub read_behind : (a b c : Option (List ℕ)) (done held read : List ℕ) → Consumes a b (done ++ held) → Consumes b c read → Consumes a c (done ++ (held ++ read))
read_behind a b c done held read before gave = subst (Consumes a c) (append_assoc done held read) (Consumes-trans a b c (done ++ held) read before gave)

-- the start of a piece is complete, and the rest is held
pub front_complete : (a c : Option (List ℕ)) (done piece : List ℕ) (n m : ℕ) → Consumes a c (done ++ take (n + m) piece) → Consumes a c ((done ++ take n piece) ++ take m (drop n piece))
front_complete a c done piece n m gave = subst (Consumes a c) (ap (λ l. done ++ l) (take-add n m piece) ∙ sym (append_assoc done (take n piece) (take m (drop n piece)))) gave

-- both texts end with LF, or are empty
pub both_complete : (text more : List ℕ) → IsComplete text → IsComplete more → IsComplete (text ++ more)
both_complete [] more p q = q
both_complete (x ∷ []) [] p q = p
both_complete (x ∷ []) (y ∷ ys) p q = q
both_complete (x ∷ y ∷ xs) more p q = both_complete (y ∷ xs) more p q

-- what is behind the first byte ends with LF, or is empty
tail_complete : (x : ℕ) (xs : List ℕ) → IsEmptyOrEndsWith (x ∷ xs) 10 → IsEmptyOrEndsWith xs 10
tail_complete x xs ends = λ some.
    let at : suc (length xs - 1) ≡ length (x ∷ xs) - 1 = omega (arith, some) in
    ap (λ i. get_or (x ∷ xs) i 0) at ∙ ends (omega arith)

-- a text whose last byte is LF is complete
pub ends_complete : (text : List ℕ) → IsEmptyOrEndsWith text 10 → IsComplete text
ends_complete [] ends = tt
ends_complete (x ∷ []) ends = ends (omega arith)
ends_complete (x ∷ y ∷ xs) ends = ends_complete (y ∷ xs) (tail_complete x (y ∷ xs) ends)

-- bytes behind the start of a buffer
pub put_behind : (items view new post tail : List ℕ) (len held count : ℕ) → view ≡ items → length view ≡ len → held + count ≤ len → count ≤ length new
    → take (held + count) (take len (take held view ++ (new ++ post) ++ tail)) ≡ take held items ++ take count new
put_behind items view new post tail len held count is long within some =
    let front = take held view in
    let size : length front ≡ held = length-take-le held view (omega (arith, within, long)) in
    let joined : front ++ (new ++ post) ++ tail ≡ front ++ (new ++ (post ++ tail)) = append_assoc front (new ++ post) tail ∙ ap (λ l. front ++ l) (append_assoc new post tail) in
    take-take (held + count) len (front ++ (new ++ post) ++ tail) within ∙ ap (take (held + count)) joined
    ∙ ap (λ n. take (n + count) (front ++ (new ++ (post ++ tail)))) (sym size) ∙ take-append-add front (new ++ (post ++ tail)) count
    ∙ ap (λ l. front ++ l) (take-append-le count new (post ++ tail) some) ∙ ap (λ l. take held l ++ take count new) is

pub below_end : (view : List ℕ) (end n : ℕ) → n ≤ length (take end view) → n ≤ end
below_end view end n l = omega (arith, l, length-take end view)

-- the complete lines of a piece are those that the sink takes
pub lines_complete : (items view lines : List ℕ) (end complete : ℕ) → view ≡ items → lines ≡ items → complete ≤ end → IsEmptyOrEndsWith (take complete (take end view)) 10
    → IsComplete (take complete lines)
lines_complete items view lines end complete seen sent low ends =
    subst IsComplete (take-take complete end view low ∙ ap (take complete) (seen ∙ sym sent)) (ends_complete (take complete (take end view)) ends)

-- what is read of a piece, and what was held before it
abbrev pub IsReadBehind : Option (List ℕ) → Option (List ℕ) → List ℕ → List ℕ → Type 0
IsReadBehind b c held piece = (bytes : List ℕ) × Consumes b c bytes × (piece ≡ held ++ bytes)

-- the sink takes the complete lines of a piece, and the rest is held
pub piece_taken : (a b c : Option (List ℕ)) (done old items lines kept : List ℕ) (held end complete : ℕ) → lines ≡ items → complete ≤ end
    → Consumes a b (done ++ take held old) → IsReadBehind b c (take held old) (take end items)
    → take (end - complete) kept ≡ take (end - complete) (drop complete items) → Consumes a c ((done ++ take complete lines) ++ take (end - complete) kept)
piece_taken a b c done old items lines kept held end complete sent low before read rest =
    let all : Consumes a c (done ++ take end items) = subst (λ l. Consumes a c (done ++ l)) (sym read.2) (read_behind a b c done (take held old) read.0 before read.1) in
    let parts : end ≡ complete + (end - complete) = omega (arith, low) in
    let split : Consumes a c ((done ++ take complete items) ++ take (end - complete) (drop complete items)) =
    front_complete a c done items complete (end - complete) (subst (λ n. Consumes a c (done ++ take n items)) parts all) in
    subst (λ l. Consumes a c ((done ++ take complete l) ++ take (end - complete) kept)) (sym sent)
    (subst (λ l. Consumes a c ((done ++ take complete items) ++ l)) (sym rest) split)

-- the sink takes all of the last piece
pub last_taken : (a b c : Option (List ℕ)) (done old items lines : List ℕ) (held end complete : ℕ) → lines ≡ items → complete ≡ end
    → Consumes a b (done ++ take held old) → IsReadBehind b c (take held old) (take end items) → Consumes a c (done ++ take complete lines)
last_taken a b c done old items lines held end complete sent same before read =
    let low : complete ≤ end = omega (arith, same) in
    let none : end - complete ≡ 0 = omega (arith, same) in
    let taken = piece_taken a b c done old items lines (drop complete items) held end complete sent low before read refl in
    subst (Consumes a c) (ap (λ n. (done ++ take complete lines) ++ take n (drop complete items)) none ∙ append-nil (done ++ take complete lines)) taken
