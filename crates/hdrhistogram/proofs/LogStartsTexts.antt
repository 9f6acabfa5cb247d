-- What a builder's headers are written as.
use Rattle.std.proofs.Common.{◌≡◌, ℕ, ◌<◌, ◌^◌, ◌==◌, Bool, true, false, cond, List, [], ◌∷◌, ◌++◌, Option, Some, None, Result, Ok, Err, IfErr, length, refl, map, ap, arith, ◌∙◌, subst}
use Rattle.std.specs.List.{AllByRecursion}
use Rattle.hdr_log.specs.Pieces.{Piece, Comment, StartsAt, BasedAt, Divided, IsPiece, text_of}
use Rattle.hdrhistogram.specs.declared.serialization.interval_log.errors.IntervalLogWriterError.{IntervalLogWriterError}
use Rattle.hdrhistogram.specs.declared.serialization.interval_log.errors.IntervalLogWriterError.TheVariants.{SerializeError, IoError, TimeOutOfRange, OutOfMemory}
use Rattle.hdrhistogram.specs.LogStarts.{LogStart, new_start, thousandths_set, AreSmall, time_pieces, divisor_pieces, start_pieces, pieces_of, IsStartText}
use Rattle.hdrhistogram.specs.LogLeaving.{WritesText, IsIoError}

-- a text of which P holds is one of which Q holds
pub writes_as : {E : Type 0} (P Q : List ℕ → Type 0) (N : E → Type 0) (o n : Option (List ℕ)) (r : Result (Unit {0}) (IntervalLogWriterError E)) → ((t : List ℕ) → P t → Q t) → WritesText P N o n r → WritesText Q N o n r
writes_as P Q N o n (Ok u) f h = (h.0, f h.0 h.1, h.2)
writes_as P Q N o n (Err (SerializeError e)) f h = h
writes_as P Q N o n (Err (IoError e)) f h = (h.0, f h.0 h.1, h.2)
writes_as P Q N o n (Err TimeOutOfRange) f h = h
writes_as P Q N o n (Err OutOfMemory) f h = h

both : (xs ys : List Piece) → AllByRecursion IsPiece xs → AllByRecursion IsPiece ys → AllByRecursion IsPiece (xs ++ ys)
both [] ys a b = b
both (x ∷ xs) ys a b = (a.0, both xs ys a.1 b)

comments : (cs : List (List ℕ)) → AllByRecursion IsPiece (map Comment cs)
comments [] = tt
comments (c ∷ cs) = (tt, comments cs)

start : (t : Option ℕ) → AreSmall t → AllByRecursion IsPiece (time_pieces StartsAt t)
start None h = tt
start (Some t) h = (h, tt)

base : (t : Option ℕ) → AreSmall t → AllByRecursion IsPiece (time_pieces BasedAt t)
base None h = tt
base (Some t) h = (h, tt)

divisor : (b : Bool) (d : ℕ) → d < 2 ^ 64 → AllByRecursion IsPiece (cond b [] (Divided d ∷ []))
divisor true d h = tt
divisor false d h = (h, tt)

are_pieces : (cs : List (List ℕ)) (s b : Option ℕ) (d : ℕ) → AreSmall s → AreSmall b → d < 2 ^ 64 → AllByRecursion IsPiece (start_pieces cs s b d)
are_pieces cs s b d hs hb hd =
    both (map Comment cs) (time_pieces StartsAt s ++ (time_pieces BasedAt b ++ divisor_pieces d)) (comments cs)
    (both (time_pieces StartsAt s) (time_pieces BasedAt b ++ divisor_pieces d) (start s hs)
    (both (time_pieces BasedAt b) (divisor_pieces d) (base b hb) (divisor (d == 1) d hd)))

-- the text that was built is that of the builder
pub start_written : (v s : LogStart) (cs : List (List ℕ)) (st bt : Option ℕ) (d : ℕ) (nothing text now : List ℕ)
    → v ≡ s → cs ≡ v.comments → st ≡ thousandths_set v.start_time → bt ≡ thousandths_set v.base_time → d ≡ v.divisor
    → AreSmall st → AreSmall bt → d < 2 ^ 64 → nothing ≡ [] → text ≡ nothing ++ text_of (start_pieces cs st bt d) → now ≡ text
    → (t : List ℕ) → t ≡ now → IsStartText s t
start_written v s cs st bt d nothing text now vs ec es eb ed hs hb hd en et ew t e =
    let same : start_pieces cs st bt d ≡ pieces_of v
    = ap (λ x. start_pieces x st bt d) ec ∙ ap (λ x. start_pieces v.comments x bt d) es ∙ ap (λ x. start_pieces v.comments (thousandths_set v.start_time) x d) eb
    ∙ ap (λ x. start_pieces v.comments (thousandths_set v.start_time) (thousandths_set v.base_time) x) ed in
    let S : LogStart → Type 0 = λ z. IsStartText z t in
    let P : List Piece → Type 0 = λ ps. AllByRecursion IsPiece ps × (t ≡ text_of ps) in
    subst S vs (subst P same (are_pieces cs st bt d hs hb hd, e ∙ ew ∙ et ∙ ap (λ x. x ++ text_of (start_pieces cs st bt d)) en))

-- if nothing is set, nothing is to be written, and so no writer fails
pub plain_written : {E : Type 0} (s : LogStart) (o n : Option (List ℕ)) (r : Result (Unit {0}) (IntervalLogWriterError E)) → WritesText (IsStartText s) (λ _. ⊥) o n r → IfErr r IsIoError → s ≡ new_start → r ≡ Ok tt
plain_written s o n (Ok tt) h f e = refl
plain_written s o n (Err (IoError cause)) (text, (all, is), (count, few, front)) f e =
    let none : text_of (pieces_of s) ≡ [] = ap (λ z. text_of (pieces_of z)) e in
    let empty : length text ≡ 0 = ap (length {A = ℕ}) (is ∙ none) in
    absurd (omega (arith, few, empty))
plain_written s o n (Err (SerializeError x)) h f e = absurd f
plain_written s o n (Err TimeOutOfRange) h f e = absurd f
plain_written s o n (Err OutOfMemory) h f e = absurd f
