-- Bytes that are read, call by call.
use Rattle.std.proofs.Common.{◌≡◌, ℕ, ◌+◌, ◌-◌, ◌<◌, ◌≤◌, List, ◌++◌, length, take, drop, sym, ap, ◌∙◌, subst, arith, Option, Some, None, length-take-le, length-drop, length-append, append-nil, drop_of_length-le, []}
use Rattle.std.specs.Io.KnownBytes.{Consumes, Keeps}
use Rattle.std.proofs.KnownBytes.{Consumes-trans, Consumes-kept}
use Rattle.hdrhistogram.specs.Streams.{ConsumesFewer}
use borrow.Rule.Slice.PartMut.{put_mid, post_of}
use lib.Seq.{take-append-le}
use Rattle.std.proofs.Math.Seq.{take-append-add, take-append_seam}

-- the part of a buffer after a, filled by new, of which n bytes came
filled_is : (buffer new : List ℕ) (a n : ℕ) → a ≤ length buffer → n ≤ length new
    → take a buffer ++ take n new ≡ take (a + n) (put_mid a (length buffer - a) buffer new)
filled_is buffer new a n h k =
    let after = post_of a (length buffer - a) buffer in
    sym (ap (λ m. take (m + n) (take a buffer ++ (new ++ after))) (sym (length-take-le a buffer h))
    ∙ take-append-add (take a buffer) (new ++ after) n ∙ ap (λ l. take a buffer ++ l) (take-append-le n new after k))

pub Consumes-more : (x y z : Option (List ℕ)) (buffer new : List ℕ) (a n : ℕ) → a ≤ length buffer → n ≤ length new
    → Consumes x y (take a buffer) → Consumes y z (take n new)
    → Consumes x z (take (a + n) (put_mid a (length buffer - a) buffer new))
Consumes-more x y z buffer new a n h k p q = subst (Consumes x z) (filled_is buffer new a n h k) (Consumes-trans x y z _ _ p q)

-- a read that failed, or returned 0 bytes
pub Consumes-stopped : (x y z : Option (List ℕ)) (buffer : List ℕ) (a limit : ℕ) → a < limit → a ≤ length buffer
    → Consumes x y (take a buffer) → Keeps y z → ConsumesFewer x z limit
Consumes-stopped x y z buffer a limit h k p q = (take a buffer, omega (arith, length-take-le a buffer k), Consumes-kept x y z _ p q)

Keeps-none : (y z : Option (List ℕ)) (new : List ℕ) (n : ℕ) → n ≡ 0 → Consumes y z (take n new) → Keeps y z
Keeps-none None z new n e q = tt
Keeps-none (Some y) None new n e q = absurd q
Keeps-none (Some y) (Some z) new n e q = sym (rw e at q)

pub Consumes-ended : (x y z : Option (List ℕ)) (buffer new : List ℕ) (a n limit : ℕ) → a < limit → a ≤ length buffer → n ≡ 0
    → Consumes x y (take a buffer) → Consumes y z (take n new) → ConsumesFewer x z limit
Consumes-ended x y z buffer new a n limit h k e p q = Consumes-stopped x y z buffer a limit h k p (Keeps-none y z new n e q)

-- a buffer that grew from old, filled from `start` on by part
pub piece_text : (old grown part behind : List ℕ) (start piece all : ℕ) → take start grown ≡ old → start ≡ length old → length grown ≡ start + piece → length part ≡ piece → all ≡ start + piece
    → take all ((take start grown ++ (part ++ post_of start (length grown - start) grown)) ++ behind) ≡ old ++ part
piece_text old grown part behind start piece all front s g p a =
    let none : post_of start (length grown - start) grown ≡ [] = drop_of_length-le (drop start grown) {i = length grown - start} (omega (arith, length-drop start grown)) in
    let text : take start grown ++ (part ++ post_of start (length grown - start) grown) ≡ old ++ part
    = ap (λ l. l ++ (part ++ post_of start (length grown - start) grown)) front ∙ ap (λ l. old ++ (part ++ l)) none ∙ ap (λ l. old ++ l) (append-nil part) in
    let size : all ≡ length (old ++ part) = omega (arith, length-append old part) in
    ap (λ l. take all (l ++ behind)) text ∙ ap (λ n. take n ((old ++ part) ++ behind)) size ∙ take-append_seam (old ++ part) behind

pub grown_front : (old grown more : List ℕ) (start : ℕ) → start ≡ length old → grown ≡ old ++ more → take start grown ≡ old
grown_front old grown more start s e = ap (take start) e ∙ ap (λ n. take n (old ++ more)) s ∙ take-append_seam old more
