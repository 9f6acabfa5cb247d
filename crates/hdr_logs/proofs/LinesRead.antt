-- A line that is read part by part.
use Rattle.std.proofs.Common.{◌≡◌, ◌≢◌, ℕ, Bool, true, false, List, [], ◌++◌, Option, Some, None, IfSome, OnSome, length, All, refl, sym, subst, ◌∙◌}
use Rattle.std.specs.Io.{StartsWith, StopsAt, IsEmptyOrEndsWith, appended_bytes}
use Rattle.std.specs.Io.KnownBytes.{Consumes, IsAtEnd}
use Rattle.std.specs.Io.BufRead.{take_through, DropsThrough}
use Rattle.std.proofs.lemmas.List.Elements.{All-append}
use Rattle.std.proofs.KnownBytes.{starts_with_rest, Consumes-trans}
use Rattle.std.proofs.BufReadLemmas.{Consumes_through, IsAtEnd-of_take_through}
use Rattle.hdr_logs.specs.Lines.{ReadsLine}

known_same : (a : Option (List ℕ)) (part whole : List ℕ) (f : List ℕ → List ℕ) → whole ≡ part → IfSome a (λ xs. part ≡ f xs) → IfSome a (λ xs. whole ≡ f xs)
known_same None part whole f e h = tt
known_same (Some xs) part whole f e h = e ∙ h

-- the last part of a line
pub line_read : (a b c : Option (List ℕ)) (done new : List ℕ) → All (λ x. x ≢ 10) done → Consumes a b done → StartsWith new done → StopsAt (appended_bytes done new) 10
    → Consumes b c (appended_bytes done new) → IsEmptyOrEndsWith (appended_bytes done new) 10 → (length (appended_bytes done new) ≡ 0 → OnSome b (IsAtEnd c))
    → IfSome a (λ xs. new ≡ take_through 10 xs) × DropsThrough a c 10
line_read a b c done new open_ended taken starts stops bytes ends end =
    let read = Consumes_through 10 a b c done (appended_bytes done new) taken open_ended bytes stops ends end in
    (known_same a (done ++ appended_bytes done new) new (take_through 10) (starts_with_rest new done starts) read.0, read.1)

pub no_line_read : (a c : Option (List ℕ)) (new : List ℕ) → IfSome a (λ xs. new ≡ take_through 10 xs) × DropsThrough a c 10 → length new ≡ 0 → ReadsLine a c false new
no_line_read a c new h none = (IsAtEnd-of_take_through 10 a [] new h.0 none, h.1)

-- a part of a line that has no LF
pub part_open : (done new : List ℕ) → StartsWith new done → All (λ x. x ≢ 10) done → All (λ x. x ≢ 10) (appended_bytes done new) → All (λ x. x ≢ 10) new
part_open done new starts d p = subst (All (λ x. x ≢ 10)) (sym (starts_with_rest new done starts)) (All-append (λ x. x ≢ 10) done (appended_bytes done new) d p)

pub part_taken : (a b c : Option (List ℕ)) (done new : List ℕ) → StartsWith new done → Consumes a b done → Consumes b c (appended_bytes done new) → Consumes a c new
part_taken a b c done new starts d p = subst (Consumes a c) (sym (starts_with_rest new done starts)) (Consumes-trans a b c done (appended_bytes done new) d p)

-- a line is read if it is not empty, and otherwise none
pub some_read : (a c : Option (List ℕ)) (new : List ℕ) (b : Bool) → (b ≡ false → length new ≡ 0) → IfSome a (λ xs. new ≡ take_through 10 xs) × DropsThrough a c 10 → ReadsLine a c b new
some_read a c new true none h = h
some_read a c new false none h = no_line_read a c new h (none refl)
