-- The text that a log starts with, part by part.
use Rattle.std.proofs.Common.{◌≡◌, ℕ, List, [], ◌∷◌, ◌++◌, Option, Result, Ok, Err, OnOk, map, refl, sym, ap, ◌∙◌, append_assoc}
use Rattle.std.specs.List.{flat_map}
use Rattle.hdr_log.specs.Pieces.{Piece, Comment, StartsAt, BasedAt, piece_text, text_of}
use Rattle.hdrhistogram.specs.LogStarts.{time_pieces, divisor_pieces, start_pieces}

pub on_ok : {A E P Q : Type 0} (r : Result A E) → (P → Q) → OnOk r P → OnOk r Q
on_ok (Ok x) f h = f h
on_ok (Err e) f h = tt

pub text_of-append : (a b : List Piece) → text_of (a ++ b) ≡ text_of a ++ text_of b
text_of-append [] b = refl
text_of-append (p ∷ a) b = ap (λ t. piece_text p ++ t) (text_of-append a b) ∙ sym (append_assoc (piece_text p) (text_of a) (text_of b))

comments : {A : Type 0} (f : A → List ℕ) (cs : List A) → flat_map (λ c. piece_text (Comment (f c))) cs ≡ text_of (map Comment (map f cs))
comments f [] = refl
comments f (c ∷ cs) = ap (λ t. piece_text (Comment (f c)) ++ t) (comments f cs)

headers : (start base : Option ℕ) (divisor : ℕ) → text_of (time_pieces StartsAt start ++ (time_pieces BasedAt base ++ divisor_pieces divisor)) ≡ text_of (time_pieces StartsAt start) ++ (text_of (time_pieces BasedAt base) ++ text_of (divisor_pieces divisor))
headers start base divisor =
    text_of-append (time_pieces StartsAt start) (time_pieces BasedAt base ++ divisor_pieces divisor)
    ∙ ap (λ t. text_of (time_pieces StartsAt start) ++ t) (text_of-append (time_pieces BasedAt base) (divisor_pieces divisor))

-- comments, and then headers
pub begun : {A : Type 0} (f : A → List ℕ) (cs : List A) (start base : Option ℕ) (divisor : ℕ) (old mid new : List ℕ)
    → mid ≡ old ++ flat_map (λ c. piece_text (Comment (f c))) cs
    → new ≡ mid ++ (text_of (time_pieces StartsAt start) ++ (text_of (time_pieces BasedAt base) ++ text_of (divisor_pieces divisor)))
    → new ≡ old ++ text_of (start_pieces (map f cs) start base divisor)
begun f cs start base divisor old mid new a b =
    b ∙ ap (λ t. t ++ (text_of (time_pieces StartsAt start) ++ (text_of (time_pieces BasedAt base) ++ text_of (divisor_pieces divisor)))) (a ∙ ap (λ t. old ++ t) (comments f cs))
    ∙ append_assoc old (text_of (map Comment (map f cs))) _
    ∙ ap (λ t. old ++ t) (ap (λ t. text_of (map Comment (map f cs)) ++ t) (sym (headers start base divisor)) ∙ sym (text_of-append (map Comment (map f cs)) (time_pieces StartsAt start ++ (time_pieces BasedAt base ++ divisor_pieces divisor))))
