-- The parts of a list that an iterator has yielded, and what is left.
use Rattle.std.proofs.Common.{◌≡◌, ◌∙◌, List, [], ◌∷◌, ◌++◌, map, sym, ap, append_assoc}
use Rattle.std.proofs.lemmas.Grind.{flat_map-append}
use Rattle.std.proofs.lemmas.List.{append-nil, map-append}
use Rattle.hdr_figures.specs.TagSums.{joined}

-- one part more
pub parts_more : {K A : Type 0} (f : K → A) (parts : List (List A)) (part rest left : List K) (all : List A) → joined parts ++ map f rest ≡ all → rest ≡ part ++ left → joined (parts ++ map f part ∷ []) ++ map f left ≡ all
parts_more {K} {A} f parts part rest left all h e =
    let whole : joined (parts ++ map f part ∷ []) ≡ joined parts ++ (map f part ++ []) = flat_map-append (λ p. p) parts (map f part ∷ []) in
    let mapped : map f rest ≡ map f part ++ map f left = ap (map f) e ∙ map-append f part left in
    rw (whole, append-nil (map f part), append_assoc) (ap (λ r. joined parts ++ r) (sym mapped) ∙ h)

-- no part is left
pub parts_all : {K A : Type 0} (f : K → A) (parts : List (List A)) (rest : List K) → rest ≡ [] → joined parts ++ map f rest ≡ joined parts
parts_all f parts rest e = ap (λ r. joined parts ++ map f r) e ∙ append-nil (joined parts)
