-- Elements of lists, one after the other.
use Rattle.std.proofs.Common.{◌≡◌, ℕ, zero, suc, ◌+◌, ◌<◌, List, [], ◌∷◌, ◌++◌, length, take, get_or, ap, sym, subst, ◌∙◌, arith}
use Rattle.std.specs.List.{AllZip}
use Rattle.std.proofs.lemmas.List.{take_more}

-- one more of each of two lists
pub zip-push : {X Y : Type 0} (R : X → Y → Type 0) (xs : List X) (ys : List Y) (x : X) (y : Y) → AllZip R xs ys → R x y → AllZip R (xs ++ x ∷ []) (ys ++ y ∷ [])
zip-push R [] [] x y all one = (one, tt)
zip-push R [] (b ∷ ys) x y all one = absurd all
zip-push R (a ∷ xs) [] x y all one = absurd all
zip-push R (a ∷ xs) (b ∷ ys) x y all one = (all.0, zip-push R xs ys x y all.1 one)

pub zip-map : {X Y Z : Type 0} (R : X → Y → Type 0) (S : X → Z → Type 0) (T : Y → Z → Type 0) (xs : List X) (ys : List Y) (zs : List Z) → ((x : X) (y : Y) (z : Z) → R x y → T y z → S x z) → AllZip R xs ys → AllZip T ys zs → AllZip S xs zs
zip-map R S T [] [] [] f r t = tt
zip-map R S T [] [] (z ∷ zs) f r t = absurd t
zip-map R S T [] (y ∷ ys) zs f r t = absurd r
zip-map R S T (x ∷ xs) [] zs f r t = absurd r
zip-map R S T (x ∷ xs) (y ∷ ys) [] f r t = absurd t
zip-map R S T (x ∷ xs) (y ∷ ys) (z ∷ zs) f r t = (f x y z r.0 t.0, zip-map R S T xs ys zs f r.1 t.1)

-- one more of each of two lists, of the first up to an index
pub zip-more : {X Y : Type 0} (R : X → Y → Type 0) (xs : List X) (ys : List Y) (i : ℕ) (x : X) (y : Y) → i < length xs → x ≡ get_or xs i x → AllZip R (take i xs) ys → R x y → AllZip R (take (i + 1) xs) (ys ++ y ∷ [])
zip-more R xs ys i x y inside is all one = subst (λ l. AllZip R l (ys ++ y ∷ [])) (ap (λ z. take i xs ++ z ∷ []) is ∙ sym (take_more xs i x inside)) (zip-push R (take i xs) ys x y all one)

-- what is at one index of two lists
pub zip-at : {X Y : Type 0} (R : X → Y → Type 0) (xs : List X) (ys : List Y) (i : ℕ) (x : X) (y : Y) → AllZip R xs ys → i < length xs → x ≡ get_or xs i x → y ≡ get_or ys i y → R x y
zip-at R [] ys i x y all inside is at = absurd (omega (arith, inside))
zip-at R (a ∷ xs) [] i x y all inside is at = absurd all
zip-at R (a ∷ xs) (b ∷ ys) zero x y all inside is at = subst (λ u. R u y) (sym is) (subst (R a) (sym at) all.0)
zip-at R (a ∷ xs) (b ∷ ys) (suc i) x y all inside is at = zip-at R xs ys i x y all.1 (omega (arith, inside)) is at
