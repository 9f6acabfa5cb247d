-- Lists, element by element.
use Rattle.std.proofs.Common.{◌≡◌, ℕ, zero, suc, ◌+◌, ◌<◌, List, [], ◌∷◌, ◌++◌, length, map, get_or, append-nil, append_assoc, refl, ap, sym, ◌∙◌, arith}
use Rattle.std.specs.List.{All, AllZip, flat_map}
use Rattle.std.proofs.lemmas.List.Elements.{All-nil, All-cons, All-head, All-tail}

map-id : {X : Type 0} (xs : List X) → map (λ x. x) xs ≡ xs
map-id [] = refl
map-id (x ∷ xs) = ap (λ l. x ∷ l) (map-id xs)

-- at its end a loop over a vector has yielded its elements
pub all-yielded : {X : Type 0} (yielded all : List X) → map (λ x. x) yielded ≡ all → yielded ≡ all
all-yielded yielded all is = sym (map-id yielded) ∙ is

-- what is known of each two is known of those of an index
pub zip-at : {X Y : Type 0} (R : X → Y → Type 0) (xs : List X) (ys : List Y) (i : ℕ) (d : X) (e : Y) → AllZip R xs ys → i < length xs → R (get_or xs i d) (get_or ys i e)
zip-at R [] [] i d e all inside = absurd (omega arith)
zip-at R [] (y ∷ ys) i d e all inside = absurd all
zip-at R (x ∷ xs) [] i d e all inside = absurd all
zip-at R (x ∷ xs) (y ∷ ys) zero d e all inside = all.0
zip-at R (x ∷ xs) (y ∷ ys) (suc i) d e all inside = zip-at R xs ys i d e all.1 (omega arith)

-- one more element of a list that is joined of parts
pub flat-push : {X A : Type 0} (f : X → List A) (xs : List X) (x : X) → flat_map f (xs ++ x ∷ []) ≡ flat_map f xs ++ f x
flat-push f [] x = append-nil (f x)
flat-push f (y ∷ xs) x = ap (λ l. f y ++ l) (flat-push f xs x) ∙ sym (append_assoc (f y) (flat_map f xs) (f x))

-- what holds of each element with what each becomes
pub all-zip : {X Y : Type 0} (P : X → Type 0) (R : X → Y → Type 0) (Q : Y → Type 0) → ((x : X) (y : Y) → P x → R x y → Q y) → (xs : List X) (ys : List Y) → All P xs → AllZip R xs ys → All Q ys
all-zip P R Q f [] [] p r = All-nil Q
all-zip P R Q f [] (y ∷ ys) p r = absurd r
all-zip P R Q f (x ∷ xs) [] p r = absurd r
all-zip P R Q f (x ∷ xs) (y ∷ ys) p r = All-cons Q y ys (f x y (All-head P x xs p) r.0) (all-zip P R Q f xs ys (All-tail P x xs p) r.1)

pub all-weaker : {X : Type 0} (P Q : X → Type 0) → ((x : X) → P x → Q x) → (xs : List X) → All P xs → All Q xs
all-weaker P Q f [] p = All-nil Q
all-weaker P Q f (x ∷ xs) p = All-cons Q x xs (f x (All-head P x xs p)) (all-weaker P Q f xs (All-tail P x xs p))
