-- Texts of groups, as lists of bytes.
use Rattle.std.proofs.Common.{◌≡◌, ℕ, Bool, true, false, List, [], ◌∷◌, ◌++◌, Option, Some, None, map, refl, sym, ap, ◌∙◌, cond, ◌||◌, if◌then◌else◌}
use Rattle.std.specs.List.{list_any, find}
use Rattle.std.specs.Str.{bytes_eq}
use Rattle.std.proofs.lemmas.List.{map-append}
use Rattle.std.proofs.lemmas.Slice.Eq.{bytes_eq-Decides}
use Rattle.indexmap.specs.IndexSet.{insert_key}
use Rattle.hdr_input.specs.Groups.{with_text}

-- a test of the images is that of the elements by their images
pub list_any-map : {X Y : Type 0} (f : X → Y) (p : Y → Bool) (xs : List X) → list_any p (map f xs) ≡ list_any (λ x. p (f x)) xs
list_any-map f p [] = refl
list_any-map f p (x ∷ xs) = ap (λ b. p (f x) || b) (list_any-map f p xs)

-- an element that is found passes the test
pub find-passes : {X : Type 0} (p : X → Bool) (xs : List X) (x : X) → find p xs ≡ Some x → p x ≡ true
find-passes p [] x e = cc
find-passes {X} p (y ∷ ys) x e =
    let cases : (b : Bool) → p y ≡ b → cond b (Some y) (find p ys) ≡ Some x → p x ≡ true =
    λ b h s. elim b as (λ b. p y ≡ b → cond b (Some y) (find p ys) ≡ Some x → p x ≡ true)
    [ true ↦ (λ h s. let k : y ≡ x = cc in rw (← k) h) | false ↦ (λ h s. find-passes p ys x s) ] h s in
    cases (p y) refl e

-- a text that is there stays where it is
pub with_text-known : (text : List ℕ) (texts : List (List ℕ)) → list_any (bytes_eq text) texts ≡ true → with_text text texts ≡ texts
with_text-known text texts e = rw e refl

-- a key is inserted as its text
pub with_text-insert : {K : Type 0} (f : K → List ℕ) (ks : List K) (k : K) → map f (insert_key (λ a b. bytes_eq (f a) (f b)) ks k) ≡ with_text (f k) (map f ks)
with_text-insert f ks k =
    let known : list_any (bytes_eq (f k)) (map f ks) ≡ list_any (λ x. bytes_eq (f k) (f x)) ks = list_any-map f (bytes_eq (f k)) ks in
    rw known (elim (list_any (λ x. bytes_eq (f k) (f x)) ks) as (λ b. map f (if b then ks else ks ++ k ∷ []) ≡ (if b then map f ks else map f ks ++ f k ∷ []))
    [ true ↦ refl | false ↦ map-append f ks (k ∷ []) ])
