-- One more element of lists that are compared, and tags.
use Rattle.std.proofs.Common.{◌≡◌, ℕ, ◌+◌, ◌<◌, Bool, false, true, cond, ◌||◌, List, [], ◌∷◌, ◌++◌, length, map, take, get_or, refl, sym, ap, ◌∙◌, subst, append_assoc, arith, min, ◌*◌, ◌-◌, ◌^◌, ◌≤◌, zero, suc, inl, inr}
use Rattle.std.proofs.lemmas.Bool.{cases_lt}
use Rattle.std.proofs.lemmas.Bool.Decides.{nat_tests}
use Rattle.std.proofs.Common.{Option, Some}
use Rattle.std.specs.List.{Contains}
use Rattle.std.proofs.lemmas.List.Elements.{Contains-get_or}
use Rattle.std.proofs.lemmas.List.{get_or-map}
use Rattle.hdr_compare.specs.Tiers.{tier_of}
use Rattle.hdr_runs.specs.Reports.{IsErrorAt, IsPairError, IsReportError, comparisons, subject, tags_of}
use Rattle.hdr_runs.specs.declared.report.NamedRun.{NamedRun}
use Rattle.hdr_runs.specs.declared.report.ReportError.{ReportError}
use Rattle.hdr_runs.specs.declared.report.ReportError.TheVariants.{TooManyComparisons, TooLarge, OutOfMemory}
use Rattle.hdr_summary.specs.declared.percentile.Percentile.{Percentile}
use Rattle.hdr_runs.specs.declared.side.Side.{Side}
use Rattle.hdr_compare.specs.declared.tiers.Tier.{Tier}
use Rattle.std.specs.List.{AllZip, list_any, fold}
use Rattle.std.proofs.lemmas.List.{length-map, map-append, take_more}

pub any_of_map : {A B : Type 0} (f : A → B) (p : B → Bool) (xs : List A) → list_any p (map f xs) ≡ list_any (λ x. p (f x)) xs
any_of_map f p [] = refl
any_of_map f p (x ∷ xs) = ap (λ b. p (f x) || b) (any_of_map f p xs)

pub zip_more : {A B : Type 0} (R : A → B → Type 0) (xs : List A) (ys : List B) (x : A) (y : B) → AllZip R xs ys → R x y
    → AllZip R (xs ++ x ∷ []) (ys ++ y ∷ [])
zip_more R [] [] x y all is = (is, tt)
zip_more R (a ∷ xs) (b ∷ ys) x y all is = (all.0, zip_more R xs ys x y all.1 is)
zip_more R [] (b ∷ ys) x y all is = absurd all
zip_more R (a ∷ xs) [] x y all is = absurd all

-- one more of a list
pub zip_taken : {A B : Type 0} (R : A → B → Type 0) (xs : List A) (i : ℕ) (d : A) (ys : List B) (y : B) → i < length xs
    → AllZip R (take i xs) ys → R (get_or xs i d) y → AllZip R (take (i + 1) xs) (ys ++ y ∷ [])
zip_taken {A} {B} R xs i d ys y lt all is =
    let P : List A → Type 0 = λ l. AllZip R l (ys ++ y ∷ []) in
    subst P (sym (take_more xs i d lt)) (zip_more R (take i xs) ys (get_or xs i d) y all is)

pub map_taken : {A B : Type 0} (f : A → B) (xs : List A) (i : ℕ) (d : A) → i < length xs
    → map f (take (i + 1) xs) ≡ map f (take i xs) ++ f (get_or xs i d) ∷ []
map_taken {A} {B} f xs i d lt = ap (map f) (take_more xs i d lt) ∙ map-append f (take i xs) (get_or xs i d ∷ [])

pub fold_over : {A B : Type 0} (f : B → A → B) (b : B) (xs ys : List A) → fold f (fold f b xs) ys ≡ fold f b (xs ++ ys)
fold_over f b [] ys = refl
fold_over f b (x ∷ xs) ys = fold_over f (f b x) xs ys

-- a new element that is not among those that are there, and one that is
pub with_new : {A B : Type 0} (f : A → B) (p : B → Bool) (xs : List A) (x : A) → list_any (λ y. p (f y)) xs ≡ false
    → map f (xs ++ x ∷ []) ≡ cond (list_any p (map f xs)) (map f xs) (map f xs ++ f x ∷ [])
with_new f p xs x none = rw (any_of_map f p xs, none) (map-append f xs (x ∷ []))

pub with_old : {A B : Type 0} (f : A → B) (p : B → Bool) (xs : List A) (x : A) → list_any (λ y. p (f y)) xs ≡ true
    → map f xs ≡ cond (list_any p (map f xs)) (map f xs) (map f xs ++ f x ∷ [])
with_old f p xs x some = rw (any_of_map f p xs, some) refl

-- one more of a list whose elements are those of `map`
pub zip_mapped : {A B C : Type 0} (R : B → C → Type 0) (g : A → B) (before : List B) (xs : List A) (i : ℕ) (x : A) (ys : List C) (y : C) → i < length xs
    → x ≡ get_or xs i x → AllZip R (before ++ map g (take i xs)) ys → R (g x) y → AllZip R (before ++ map g (take (i + 1) xs)) (ys ++ y ∷ [])
zip_mapped {A} {B} {C} R g before xs i x ys y lt is all one =
    let e : before ++ map g (take (i + 1) xs) ≡ (before ++ map g (take i xs)) ++ g x ∷ [] =
    ap (λ l. before ++ l) (map_taken g xs i x lt ∙ ap (λ z. map g (take i xs) ++ g z ∷ []) (sym is))
    ∙ sym (append_assoc before (map g (take i xs)) (g x ∷ [])) in
    let P : List B → Type 0 = λ l. AllZip R l (ys ++ y ∷ []) in
    subst P (sym e) (zip_more R (before ++ map g (take i xs)) ys (g x) y all one)

-- a product that is bounded in steps
pub min_product : (a b c m : ℕ) → min (min (a * b) m * c) m ≡ min (a * b * c) m
min_product a b zero m = grind arith
min_product a b (suc c) m = elim (cases_lt m (a * b)) [
  | inl many ↦ (let one : m ≤ min (a * b) m * suc c = grind arith in let other : m ≤ a * b * suc c = grind arith in omega arith)
  | inr few ↦ (let e : min (a * b) m ≡ a * b = omega arith in rw e refl)
]

pub tier_capped : (n : ℕ) → tier_of (min n (2 ^ 64 - 1)) ≡ tier_of n
tier_capped n = elim (cases_lt 5000 n) [
  | inl many ↦ grind (arith, nat_tests)
  | inr few ↦ (let e : min n (2 ^ 64 - 1) ≡ n = omega arith in rw e refl)
]

pub contains_mapped : {A B : Type 0} (f : A → B) (xs : List A) (i : ℕ) (d : A) → i < length xs → Contains (map f xs) (f (get_or xs i d))
contains_mapped {A} {B} f xs i d lt =
    let few : i < length (map f xs) = rw (length-map xs f) lt in
    let P : B → Type 0 = Contains (map f xs) in
    subst P (get_or-map f xs i d (f d) lt) (Contains-get_or (map f xs) i (f d) few)

-- an error at one of some tags, and of some runs
pub error_at : (tier : Tier) (before : List Side) (tags : List (Option (List ℕ))) (runs : List NamedRun) (percentiles : List Percentile) (tag : Option (List ℕ))
    (run : NamedRun) (e : ReportError) → Contains tags tag → Contains runs run → IsPairError tier before percentiles (subject tag run) e
    → IsErrorAt tier before tags runs percentiles e
error_at tier before tags runs percentiles tag run TooManyComparisons of_tag of_run is = is
error_at tier before tags runs percentiles tag run TooLarge of_tag of_run is = (subject tag run, of_tag, of_run, is)
error_at tier before tags runs percentiles tag run OutOfMemory of_tag of_run is = tt

pub error_of_report : (tier : Tier) (before : List Side) (runs : List NamedRun) (percentiles : List Percentile) (e : ReportError)
    → tier_of (comparisons before runs percentiles) ≡ Some tier → IsErrorAt tier before (tags_of before runs) runs percentiles e
    → IsReportError before runs percentiles e
error_of_report tier before runs percentiles TooManyComparisons is at = absurd at
error_of_report tier before runs percentiles TooLarge is at = (tier, is, at)
error_of_report tier before runs percentiles OutOfMemory is at = tt
