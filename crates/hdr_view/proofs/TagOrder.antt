-- The incidents at some indices, and the tags that follow others.
use Rattle.std.proofs.Common.{◌≡◌, ◌∙◌, ◌+◌, ◌<◌, ◌++◌, ◌∷◌, [], ℕ, cond, not, Option, None, Some, List, length, map, get_or, option_to_list, take, refl, ap, sym, append_assoc, arith}
use Rattle.std.specs.List.{cons_option, filter, filter_map, range_with_len}
use Rattle.std.proofs.lemmas.List.{map-id, take_more}
use Rattle.std.proofs.lemmas.List.Elements.{filter_map-append}
use Rattle.std.proofs.lemmas.List.FromFn.{filter_of_map_range_with_len_more}
use Rattle.hdr_view.specs.Order.{is_one_of, with_others}

one : {Y : Type 0} (o : Option Y) → cons_option o [] ≡ option_to_list o
one None = refl
one (Some y) = refl

-- what a function gives of the items of a list, one item on
pub filter_map-more : {X Y : Type 0} (f : X → Option Y) (xs : List X) (i : ℕ) (d : X) → i < length xs → filter_map f (take (i + 1) xs) ≡ filter_map f (take i xs) ++ option_to_list (f (get_or xs i d))
filter_map-more f xs i d h =
    ap (filter_map f) (take_more xs i d h) ∙ filter_map-append f (take i xs) (get_or xs i d ∷ []) ∙ ap (λ ys. filter_map f (take i xs) ++ ys) (one (f (get_or xs i d)))

-- the others below a number, and below the next one
pub others-more : (n : ℕ) (first : List ℕ) → with_others (n + 1) first ≡ with_others n first ++ cond (not (is_one_of first n)) (n ∷ []) []
others-more n first =
    let p = λ (tag : ℕ). not (is_one_of first tag) in
    let next : filter p (range_with_len 0 (n + 1)) ≡ filter p (range_with_len 0 n) ++ cond (p n) (n ∷ []) [] =
    ap (filter p) (sym (map-id (range_with_len 0 (n + 1)))) ∙ filter_of_map_range_with_len_more p (λ x. x) 0 n n (omega arith) ∙ ap (λ l. filter p l ++ cond (p n) (n ∷ []) []) (map-id (range_with_len 0 n)) in
    ap (λ l. first ++ l) next ∙ sym (append_assoc first (filter p (range_with_len 0 n)) (cond (p n) (n ∷ []) []))
