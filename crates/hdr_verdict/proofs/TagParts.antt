-- Intervals in order, cut where the name changes.
use Rattle.std.proofs.Common.{◌≡◌, ◌↔◌, ◌<◌, ◌≤◌, Bool, IsTrue, true, false, if◌then◌else◌, List, [], ◌∷◌, ◌++◌, length, append_assoc, refl, ap, sym, ◌∙◌, arith}
use Rattle.std.proofs.lemmas.Bool.{true≢false}
use Rattle.hdr_logs.specs.declared.stored.StoredInterval.{StoredInterval}
use Rattle.hdr_verdict.specs.Tags.{is_of, part_of, parts_from}

-- the next interval has the name of the last part
pub kept-part : (cut : List (List StoredInterval)) (part rest : List StoredInterval) (x : StoredInterval) (whole : List (List StoredInterval)) → is_of part x ≡ true → cut ++ parts_from part (x ∷ rest) ≡ whole → cut ++ parts_from (part ++ x ∷ []) rest ≡ whole
kept-part cut part rest x whole is before = ap (λ (b : Bool). cut ++ (if b then parts_from (part ++ x ∷ []) rest else part ∷ parts_from (x ∷ []) rest)) (sym is) ∙ before

-- the next interval has another name
pub cut-part : (cut : List (List StoredInterval)) (part rest : List StoredInterval) (x : StoredInterval) (whole : List (List StoredInterval)) → is_of part x ≡ false → cut ++ parts_from part (x ∷ rest) ≡ whole → (cut ++ part ∷ []) ++ parts_from (x ∷ []) rest ≡ whole
cut-part cut part rest x whole is before = append_assoc cut (part ∷ []) (parts_from (x ∷ []) rest) ∙ ap (λ (b : Bool). cut ++ (if b then parts_from (part ++ x ∷ []) rest else part ∷ parts_from (x ∷ []) rest)) (sym is) ∙ before

pub part-some : (part : List StoredInterval) → 0 < length part → part_of part ≡ part ∷ []
part-some [] some = absurd (omega (arith, some))
part-some (i ∷ is) some = refl

pub part-none : (part : List StoredInterval) (some : Bool) → (IsTrue some ↔ (0 < length part)) → some ≡ false → part_of part ≡ []
part-none [] some both none = refl
part-none (i ∷ is) some both none = absurd (true≢false (sym (both.1 (omega arith)) ∙ none))

pub no-items : {X : Type 0} (xs : List X) → length xs ≤ 0 → xs ≡ []
no-items [] none = refl
no-items (x ∷ xs) none = absurd (omega (arith, none))
