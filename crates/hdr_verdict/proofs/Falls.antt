-- The last fall within a slow run.
use Rattle.std.proofs.Common.{◌≡◌, ℕ, ◌+◌, ◌<◌, ◌++◌, ◌∷◌, [], true, false, cond, List, length, get_or, take, Option, None, Some, refl, ap, ◌∙◌}
use Rattle.std.specs.List.{filter, last_or}
use Rattle.std.specs.Option.{option_map}
use Rattle.std.proofs.lemmas.List.Elements.{filter_more}
use Rattle.std.proofs.lemmas.List.{append-nil}
use Rattle.hdr_verdict.specs.declared.cell.Cell.{Cell}
use Rattle.hdr_verdict.specs.declared.runs.Run.{Run}
use Rattle.hdr_verdict.specs.declared.missing.MissingTime.{MissingTime}
use Rattle.hdr_verdict.specs.Missing.{no_rate}
use Rattle.hdr_verdict.specs.Episodes.{is_fall_during, change_of, last_fall}

-- a time of fails cells
abbrev pub no_time : MissingTime
no_time = record { is_gap = false; run = record { start = 0; end = 0 }; from = 0; rate = no_rate; usual = no_rate }

last_or-push : {X : Type 0} (o : Option X) (xs : List X) (x : X) → last_or o (xs ++ x ∷ []) ≡ Some x
last_or-push o [] x = refl
last_or-push o (y ∷ xs) x = last_or-push (Some y) xs x

pub last-yes : (cells : List Cell) (run : Run) (missing : List MissingTime) (i : ℕ) (d : MissingTime) → i < length missing → is_fall_during cells run (get_or missing i d) ≡ true
    → last_fall cells run (take (i + 1) missing) ≡ Some (change_of (get_or missing i d))
last-yes cells run missing i d h passes =
    let p = is_fall_during cells run in
    let x = get_or missing i d in
    let more = filter_more p missing i d h ∙ ap (λ t. filter p (take i missing) ++ cond t (x ∷ []) []) passes in
    ap (λ ms. option_map change_of (last_or None ms)) more ∙ ap (option_map change_of) (last_or-push None (filter p (take i missing)) x)

pub last-no : (cells : List Cell) (run : Run) (missing : List MissingTime) (i : ℕ) (d : MissingTime) → i < length missing → is_fall_during cells run (get_or missing i d) ≡ false
    → last_fall cells run (take (i + 1) missing) ≡ last_fall cells run (take i missing)
last-no cells run missing i d h fails =
    let p = is_fall_during cells run in
    let x = get_or missing i d in
    let more = filter_more p missing i d h ∙ ap (λ t. filter p (take i missing) ++ cond t (x ∷ []) []) fails ∙ append-nil (filter p (take i missing)) in
    ap (λ ms. option_map change_of (last_or None ms)) more
