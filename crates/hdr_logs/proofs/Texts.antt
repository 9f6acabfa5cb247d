-- What the lines of a text have, by one line more at its start.
use Rattle.std.proofs.Common.{◌≡◌, ℕ, ◌+◌, ◌-◌, ◌^◌, min, ◌==◌, Bool, true, false, List, ◌∷◌, Option, Some, None, IfSome, Result, refl, sym, ap, subst}
use Rattle.std.specs.Io.BufRead.{take_through, drop_through}
use Rattle.hdr_log.specs.Grammar.{Entry, Start, Base, Span}
use Rattle.hdr_log.specs.Timed.{TimedInterval, timed}
use Rattle.hdrhistogram.specs.Chosen.{Filter}
use Rattle.hdr_input.specs.Lines.{without_mark}
use Rattle.hdr_logs.specs.Lines.{ReadsLine}
use Rattle.hdr_logs.specs.Fields.{IsPlainField}
use Rattle.hdr_logs.specs.Entries.{IsEntry, base_then, interval_then, and_entry}
use Rattle.hdr_logs.proofs.NextLine.{some_line, not_first}
use Rattle.hdr_logs.specs.Intervals.{LogInterval, BeginsIf, AreChosen, TextHolds, is_chosen_interval, plain_interval}

-- what becomes of the interval of a line, if it has one
abbrev pub Begins : Filter → Option TimedInterval → List LogInterval → List LogInterval → Type 0
Begins filter None all rest = all ≡ rest
Begins filter (Some t) all rest = BeginsIf (is_chosen_interval filter t) t all rest

-- the intervals of an entry and of those after it
chosen_more : (filter : Filter) (base : Option ℕ) (entry : Option Entry) (entries : List (Result Entry ℕ)) (all rest : List LogInterval) → Begins filter (interval_then base entry) all rest
    → AreChosen filter (timed (base_then base entry) entries) rest → AreChosen filter (timed base (and_entry entry entries)) all
chosen_more filter base None entries all rest begins are = subst (AreChosen filter (timed base entries)) (sym begins) are
chosen_more filter base (Some (Start t)) entries all rest begins are = subst (AreChosen filter (timed base entries)) (sym begins) are
chosen_more filter base (Some (Base t)) entries all rest begins are = subst (AreChosen filter (timed (Some t) entries)) (sym begins) are
chosen_more filter base (Some (Span i)) entries all rest begins are = (rest, begins, are)

-- the first line of a text, and the text after it
pub text_more : (filter : Filter) (is_first : Bool) (base : Option ℕ) (text line : List ℕ) (entry : Option Entry) (all rest : List LogInterval) → line ≡ take_through 10 text
    → IsEntry (without_mark is_first line) entry → Begins filter (interval_then base entry) all rest → TextHolds filter false (base_then base entry) (drop_through 10 text) rest
    → TextHolds filter is_first base text all
text_more filter is_first base text line entry all rest is says begins after =
    (line ∷ after.0, and_entry entry after.1, (is, after.2), (entry, after.1, says, refl, after.3), chosen_more filter base entry after.1 all rest begins after.4)

-- a line is read by its number
pub line_more : (filter : Filter) (old new : Option (List ℕ)) (number now : ℕ) (base after : Option ℕ) (line read : List ℕ) (entry : Option Entry) (all rest : List LogInterval)
    → now ≡ min (number + 1) (2 ^ 64 - 1) → read ≡ line → ReadsLine old new true line → IsEntry (without_mark (number == 0) read) entry → after ≡ base_then base entry
    → Begins filter (interval_then base entry) all rest
    → IfSome new (λ text. TextHolds filter (now == 0) after text rest) → IfSome old (λ text. TextHolds filter (number == 0) base text all)
line_more filter old new number now base after line read entry all rest next same reads says is begins left =
    let said : IsEntry (without_mark (number == 0) line) entry = subst (λ l. IsEntry (without_mark (number == 0) l) entry) same says in
    let step : (text : List ℕ) → line ≡ take_through 10 text → TextHolds filter (now == 0) after (drop_through 10 text) rest → TextHolds filter (number == 0) base text all = λ text first holds.
    let later = subst (λ b. TextHolds filter b after (drop_through 10 text) rest) (not_first number now next) holds in
    text_more filter (number == 0) base text line entry all rest first said begins (subst (λ o. TextHolds filter false o (drop_through 10 text) rest) is later) in
    some_line (λ text. TextHolds filter (now == 0) after text rest) (λ text. TextHolds filter (number == 0) base text all) old new line reads step left

pub begins_none : (filter : Filter) (o : Option TimedInterval) (rest : List LogInterval) → None ≡ o → Begins filter o rest rest
begins_none filter o rest is = subst (λ x. Begins filter x rest rest) is refl

pub begins_other : (filter : Filter) (t : TimedInterval) (o : Option TimedInterval) (rest : List LogInterval) → Some t ≡ o → is_chosen_interval filter t ≡ false → Begins filter o rest rest
begins_other filter t o rest is not = subst (λ x. Begins filter x rest rest) is (subst (λ b. BeginsIf b t rest rest) (sym not) refl)

pub begins_chosen : (filter : Filter) (t : TimedInterval) (o : Option TimedInterval) (i : LogInterval) (plain : List ℕ) (rest : List LogInterval) → Some t ≡ o → is_chosen_interval filter t ≡ true
    → IsPlainField t.interval.field plain → i ≡ plain_interval t plain → Begins filter o (i ∷ rest) rest
begins_chosen filter t o i plain rest is chosen field same =
    subst (λ x. Begins filter x (i ∷ rest) rest) is (subst (λ b. BeginsIf b t (i ∷ rest) rest) (sym chosen) (plain, field, ap (λ x. x ∷ rest) same))
