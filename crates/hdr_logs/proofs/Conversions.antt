-- What becomes of a text, by one line more at its start.
use Rattle.std.proofs.Common.{◌≡◌, ℕ, ◌+◌, ◌-◌, ◌^◌, min, ◌==◌, Bool, true, false, List, ◌∷◌, ◌++◌, Option, IfSome, refl, subst}
use Rattle.std.specs.Io.BufRead.{take_through, drop_through}
use Rattle.hdr_log.specs.Grammar.{Entry}
use Rattle.hdrhistogram.specs.Chosen.{Filter}
use Rattle.hdr_convert.specs.declared.bytes.Form.{Form}
use Rattle.hdr_input.specs.Lines.{without_mark}
use Rattle.hdr_logs.specs.Lines.{ReadsLine}
use Rattle.hdr_logs.specs.Entries.{IsEntry, base_then, interval_then}
use Rattle.hdr_logs.specs.Conversion.{LineBecomes, TextBecomes}
use Rattle.hdr_logs.proofs.NextLine.{some_line, not_first}

-- the first line of a text, and what becomes of the text after it
becomes_more : (form : Form) (filter : Filter) (is_first : Bool) (base : Option ℕ) (text line : List ℕ) (entry : Option Entry) (start rest : List ℕ) → line ≡ take_through 10 text
    → IsEntry (without_mark is_first line) entry → LineBecomes form filter (interval_then base entry) (without_mark is_first line) start
    → TextBecomes form filter false (base_then base entry) (drop_through 10 text) rest → TextBecomes form filter is_first base text (start ++ rest)
becomes_more form filter is_first base text line entry start rest is says becomes after =
    (line ∷ after.0, (is, after.1), (entry, start, rest, says, becomes, after.2, refl))

-- a line is read by its number
pub line_becomes : (form : Form) (filter : Filter) (old new : Option (List ℕ)) (number now : ℕ) (base after : Option ℕ) (line : List ℕ) (entry : Option Entry) (start rest : List ℕ)
    → now ≡ min (number + 1) (2 ^ 64 - 1) → ReadsLine old new true line → IsEntry (without_mark (number == 0) line) entry → after ≡ base_then base entry
    → LineBecomes form filter (interval_then base entry) (without_mark (number == 0) line) start
    → IfSome new (λ text. TextBecomes form filter (now == 0) after text rest) → IfSome old (λ text. TextBecomes form filter (number == 0) base text (start ++ rest))
line_becomes form filter old new number now base after line entry start rest next reads says is becomes left =
    let step : (text : List ℕ) → line ≡ take_through 10 text → TextBecomes form filter (now == 0) after (drop_through 10 text) rest → TextBecomes form filter (number == 0) base text (start ++ rest) =
    λ text first left. let later = subst (λ b. TextBecomes form filter b after (drop_through 10 text) rest) (not_first number now next) left in
    becomes_more form filter (number == 0) base text line entry start rest first says becomes (subst (λ o. TextBecomes form filter false o (drop_through 10 text) rest) is later) in
    some_line (λ text. TextBecomes form filter (now == 0) after text rest) (λ text. TextBecomes form filter (number == 0) base text (start ++ rest)) old new line reads step left
