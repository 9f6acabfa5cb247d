use Rattle.std.proofs.Common.{◌≡◌, ℕ, List, [], ◌∷◌, ◌++◌, sym, ap, ◌∙◌, lit<, Some, None, subst}
use Rattle.std.proofs.lemmas.List.{append_cancel_right}
use Rattle.std.proofs.lemmas.Str.Pattern.{split_after, split_parts, strip_prefix_char, strip_suffix_char}
use Rattle.hdr_runs.specs.Limits.{BeginsWithDigit}
use Rattle.hdr_runs.proofs.limit.split_limit.Goals as goal

pub returns-in_default : goal.returns-in_default
returns-in_default c = λ p a is. split_after 62 c.args.text.now p (43 ∷ (a ++ 37 ∷ [])) None c.in_default.ensures.cases (lit< tt) is.whole is.first

pub returns-in_default-strip_prefix : goal.returns-in_default-strip_prefix
returns-in_default-strip_prefix c = λ p a is.
    let cut = split_after 62 c.args.text.now p (43 ∷ (a ++ 37 ∷ [])) (Some (c.in-Some.percentile, c.in-Some.growth)) c.in-Some.ensures.cases (lit< tt) is.whole is.first in
    strip_prefix_char 43 c.in-Some.growth.now None c.in_default-strip_prefix.ensures.cases (lit< tt) (a ++ 37 ∷ []) cut.1

pub returns-in_default-strip_suffix : goal.returns-in_default-strip_suffix
returns-in_default-strip_suffix c = λ p a is.
    let cut = split_after 62 c.args.text.now p (43 ∷ (a ++ 37 ∷ [])) (Some (c.in-Some.percentile, c.in-Some.growth)) c.in-Some.ensures.cases (lit< tt) is.whole is.first in
    let sign = strip_prefix_char 43 c.in-Some.growth.now (Some c.in-Some-strip_prefix.shown) c.in-Some-strip_prefix.ensures.cases (lit< tt) in
    let shown : c.in-Some-strip_prefix.shown.now ≡ a ++ 37 ∷ [] = (cc (cut.1, sign)) in
    strip_suffix_char 37 c.in-Some-strip_prefix.shown.now None c.in_default-strip_suffix.ensures.cases (lit< tt) a shown

pub returns-then-not-begins_with_digit : goal.returns-then-not-begins_with_digit
returns-then-not-begins_with_digit c = λ p a is.
    let cut = split_after 62 c.args.text.now p (43 ∷ (a ++ 37 ∷ [])) (Some (c.in-Some.percentile, c.in-Some.growth)) c.in-Some.ensures.cases (lit< tt) is.whole is.first in
    let sign = strip_prefix_char 43 c.in-Some.growth.now (Some c.in-Some-strip_prefix.shown) c.in-Some-strip_prefix.ensures.cases (lit< tt) in
    let percent = strip_suffix_char 37 c.in-Some-strip_prefix.shown.now (Some c.in-Some-strip_suffix.amount) c.in-Some-strip_suffix.ensures.cases (lit< tt) in
    let same : c.in-Some-strip_suffix.amount.now ++ 37 ∷ [] ≡ a ++ 37 ∷ [] = (cc (cut.1, sign, percent)) in
    let e = append_cancel_right c.in-Some-strip_suffix.amount.now a (37 ∷ []) same in
    let digit : BeginsWithDigit c.in-Some-strip_suffix.amount.now = subst BeginsWithDigit (sym e) is.digit in
    let yes = c.begins_with_digit.ensures.1 digit in
    cc (yes, c.if-not-begins_with_digit.true)

pub returns : goal.returns
returns c =
    let cut = split_parts 62 c.args.text.now (Some (c.in-Some.percentile, c.in-Some.growth)) c.in-Some.ensures.cases (lit< tt) in
    let sign = strip_prefix_char 43 c.in-Some.growth.now (Some c.in-Some-strip_prefix.shown) c.in-Some-strip_prefix.ensures.cases (lit< tt) in
    let percent = strip_suffix_char 37 c.in-Some-strip_prefix.shown.now (Some c.in-Some-strip_suffix.amount) c.in-Some-strip_suffix.ensures.cases (lit< tt) in
    record {
      whole = cut.0 ∙ ap (λ (g : List ℕ). c.in-Some.percentile.now ++ 62 ∷ g) (sign ∙ ap (λ (g : List ℕ). 43 ∷ g) percent);
      first = cut.1;
      digit = c.begins_with_digit.ensures.0 c.if-not-begins_with_digit.false;
    }
