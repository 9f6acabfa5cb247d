-- Digits, one by one.
use Rattle.std.proofs.Common.{◌≡◌, ℕ, suc, ◌+◌, ◌-◌, ◌*◌, ◌<◌, ◌≤◌, ◌^◌, lit<, length-drop, ◌&&◌, true, List, [], ◌∷◌, ◌++◌, length, take, drop, get_or, refl, sym, ap, ◌∙◌, arith}
use Rattle.std.specs.Char.{is_ascii_digit, digit_value}
use Rattle.std.specs.List.{list_all}
use Rattle.std.specs.Str.Parse.{digits_value_after}
use Rattle.std.proofs.Math.Nat.{pow-suc, pow-le-pow_right}
use Rattle.std.proofs.Math.Seq.{take-suc}
use Rattle.std.proofs.lemmas.List.{take_all, take-append-drop}
use Rattle.std.proofs.lemmas.List.Folds.{list_all_more}

after_push : (n : ℕ) (ds : List ℕ) (c : ℕ) → digits_value_after 10 n (ds ++ (c ∷ [])) ≡ digits_value_after 10 n ds * 10 + digit_value c
after_push n [] c = refl
after_push n (d ∷ ds) c = after_push (n * 10 + digit_value d) ds c

pub after_more : (n : ℕ) (text : List ℕ) (i : ℕ) → i < length text → digits_value_after 10 n (take (i + 1) text) ≡ digits_value_after 10 n (take i text) * 10 + digit_value (get_or text i 0)
after_more n text i l =
    let s : i + 1 ≡ suc i = omega arith in
    ap (λ k. digits_value_after 10 n (take k text)) s ∙ ap (digits_value_after 10 n) (take-suc text i 0 l) ∙ after_push n (take i text) (get_or text i 0)

-- the digits before an index, and their value after the digits of another number
pub record Reads (start : ℕ) (text : List ℕ) (i value : ℕ) : Type 0 where
  pub digits : list_all is_ascii_digit (take i text) ≡ true
  pub spelled : value ≡ digits_value_after 10 start (take i text)

-- one more digit
pub Reads-more : (start : ℕ) (text : List ℕ) (i value : ℕ) → Reads start text i value → i < length text → is_ascii_digit (get_or text i 0) ≡ true → Reads start text (i + 1) (value * 10 + digit_value (get_or text i 0))
Reads-more start text i value r l d = record {
  digits = list_all_more is_ascii_digit text i 0 l ∙ ap (λ b. b && is_ascii_digit (get_or text i 0)) r.digits ∙ d;
  spelled = ap (λ n. n * 10 + digit_value (get_or text i 0)) r.spelled ∙ sym (after_more start text i l);
}

-- a text is its start and the rest
pub split_at : (text : List ℕ) (i : ℕ) → text ≡ take i text ++ take (length text - i) (drop i text)
split_at text i =
    let w : take (length text - i) (drop i text) ≡ drop i text = take_all (length text - i) (drop i text) (omega (arith, length-drop i text)) in
    sym (ap (λ r. take i text ++ r) w ∙ take-append-drop i text)

-- one more digit of few
pub few_more : (at value digit : ℕ) → at < 19 → value < 10 ^ at → digit < 10 → (value * 10 + digit < 10 ^ (at + 1)) × (value * 10 + digit < 2 ^ 64)
few_more at value digit l v d =
    let next : at + 1 ≡ suc at = omega arith in
    let more : 10 ^ (at + 1) ≡ 10 ^ at * 10 = ap (λ n. 10 ^ n) next ∙ pow-suc 10 at in
    let within : at + 1 ≤ 19 = omega arith in
    let most : 10 ^ (at + 1) ≤ 10 ^ 19 = pow-le-pow_right (lit< tt) within in
    (omega (arith, more), omega (arith, more, most))
