-- What is so of a text, by its next line and the text after it.
use Rattle.std.proofs.Common.{◌≡◌, ℕ, ◌+◌, ◌-◌, ◌^◌, min, ◌==◌, true, false, List, Option, Some, None, IfSome, IsSome, refl, subst, arith, eqb-true}
use Rattle.std.proofs.lemmas.Bool.{false_from_ne_true}
use Rattle.std.proofs.lemmas.Bool.Decides.{nat_tests}
use Rattle.std.specs.Io.BufRead.{take_through, drop_through}
use Rattle.hdr_logs.specs.Lines.{ReadsLine}

-- a line is read, and P is so of the text after it
pub some_line : (P Q : List ℕ → Type 0) (old new : Option (List ℕ)) (line : List ℕ) → ReadsLine old new true line → ((text : List ℕ) → line ≡ take_through 10 text → P (drop_through 10 text) → Q text)
    → IfSome new P → IfSome old Q
some_line P Q None new line reads step left = tt
some_line P Q (Some text) new line reads step left = step text reads.0 (subst (λ o. IfSome o P) reads.1 left)

-- a line after another is not the first
pub not_first : (number now : ℕ) → now ≡ min (number + 1) (2 ^ 64 - 1) → (now == 0) ≡ false
not_first number now next = false_from_ne_true (now == 0) (λ e. omega (arith, next, eqb-true now 0 e))

-- the first line has the number 1
pub first_number : (number next : ℕ) → next ≡ min (number + 1) (2 ^ 64 - 1) → (next == 1) ≡ (number == 0)
first_number number next is = grind (arith, nat_tests)

-- what is so of bytes that are known
pub if_known : (P : List ℕ → Type 0) (o : Option (List ℕ)) → (IsSome o → IfSome o P) → IfSome o P
if_known P None h = tt
if_known P (Some text) h = h refl
