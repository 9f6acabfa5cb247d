-- What is parsed of a line: its command, whose values are u64.
use Rattle.hdr_tool.proofs.Common.{◌≡◌, ℕ, ◌-◌, ◌^◌, ◌<◌, ◌==◌, Bool, true, false, cond, not, ◌&&◌, nat_lt, List, [], ◌∷◌, length, Option, Some, None, IfSome, refl, option_map, codes, bytes_eq, ltb-true, IsCallOf, Call, Record, Clamp, Correct, Clear, Reset, ◌>>=◌, parts, is_digits, first_number, Command, Apply, End, alone, count_of, record_of, correct_of, end_tag_of, end_of, command_of_fields, command_of}
use Rattle.std.specs.Str.Parse.{digits_value}
use Rattle.hdr_core.specs.declared.call.Call.TheVariants.{Add, AddCorrect}
use Rattle.hdr_log.specs.Grammar.{is_tag}
use Rattle.hdr_log.specs.Parts.{number_of}
use Rattle.hdr_log.specs.Texts.{AreTags}
use Rattle.hdr_tool.specs.Commands.{tag_of_word, command_of_name}

-- one of two results, and one after another
pub one_of : {A : Type 0} (P : A → Type 0) (b : Bool) (x y : Option A) → IfSome x P → IfSome y P → IfSome (cond b x y) P
one_of P true x y p q = p
one_of P false x y p q = q

pub tail : {A B : Type 0} (P : A → Type 0) (Q : B → Type 0) (o : Option A) (f : A → Option B) → IfSome o P → ((x : A) → P x → IfSome (f x) Q) → IfSome (o >>= f) Q
tail P Q None f p q = tt
tail P Q (Some x) f p q = q x p

pub any : {A B : Type 0} (Q : B → Type 0) (o : Option A) (f : A → Option B) → ((x : A) → IfSome (f x) Q) → IfSome (o >>= f) Q
any Q None f q = tt
any Q (Some x) f q = q x

abbrev Small : ℕ → Type 0
Small n = n < 2 ^ 64

pub if_both : (P : ℕ → Type 0) (a b : Bool) (n : ℕ) → (b ≡ true → P n) → IfSome (cond (a && b) (Some n) None) P
if_both P true true n h = h refl
if_both P true false n h = tt
if_both P false true n h = tt
if_both P false false n h = tt

pub mapped : {A B : Type 0} (P : A → Type 0) (Q : B → Type 0) (f : A → B) (o : Option A) → IfSome o P → ((x : A) → P x → Q (f x)) → IfSome (option_map f o) Q
mapped P Q f None p q = tt
mapped P Q f (Some x) p q = q x p

number_small : (text : List ℕ) → IfSome (number_of text) Small
unfolding number_of
number_small text =
    let v = digits_value 10 text in
    if_both Small (is_digits text) (nat_lt v (2 ^ 64)) v (λ e. ltb-true v (2 ^ 64) e)

pub first_small : (fields : List (List ℕ)) → IfSome (first_number fields) (λ p. Small p.0)
first_small [] = tt
first_small (field ∷ fields) = mapped Small (λ (p : ℕ × List (List ℕ)). Small p.0) (λ n. (n, fields)) (number_of field) (number_small field) (λ n small. small)

-- ---- the command of a line

-- a command of a line has values of 64 bits, adds no histogram, and ends an interval with a tag that can be written
abbrev pub IsLineCommand : Command → Type 0
IsLineCommand (Apply (Add source)) = ⊥
IsLineCommand (Apply (AddCorrect source i)) = ⊥
IsLineCommand (Apply call) = IsCallOf (2 ^ 64 - 1) call
IsLineCommand (End start duration tag) = (start < 2 ^ 64) × (duration < 2 ^ 64) × AreTags tag

pub call_of_line : (call : Call ℕ) → IsLineCommand (Apply call) → IsCallOf (2 ^ 64 - 1) call
call_of_line (Record v n) fine = fine
call_of_line (Clamp v n) fine = fine
call_of_line (Correct v n i) fine = fine
call_of_line Clear fine = tt
call_of_line Reset fine = tt
call_of_line (Add source) fine = absurd fine
call_of_line (AddCorrect source i) fine = absurd fine

abbrev FirstSmall : ℕ × List (List ℕ) → Type 0
FirstSmall p = Small p.0

record_fine : (call : ℕ → ℕ → Call ℕ) (fields : List (List ℕ)) → ((v n : ℕ) → Small v → IsLineCommand (Apply (call v n))) → IfSome (record_of call fields) IsLineCommand
record_fine call fields h =
    tail FirstSmall IsLineCommand (first_number fields) _ (first_small fields) (λ p small. any IsLineCommand (count_of p.1) (λ n. Some (Apply (call p.0 n))) (λ n. h p.0 n small))

correct_fine : (fields : List (List ℕ)) → IfSome (correct_of fields) IsLineCommand
correct_fine fields =
    tail FirstSmall IsLineCommand (first_number fields) _ (first_small fields) (λ p small.
    any IsLineCommand (first_number p.1) _ (λ q. any IsLineCommand (count_of q.1) (λ n. Some (Apply (Correct p.0 n q.0))) (λ n. small)))

alone_fine : (call : Call ℕ) (fields : List (List ℕ)) → IsLineCommand (Apply call) → IfSome (option_map Apply (alone call fields)) IsLineCommand
alone_fine call [] f = f
alone_fine call (x ∷ xs) f = tt

tag_if : (a b : Bool) (word : List ℕ) → (b ≡ true → AreTags (Some word)) → IfSome (cond (a && b) (Some word) None) (λ w. AreTags (Some w))
tag_if true true word h = h refl
tag_if true false word h = tt
tag_if false true word h = tt
tag_if false false word h = tt

tags_fine : (fields : List (List ℕ)) → IfSome (end_tag_of fields) AreTags
tags_fine [] = tt
tags_fine (word ∷ []) = mapped (λ (w : List ℕ). AreTags (Some w)) AreTags Some (tag_of_word word) (tag_if (not (length word == 0)) (is_tag word) word (λ e. e)) (λ w is. is)
tags_fine (word ∷ more ∷ rest) = tt

end_fine : (fields : List (List ℕ)) → IfSome (end_of fields) IsLineCommand
end_fine fields =
    tail FirstSmall IsLineCommand (first_number fields) _ (first_small fields) (λ p start.
    tail FirstSmall IsLineCommand (first_number p.1) _ (first_small p.1) (λ q duration.
    tail AreTags IsLineCommand (end_tag_of q.1) (λ tag. Some (End p.0 q.0 tag)) (tags_fine q.1) (λ tag are. (start, duration, are))))

named_fine : (name : List ℕ) (fields : List (List ℕ)) → IfSome (command_of_name name fields) IsLineCommand
unfolding command_of_name
named_fine name fields =
    one_of IsLineCommand (bytes_eq name (codes "r")) _ _ (record_fine Record fields (λ v n small. small))
    (one_of IsLineCommand (bytes_eq name (codes "s")) _ _ (record_fine Clamp fields (λ v n small. small))
    (one_of IsLineCommand (bytes_eq name (codes "c")) _ _ (correct_fine fields)
    (one_of IsLineCommand (bytes_eq name (codes "clear")) _ _ (alone_fine Clear fields tt)
    (one_of IsLineCommand (bytes_eq name (codes "reset")) _ _ (alone_fine Reset fields tt)
    (one_of IsLineCommand (bytes_eq name (codes "end")) _ None (end_fine fields) tt)))))

fields_fine : (fields : List (List ℕ)) → IfSome (command_of_fields fields) IsLineCommand
fields_fine [] = tt
fields_fine (name ∷ fields) = named_fine name fields

pub command_fine : (line : List ℕ) → IfSome (command_of line) IsLineCommand
command_fine line = fields_fine (parts 32 line)
