use Rattle.std.proofs.Common.{◌≡◌, ℕ, List, ◌∷◌, Option, Some, None, IfSome, ap, ◌∙◌}
use Rattle.hdr_input.specs.declared.number.Number.{Number}
use Rattle.hdr_input.specs.Durations.{BeginsWithPart, AreParts, sum_of, sum_after}
use Rattle.hdr_input.proofs.durations.+add_parts.Goals as goal

-- the parts after the first one
after_first : (o : Option Number) (text rest : List ℕ) (start part sum : Number) → BeginsWithPart text part rest → sum ≡ sum_of start part
    → IfSome o (λ n. (parts : List Number) × AreParts rest parts × (n ≡ sum_after sum parts))
    → IfSome o (λ n. (parts : List Number) × AreParts text parts × (n ≡ sum_after start parts))
after_first None text rest start part sum begins is more = tt
after_first (Some n) text rest start part sum begins is (parts, are, all) = (part ∷ parts, (rest, begins, are), all ∙ ap (λ s. sum_after s parts) is)

pub returns : goal.returns
returns t c = after_first c.add_parts.result c.args.text.now c.in_ok-part.rest.now c.args.seconds c.in_ok-part.part c.in_ok-sum_of.field-0 c.in_ok-part.ensures.part c.in_ok-sum_of.ensures c.add_parts.ensures
