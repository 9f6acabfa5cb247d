-- Whether numbers that follow one another are sorted.
use Rattle.std.specs.Prelude.{ℕ, Bool, false, ◌||◌, nat_lt, Option, Some, None}
use Rattle.hdr_runs.specs.declared.steps.Steps.{Steps}

-- before the first number
abbrev pub no_steps : Steps
no_steps = record { last = None; ascends = false; descends = false }

-- before the first number of a file, which does not follow another
abbrev pub without_last : Steps → Steps
without_last s = record s { last = None }

-- whether a number is above the one before it, if there is one, and whether it is below it
abbrev pub is_above : Option ℕ → ℕ → Bool
is_above None number = false
is_above (Some last) number = nat_lt last number

abbrev pub is_below : Option ℕ → ℕ → Bool
is_below None number = false
is_below (Some last) number = nat_lt number last

-- after one more number
abbrev pub after_number : Steps → ℕ → Steps
after_number s number = record {
  last = Some number;
  ascends = s.ascends || is_above s.last number;
  descends = s.descends || is_below s.last number;
}
