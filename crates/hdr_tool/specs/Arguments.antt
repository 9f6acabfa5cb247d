-- The task of the arguments.
use Rattle.std.specs.Prelude.{◌-◌, ◌*◌, ◌^◌, ◌==◌, ◌&&◌, ◌∷◌, if◌then◌else◌, ℕ, Bool, nat_le, List, [], Option, Some, None, is_some, is_none, codes, map, String, string_bytes}
use Rattle.hdr_tool.specs.Common.{option_map, list_all, filter_map, bytes_eq, Ratio, is_tag, only_if, ◌>>=◌, split_at_byte, number_of, tag_text, choice_of, Filter}
use Rattle.hdr_tool.specs.declared.arguments.CounterType.{CounterType}
use Rattle.hdr_tool.specs.declared.arguments.CounterType.TheVariants as counter
use Rattle.hdr_tool.specs.declared.arguments.Task.TheVariants as code_task
use Rattle.hdr_tool.specs.declared.arguments as code

-- the counter type of the sum, and which intervals are chosen: their tag, and the times that they begin from and before, in
-- milliseconds
pub record Options : Type 0 where
  pub into : Option CounterType
  pub tag : Option (List ℕ)
  pub from : Option ℕ
  pub to : Option ℕ

-- the task of the program: its digits and its quantiles
pub data Task : Type 0 where
  Report : ℕ → List Ratio → Task
  Log : ℕ → Task
  Merge : Options → ℕ → List Ratio → Task

-- one digit from 0 to 5
abbrev pub sigfig_of : List ℕ → Option ℕ
sigfig_of (digit ∷ []) = if nat_le 48 digit && nat_le digit 53 then Some (digit - 48) else None
sigfig_of _ = None

-- `NUM/DEN`, with DEN at least 1
unfoldable pub fraction_of : List ℕ → Option Ratio
fraction_of argument = do
  sides ← split_at_byte 47 argument
  num ← number_of sides.0
  den ← number_of sides.1
  if den == 0 then None else Some (record { num = num; den = den })

abbrev pub are_fractions : List (List ℕ) → Bool
are_fractions arguments = list_all (λ argument. is_some (fraction_of argument)) arguments

-- `SIGFIG Q..`, with one Q or more
abbrev pub figures_of : List (List ℕ) → Option (ℕ × List Ratio)
figures_of (digit ∷ q ∷ qs) = sigfig_of digit >>= λ sigfig. if are_fractions (q ∷ qs) then Some (sigfig, filter_map fraction_of (q ∷ qs)) else None
figures_of _ = None

-- the counter type of a name
unfoldable pub counter_of : List ℕ → Option CounterType
counter_of name =
    if bytes_eq name (codes "u8") then Some counter.U8
    else if bytes_eq name (codes "u16") then Some counter.U16
    else if bytes_eq name (codes "u32") then Some counter.U32
    else if bytes_eq name (codes "u64") then Some counter.U64
    else None

-- one more option, which is not set yet
unfoldable pub with_option : Options → List ℕ → List ℕ → Option Options
with_option o name value =
    if bytes_eq name (codes "--into") && is_none o.into then option_map (λ x. record o { into = Some x }) (counter_of value)
    else if bytes_eq name (codes "--tag") && is_none o.tag then option_map (λ x. record o { tag = Some x }) (only_if (is_tag value) value)
    else if bytes_eq name (codes "--from") && is_none o.from then option_map (λ x. record o { from = Some x }) (number_of value)
    else if bytes_eq name (codes "--to") && is_none o.to then option_map (λ x. record o { to = Some x }) (number_of value)
    else None

abbrev pub no_options : Options
no_options = record { into = None; tag = None; from = None; to = None }

-- the options before the digits, added to earlier ones, and the arguments from the digits on
abbrev pub options_of : Options → List (List ℕ) → Option (Options × List (List ℕ))
options_of o (name ∷ value ∷ rest) = if is_some (sigfig_of name) then Some (o, name ∷ value ∷ rest) else with_option o name value >>= λ p. options_of p rest
options_of o rest = Some (o, rest)

-- `[--into COUNTER] [--tag T] [--from MS] [--to MS] SIGFIG Q..`, the options in any order
unfoldable pub merge_of : List (List ℕ) → Option Task
merge_of arguments = do
  options ← options_of no_options arguments
  figures ← figures_of options.1
  Some (Merge options.0 figures.0 figures.1)

-- `SIGFIG`
abbrev pub log_of : List (List ℕ) → Option Task
log_of (digit ∷ []) = option_map Log (sigfig_of digit)
log_of _ = None

-- the task of the arguments, or `None` for a usage error
unfoldable pub task_of : List (List ℕ) → Option Task
task_of [] = None
task_of (name ∷ arguments) =
    if bytes_eq name (codes "report") then option_map (λ f. Report f.0 f.1) (figures_of arguments)
    else if bytes_eq name (codes "log") then log_of arguments
    else if bytes_eq name (codes "merge") then merge_of arguments
    else None

-- the task that the program's arguments request
abbrev pub requested : {Z : Type 0} → List (String Z) → Option Task
requested arguments = task_of (map string_bytes arguments)

-- the greatest number of the sum's counters: that of `u64` if no type is named
abbrev pub greatest_into : Option CounterType → ℕ
greatest_into (Some counter.U8) = 2 ^ 8 - 1
greatest_into (Some counter.U16) = 2 ^ 16 - 1
greatest_into (Some counter.U32) = 2 ^ 32 - 1
greatest_into _ = 2 ^ 64 - 1

-- which intervals are chosen, by times in nanoseconds
abbrev pub filter_of : Options → Filter
filter_of o = record { tags = choice_of o.tag; from = option_map (λ ms. ms * 1_000_000) o.from; to = option_map (λ ms. ms * 1_000_000) o.to }

-- options and a task as the code holds them
abbrev pub view_of_options : code.Options.Options → Options
view_of_options o = record { into = o.into; tag = option_map tag_text o.tag; from = o.from; to = o.to }

abbrev pub view_of_task : code.Task.Task → Task
view_of_task (code_task.Report sigfig quantiles) = Report sigfig (filter_map fraction_of (map string_bytes quantiles.now))
view_of_task (code_task.Log sigfig) = Log sigfig
view_of_task (code_task.Merge options sigfig quantiles) = Merge (view_of_options options) sigfig (filter_map fraction_of (map string_bytes quantiles.now))
