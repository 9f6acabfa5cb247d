use Rattle.std.proofs.Common.{◌≡◌, ◌∙◌, Some, None, slice_get, option_and_then, sym, ap}
use Rattle.std.specs.Option.{option_copied}
use Rattle.hdr_logs.proofs.Storing.{unit_of_first}
use Rattle.hdr_logs.proofs.intervals.LogIntervals.unit.Goals as goal

pub returns-in-Some : goal.returns-in-Some
returns-in-Some c = λ same.
    let items = c.args.self.now.list.items in
    let first : Some c.in-Some.interval.now ≡ slice_get items 0 = ap option_copied (sym c.in-Some.is) ∙ c.first.ensures.value ∙ ap (λ l. slice_get l 0) c.deref.ensures.value in
    unit_of_first items _ (ap (option_and_then (λ i. i.unit)) first) same

pub returns-in-None : goal.returns-in-None
returns-in-None c = λ same.
    let items = c.args.self.now.list.items in
    let first : None ≡ slice_get items 0 = ap option_copied (sym c.in-None.is) ∙ c.first.ensures.value ∙ ap (λ l. slice_get l 0) c.deref.ensures.value in
    unit_of_first items _ (ap (option_and_then (λ i. i.unit)) first) same
