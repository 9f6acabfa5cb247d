use Rattle.std.proofs.Common.{◌≡◌, ◌≤◌, IfSome, sym, subst}
use Rattle.std.specs.List.{All}
use Rattle.hdr_logs.specs.Stored.{decimals_of}
use Rattle.hdr_view.proofs.ShownUnits.{ShownAs, shown}
use Rattle.hdr_view.proofs.view.View.new.Goals as goal

pub returns-clause-units : goal.returns-clause-units
returns-clause-units c = λ same_decimals same_unit.
    let items = c.args.intervals.now.list.items in
    let d = c.unwrap_or-decimals.result in
    let scale = subst (λ o. d ≤ 18 → IfSome o (ShownAs c.new-3.result d)) c.or-unit.ensures c.new-3.ensures.known in
    let decimals = subst (λ n. All (λ s. decimals_of s ≡ n) items) (sym c.unwrap_or-decimals.ensures) (c.decimals.ensures same_decimals) in
    shown c.new-3.result c.unit.result c.args.options.unit c.unwrap_or-decimals.result items scale decimals (c.unit.ensures same_unit)
