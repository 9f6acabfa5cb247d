use Rattle.std.proofs.Common.{◌≡◌, ◌∙◌, ◌<◌, ◌≤◌, max, refl, [], length, get_or, set, sym, ap, arith, rules}
use Rattle.std.proofs.lemmas.List.{get_or-set_same, get_or_default, set-get_or}
use Rattle.std.proofs.lemmas.List.Elements.{All-get_or}
use Rattle.hdr_draw.specs.Heat.{added, cell}
use Rattle.hdr_draw.proofs.Cells.{most_added, outside_column, outside_row, rows_kept}
use Rattle.hdr_draw.proofs.heat.HeatMap.add.Goals as goal

pub invariant_of-self : goal.invariant_of-self
unfolding cell
invariant_of-self c =
    let m = c.self.inside.columns.items in
    let i = c.args.column in
    let j = c.args.row in
    let n = c.saturating_add.result in
    let h : c.args.column < length c.self.inside.columns.items = search (rules, c.in-Some.ensures.variant) in
    let v : c.in-Some.rows.now ≡ get_or c.self.inside.columns.items c.args.column [] =
    c.in-Some.ensures.value ∙ get_or_default c.self.inside.columns.items c.args.column c.in-Some.rows.now [] h in
    let l : length (get_or m i []) ≡ 40 = All-get_or (λ r. length r ≡ 40) m i [] h c.self.invariant.1 in
    let k : j < length (get_or m i []) = omega (arith, l, c.if-row-lt-ROWS.true) in
    let e : get_or (set (get_or m i []) j n) j 0 ≡ n = get_or-set_same (get_or m i []) j n 0 k in
    let q : c.max-self-inside.result ≡ max c.self.inside.most n = rw (← e, ← v) c.max-self-inside.ensures in
    let g : cell m i j ≤ n = omega (arith, ap (λ r. get_or r j 0) v, c.saturating_add.ensures, c.saturating_add.type_inv) in
    rw (v, q) (most_added m i j n c.self.inside.most h k c.self.invariant.0 g, rows_kept m i j n h c.self.invariant.1)

pub returns-then-row-lt-ROWS : goal.returns-then-row-lt-ROWS
unfolding added cell
returns-then-row-lt-ROWS c =
    let h : c.args.column < length c.self.inside.columns.items = search (rules, c.in-Some.ensures.variant) in
    let v : c.in-Some.rows.now ≡ get_or c.self.inside.columns.items c.args.column [] =
    c.in-Some.ensures.value ∙ get_or_default c.self.inside.columns.items c.args.column c.in-Some.rows.now [] h in
    rw (← c.self.view_is, v, c.saturating_add.ensures) (rw v refl)

pub returns-else-row-lt-ROWS : goal.returns-else-row-lt-ROWS
returns-else-row-lt-ROWS c =
    let m = c.self.inside.columns.items in
    let i = c.args.column in
    let h : c.args.column < length c.self.inside.columns.items = search (rules, c.in-Some.ensures.variant) in
    let v : c.in-Some.rows.now ≡ get_or c.self.inside.columns.items c.args.column [] =
    c.in-Some.ensures.value ∙ get_or_default c.self.inside.columns.items c.args.column c.in-Some.rows.now [] h in
    let l : length (get_or m i []) ≡ 40 = All-get_or (λ r. length r ≡ 40) m i [] h c.self.invariant.1 in
    let k : length (get_or m i []) ≤ c.args.row = omega (arith, l, c.if-row-lt-ROWS.false) in
    rw (← c.self.view_is, v, set-get_or m i []) (sym (outside_row m i c.args.row c.args.samples k))

pub returns-in_default : goal.returns-in_default
returns-in_default c =
    let h : length c.self.inside.columns.items ≤ c.args.column = search (rules, c.in_default.ensures.variant) in
    rw (← c.self.view_is) (sym (outside_column c.self.inside.columns.items c.args.column c.args.row c.args.samples h))
