use Rattle.std.proofs.Common.{◌≡◌, ◌∙◌, ◌+◌, Bor, ℕ, map, take, take_all, ap, sym, subst, arith}
use Rattle.std.specs.List.{All}
use Rattle.hdr_view.specs.declared.naming.Short.{Short}
use Rattle.hdr_view.specs.Naming.{IsLineOf, times, times_in}
use Rattle.hdr_view.proofs.Times.{one, times-more, times-push}
use Rattle.hdr_view.proofs.naming.lines_of.Goals.{then-not-has_tags_of+in_ok-push_alike, else-not-has_tags_of}
use Rattle.hdr_view.proofs.naming.lines_of.Goals as goal

abbrev index_of : Short → ℕ
index_of s = s.index

abbrev index_at : Bor Short → ℕ
index_at s = s.now.index

pub loop-short-preserved : goal.loop-short-preserved
loop-short-preserved c = (
  λ index.
      let all = c.deref-short-items.result.now in
      let i = c.loop-short.short-index in
      let short = c.short-item.result in
      let old = c.loop-short.alike.items in
      let alike = c.if-not-has_tags_of.alike.items in
      let before = c.loop-short.invariant.0 index in
      let next : times index (map index_of (take (i + 1) all)) ≡ times index (map index_of (take i all)) + one index short.index =
      times-more index_of index all i short c.loop-short-test.true ∙ ap (λ s. times index (map index_of (take i all)) + one index (index_of s)) (sym c.short-item.is) in
      let pushed : times index (map index_at c.push_reference.new.alike.items) ≡ times index (map index_at alike) + one index short.index =
      ap (times index) c.in_ok-push_reference.ensures ∙ times-push index short.index (map index_at alike) in
      let moved : times_in index c.if-not-has_tags_of.lines.items + times index c.if-not-has_tags_of.single.items + times index (map index_at alike)
      ≡ times_in index c.loop-short.lines.items + times index c.loop-short.single.items + times index (map index_at old) =
      elim c.if-not-has_tags_of.branch [
        | then-not-has_tags_of+in_ok-push_alike w ↦ (
            let lines : times_in index c.if-not-has_tags_of.lines.items ≡ times_in index w.push_alike.new.lines.items = ap (λ v. times_in index v.items) w.lines-is in
            let single : times index c.if-not-has_tags_of.single.items ≡ times index w.push_alike.new.single.items = ap (λ v. times index v.items) w.single-is in
            let none : times index (map index_at alike) ≡ 0 = ap (λ v. times index (map index_at v.items)) w.alike-is ∙ ap (λ l. times index (map index_at l)) w.new-alike-then-not-has_tags_of.ensures.items in
            let same : times index (map index_at w.deref-then-not-has_tags_of.result.now) ≡ times index (map index_at old) = ap (λ l. times index (map index_at l)) w.deref-then-not-has_tags_of.ensures.value in
            omega (arith, w.in_ok-push_alike.ensures.times index))
        | else-not-has_tags_of w ↦ (
            let lines : times_in index c.if-not-has_tags_of.lines.items ≡ times_in index c.loop-short.lines.items = ap (λ v. times_in index v.items) w.lines-is in
            let single : times index c.if-not-has_tags_of.single.items ≡ times index c.loop-short.single.items = ap (λ v. times index v.items) w.single-is in
            let same : times index (map index_at alike) ≡ times index (map index_at old) = ap (λ v. times index (map index_at v.items)) w.alike-is in
            omega arith)
      ] in
      omega arith,
  elim c.if-not-has_tags_of.branch [
    | then-not-has_tags_of+in_ok-push_alike w ↦ subst (λ v. All (IsLineOf c.args.incidents.now) v.items) (sym w.lines-is) (w.in_ok-push_alike.ensures.lines c.loop-short.invariant.1)
    | else-not-has_tags_of w ↦ subst (λ v. All (IsLineOf c.args.incidents.now) v.items) (sym w.lines-is) c.loop-short.invariant.1
  ],
)

pub returns-clause-each_once : goal.returns-clause-each_once
returns-clause-each_once c = λ index.
    let all = c.deref-short-items.result.now in
    let i = c.loop-short.short-index in
    let old = c.loop-short.alike.items in
    let whole : times index (map index_of (take i all)) ≡ times index (map index_of c.in_ok-short.short.items) =
    ap (λ l. times index (map index_of l)) (take_all i all c.loop-short-test.false ∙ c.deref-short-items.ensures.value) in
    let none : times index c.new-single.result.items ≡ 0 = ap (times index) c.new-single.ensures.items in
    let last : times index (map index_at c.deref-2.result.now) ≡ times index (map index_at old) = ap (λ l. times index (map index_at l)) c.deref-2.ensures.value in
    let single : times index c.deref-3.result.now ≡ times index c.push_alike-2.new.single.items = ap (times index) c.deref-3.ensures.value in
    omega (arith, c.in_ok-short.ensures index, c.loop-short.invariant.0 index, c.in_ok-push_alike-2.ensures.times index, c.in_ok-push_singles.ensures.times index)

pub returns-clause-each : goal.returns-clause-each
returns-clause-each c = c.in_ok-push_singles.ensures.lines (c.in_ok-push_alike-2.ensures.lines c.loop-short.invariant.1)
