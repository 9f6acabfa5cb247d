use Rattle.std.proofs.Common.{◌≡◌, ◌∙◌, ◌+◌, ◌<◌, ◌≤◌, ◌++◌, ◌∷◌, [], ℕ, map, length, ap, arith}
use Rattle.std.proofs.lemmas.List.Sorted.{sum_by-IsPermutation, IsPermutation-map}
use Rattle.hdr_view.specs.declared.naming.Short.{Short}
use Rattle.hdr_view.specs.Naming.{times}
use Rattle.hdr_view.proofs.Times.{below, one, below-more, times-push}
use Rattle.hdr_view.proofs.naming.short_ones.Goals.{then-is_short+in_ok-sorted_tags+in_ok-push_short, else-is_short+in_ok-push}
use Rattle.hdr_view.proofs.naming.short_ones.Goals as goal

abbrev index_of : Short → ℕ
index_of s = s.index

pub loop-index-preserved : goal.loop-index-preserved
loop-index-preserved c = λ index.
    let i = c.loop-index.index in
    let single = c.loop-index.single.items in
    let short = c.loop-index.short.items in
    let next = below-more index i in
    let before = c.loop-index.invariant index in
    elim c.if-is_short.branch [
      | then-is_short+in_ok-sorted_tags+in_ok-push_short w ↦ (
          let kept : times index c.if-is_short.single.items ≡ times index single = ap (λ v. times index v.items) w.single-is in
          let more : times index (map index_of c.if-is_short.short.items) ≡ times index (map index_of short) + one index i =
          ap (λ v. times index (map index_of v.items)) w.short-is ∙ ap (times index) w.in_ok-push_short.ensures ∙ times-push index i (map index_of short) in
          omega arith)
      | else-is_short+in_ok-push w ↦ (
          let more : times index c.if-is_short.single.items ≡ times index single + one index i =
          ap (λ v. times index v.items) w.single-is ∙ ap (times index) w.in_ok-push.ensures ∙ times-push index i single in
          let kept : times index (map index_of c.if-is_short.short.items) ≡ times index (map index_of short) = ap (λ v. times index (map index_of v.items)) w.short-is in
          omega arith)
    ]

pub returns : goal.returns
returns c = λ index.
    let short = c.loop-index.short.items in
    let sorted = c.sort_by.new.self.items in
    let same : times index (map index_of sorted) ≡ times index (map index_of short) =
    sum_by-IsPermutation (λ x. one index x) (map index_of short) (map index_of sorted) (IsPermutation-map index_of short sorted c.in_ok-sort_by.ensures.permutation) in
    let end : c.loop-index.index ≡ length c.args.incidents.now = omega arith in
    let whole : below index c.loop-index.index ≡ below index (length c.args.incidents.now) = ap (below index) end in
    omega (arith, c.loop-index.invariant index)
