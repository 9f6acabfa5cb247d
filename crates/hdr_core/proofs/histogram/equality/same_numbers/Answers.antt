use Rattle.std.proofs.Common.{◌<◌, ℕ, length, get_or, take, ap, ◌∙◌, sym, arith}
use Rattle.std.proofs.lemmas.List.{length-map, length-take}
use Rattle.hdr_model.proofs.EqualityZeros.{numbers-other}
use Rattle.hdr_core.proofs.EqualityParts.{front-at}
use Rattle.hdr_core.proofs.UsedBins.{used-same}
use Rattle.hdr_core.proofs.histogram.equality.same_numbers.Goals as goal

pub returns-then-number_at : goal.returns-then-number_at
returns-then-number_at g c =
    numbers-other c.args.left.now.numbers c.args.right.now.numbers c.loop-i.i
    (λ same. c.if-number_at.true (c.number_at.ensures ∙ same ∙ sym c.number_at-in-loop-i.ensures))

pub returns : goal.returns
returns g c =
    used-same c.args.left.now.numbers c.args.right.now.numbers c.loop-i.i (λ k le. c.requires.left k (omega arith)) (λ k le. c.requires.right k (omega arith)) c.loop-i.invariant

pub returns-then-not-same_front : goal.returns-then-not-same_front
returns-then-not-same_front g c =
    let both = c.min-both.result in
    let xs = c.as_slice.result.now in
    let ys = c.as_slice-2.result.now in
    let (i, lt, differ) = c.same_front.ensures.other c.if-not-same_front.true in
    let few : i < both = omega (arith, lt, length-take both xs) in
    numbers-other c.args.left.now.numbers c.args.right.now.numbers i (λ e.
    differ (front-at g.T.Counter.number xs both i few ∙ ap (λ l. get_or l i 0) c.as_slice.ensures ∙ e ∙ sym (front-at g.F.Counter.number ys both i few ∙ ap (λ l. get_or l i 0) c.as_slice-2.ensures)))

pub loop-i-init : goal.loop-i-init
loop-i-init g c = λ k lt.
    let both = c.min-both.result in
    let xs = c.as_slice.result.now in
    let ys = c.as_slice-2.result.now in
    let inside : k < length (take both xs) = omega (arith, lt, length-take both xs, length-map xs g.T.Counter.number, ap (length {A = ℕ}) c.as_slice.ensures, c.min-both.ensures, c.min.ensures, c.len.ensures.value) in
    sym (front-at g.T.Counter.number xs both k lt ∙ ap (λ l. get_or l k 0) c.as_slice.ensures) ∙ c.same_front.ensures.equal c.if-not-same_front.false k inside
    ∙ (front-at g.F.Counter.number ys both k lt ∙ ap (λ l. get_or l k 0) c.as_slice-2.ensures)
