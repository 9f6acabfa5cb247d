use Rattle.std.proofs.Common.{◌≡◌, ◌∙◌, ◌≤◌, ℕ, length, map, take_all, get_or, ap, sym, subst, arith, ltb, false}
use Rattle.std.proofs.lemmas.Bool.Decides.{nat_tests}
use Rattle.std.proofs.lemmas.Slice.Zip.{AllZip-long}
use Rattle.hdr_verdict.specs.declared.above.CountsAbove.{CountsAbove}
use Rattle.hdr_verdict.specs.CountsAboveFor.{AreCountsOf}
use Rattle.hdr_verdict.specs.Tails.{count_above}
use Rattle.hdr_verdict.proofs.Each.{zip-at}
use Rattle.hdr_verdict.proofs.counting.counts_at.Goals as goal

past-of : (i n : ℕ) → ltb i n ≡ false → n ≤ i
past-of i n h = grind (arith, nat_tests)

pub returns-in-Some : goal.returns-in-Some
returns-in-Some c = λ cells values all inside.
    let above = c.in-Some.above.now in
    let R : ℕ → CountsAbove → Type 0 = AreCountsOf cells (length cells) in
    let here = subst (R (get_or values c.args.index 0)) (sym c.in-Some.ensures.lookup.1) (zip-at R values c.args.all.now c.args.index 0 above all inside) in
    c.deref.ensures.value ∙ here.1 ∙ ap (map (count_above (get_or values c.args.index 0))) (take_all (length cells) cells (omega arith))

pub returns-in-None : goal.returns-in-None
returns-in-None c = λ cells values all inside.
    let many = AllZip-long (AreCountsOf cells (length cells)) values c.args.all.now all in
    let past = past-of c.args.index (length c.args.all.now) (sym c.in-None.ensures.lookup.0) in
    absurd (omega (arith, many, past, inside))
