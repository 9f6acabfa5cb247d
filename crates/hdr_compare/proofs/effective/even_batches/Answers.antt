use Rattle.std.proofs.Common.{rules, ◌≡◌, arith, sym, subst}
use Rattle.hdr_compare.specs.Effective.{even_batches}
use Rattle.hdr_compare.proofs.Batches.{sizes_within}
use Rattle.hdr_compare.proofs.effective.even_batches.Goals as goal

pub returns-then-squares-eq0 : goal.returns-then-squares-eq0
returns-then-squares-eq0 c =
    let none : c.args.size ≡ 0 = omega (arith, sizes_within c.args.batches.now, c.requires.size, c.if-squares-eq0.true, c.squares_of-squares.ensures) in
    subst (λ n. 0 ≡ even_batches n c.args.batches.now) (sym none) (search rules)
