use Rattle.std.proofs.Common.{◌≡◌, ◌∙◌, ◌*◌, ◌/◌, ◌<◌, ap, sym, arith, length, get_or, ℕ, ltb, true}
use Rattle.std.proofs.lemmas.Bool.Decides.{nat_tests}
use Rattle.hdr_verdict.proofs.Quartiles.{decile-at, rising-of}
use Rattle.hdr_verdict.proofs.cell.ninth_decile.Goals as goal

below-of : (i n : ℕ) → ltb i n ≡ true → i < n
below-of i n h = grind (arith, nat_tests)

pub returns-in-Some : goal.returns-in-Some
returns-in-Some c =
    let old = c.args.strides.items in
    let new = c.sort.new.self.items in
    let many : length new ≡ length old = omega (arith, c.in_ok-sort.ensures.len) in
    let count : c.len.result ≡ length old = omega (arith, c.in_ok-sort.ensures.len, c.len.ensures) in
    let test = below-of (c.len.result * 9 / 10) (length c.deref.result.now) (sym c.in-Some.ensures.lookup.0) in
    let inside : length old * 9 / 10 < length old = omega (arith, test, ap (λ n. n * 9 / 10) count, ap length c.deref.ensures.value, many) in
    c.in-Some.ensures.lookup.4 (omega arith) 0 ∙ ap (λ l. get_or l (c.len.result * 9 / 10) 0) c.deref.ensures.value ∙ ap (λ n. get_or new (n * 9 / 10) 0) count
    ∙ decile-at c.args.other old new c.in_ok-sort.ensures.permutation (rising-of new c.in_ok-sort.ensures.sorted) many inside
