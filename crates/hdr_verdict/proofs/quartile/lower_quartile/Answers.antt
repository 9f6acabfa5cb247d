use Rattle.std.proofs.Common.{◌≡◌, ◌∙◌, ◌/◌, ap, arith, length, get_or}
use Rattle.hdr_verdict.proofs.Quartiles.{quartile-at, rising-of}
use Rattle.hdr_verdict.proofs.quartile.lower_quartile.Goals as goal

pub returns-in-Some : goal.returns-in-Some
returns-in-Some c =
    let old = c.args.values.items in
    let new = c.sort.new.self.items in
    let many : length new ≡ length old = omega (arith, c.in_ok-sort.ensures.len) in
    let count : c.len.result ≡ length old = omega (arith, c.in_ok-sort.ensures.len, c.len.ensures) in
    c.in-Some.ensures.lookup.4 (omega arith) 0 ∙ ap (λ l. get_or l (c.len.result / 4) 0) c.deref.ensures.value ∙ ap (λ n. get_or new (n / 4) 0) count
    ∙ quartile-at old new c.in_ok-sort.ensures.permutation (rising-of new c.in_ok-sort.ensures.sorted) many

pub returns : goal.returns
returns c =
    let old = c.args.values.items in
    let new = c.sort.new.self.items in
    let many : length new ≡ length old = omega (arith, c.in_ok-sort.ensures.len) in
    let count : c.len.result ≡ length old = omega (arith, c.in_ok-sort.ensures.len, c.len.ensures) in
    c.in-None.ensures.lookup.4 (omega arith) 0 ∙ ap (λ l. get_or l (c.len.result / 4) 0) c.deref.ensures.value ∙ ap (λ n. get_or new (n / 4) 0) count
    ∙ quartile-at old new c.in_ok-sort.ensures.permutation (rising-of new c.in_ok-sort.ensures.sorted) many
