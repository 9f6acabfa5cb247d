use Rattle.std.proofs.Common.{◌≡◌, ℕ, List, ◌/◌, ◌++◌, codes, string_bytes, append_assoc, refl, arith}
use Rattle.hdr_draw.specs.Numbers.{grouped, last_digits}
use Rattle.hdr_draw.proofs.Grouping.{short, longer}
use Rattle.hdr_draw.proofs.number.+push_groups.Goals as goal

-- what three calls append
joined : (old first second front comma end : List ℕ) → first ≡ old ++ front → second ≡ first ++ comma → second ++ end ≡ old ++ (front ++ comma ++ end)
joined old first second front comma end f s = rw (s, f, append_assoc, append_assoc, append_assoc) refl

pub returns-then-number-lt1000 : goal.returns-then-number-lt1000
returns-then-number-lt1000 t c = rw (short c.args.number c.if-number-lt1000.true) c.write.ensures.bytes

pub returns : goal.returns
returns t c =
    let e = longer c.args.number c.if-number-lt1000.false (omega (arith, c.ranges.number.fits)) in
    let q = joined (string_bytes c.args.text.now) _ _ (grouped (c.args.number / 1000)) (codes ",") (last_digits 3 c.args.number) c.in_ok-push_groups.ensures c.in_ok-push_str.ensures.bytes in
    rw (e, ← q) c.push_last_digits.ensures
