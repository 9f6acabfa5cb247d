use Rattle.std.proofs.Common.{◌+◌, ◌*◌, ◌^◌, ◌<◌, ◌≤◌, string_bytes, arith}
use Rattle.std.proofs.Math.Nat.{one-le-pow, mul-le-mul_left, mul-pos}
use Rattle.hdr_view.proofs.Amounts.{value_text}
use Rattle.hdr_view.proofs.amount.Units.push.Goals as goal

pub returns : goal.returns
returns c =
    let i = c.amount_of-amount.ensures in
    let a = c.amount_of-amount.result in
    let p : 1 ≤ 1000 ^ i.power = one-le-pow i.power 1000 (omega arith) in
    let q : 1 ≤ 10 ^ c.args.self.decimals = one-le-pow c.args.self.decimals 10 (omega arith) in
    let thousands : 0 < 1000 ^ i.power = omega (arith, p) in
    let tens : 0 < 10 ^ c.args.self.decimals = omega (arith, q) in
    let product : 0 < 10 ^ c.args.self.decimals * 1000 ^ i.power = mul-pos tens thousands in
    let d : 0 < a.den = omega (arith, i.parts, product) in
    let most = mul-le-mul_left c.args.value c.args.self.few in
    let f : a.num * 10 ^ 9 + 1 < 2 ^ 128 = omega (arith, i.same, c.ranges.value.fits, most) in
    let n = c.in_ok-push_number.ensures d f in
    value_text c.push_unit.result c.args.self.unit a.unit (c.args.value * c.args.self.times) (10 ^ c.args.self.decimals) a.num a.den n.0
    (string_bytes c.args.text.now) (string_bytes c.push_number.new.text) (string_bytes c.push_unit.new.text) i n.1 n.2 c.push_unit.ensures
