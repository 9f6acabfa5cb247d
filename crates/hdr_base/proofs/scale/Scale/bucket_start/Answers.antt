use Rattle.std.proofs.Common.{◌≡◌, ℕ, ◌+◌, ◌-◌, ◌*◌, ◌^◌, ◌%◌, ◌<◌, ◌≤◌, ◌∙◌, ap, arith}
use Rattle.hdr_base.specs.Classes.{Resolution, bucket}
use Rattle.std.proofs.lemmas.Nat.{pow_pos}
use Rattle.hdr_base.proofs.ClassesLaws.{bucket-least}
use Rattle.hdr_base.proofs.ClassesIntervals.{start-IsLeast, start-bucket, start-code, one-bucket}
use Rattle.hdr_base.proofs.scale.Scale.bucket_start.Goals as goal

-- the first bucket starts at 0
first-start : (g : Resolution) (v : ℕ) → bucket g v ≡ 0 → bucket g 0 ≡ bucket g v
first-start g v none = omega (arith, none, bucket-least g 0 (bucket g v) (rw none (omega (arith, pow_pos (g.unit + g.digits + 0)))))

pub returns-then-bucket-eq0-clause-least : goal.returns-then-bucket-eq0-clause-least
returns-then-bucket-eq0-clause-least c =
    let g = c.args.self in
    let v = c.args.value in
    let none : bucket g v ≡ 0 = omega (arith, c.bucket-bucket.ensures.value, c.if-bucket-eq0.true) in
    start-IsLeast g v 0 (first-start g v none) (λ some. absurd (omega arith)) (λ _. omega arith)

pub returns-then-bucket-eq0-clause-one_bucket : goal.returns-then-bucket-eq0-clause-one_bucket
returns-then-bucket-eq0-clause-one_bucket c = λ x from to.
    let none : bucket c.args.self c.args.value ≡ 0 = omega (arith, c.bucket-bucket.ensures.value, c.if-bucket-eq0.true) in
    one-bucket c.args.self c.args.value 0 x (first-start c.args.self c.args.value none) from to

-- what the code returns for a bucket above the first
is-start : (g : Resolution) (u d b v : ℕ) → record { unit = u; digits = d } ≡ g → b ≡ bucket g v → g.unit + g.digits + b ≤ 64 → 0 < b
    → 1 * 2 ^ (u + d + (b - 1)) % 18446744073709551616 ≡ 2 ^ (g.unit + g.digits + (bucket g v - 1))
is-start g u d b v view is bound some =
    start-code (u + d + (b - 1)) (omega (arith, bound, some, ap (λ (s : Resolution). s.unit + s.digits) view))
    ∙ ap (λ e. 2 ^ e) (let e : u + d + (b - 1) ≡ g.unit + g.digits + (bucket g v - 1) = omega (arith, is, ap (λ (s : Resolution). s.unit + s.digits) view) in e)

pub returns-else-bucket-eq0-clause-least : goal.returns-else-bucket-eq0-clause-least
returns-else-bucket-eq0-clause-least c =
    let g = c.args.self in
    let v = c.args.value in
    let b = c.bucket-bucket.result in
    let some : 0 < b = omega (arith, c.if-bucket-eq0.false) in
    let at : 0 < bucket g v = omega (arith, some, c.bucket-bucket.ensures.value) in
    rw (is-start g c.self.inside.unit c.self.inside.digits b v c.self.view_is c.bucket-bucket.ensures.value c.bucket-bucket.ensures.bound some)
    (start-IsLeast g v _ (start-bucket g v at) (λ _. omega arith) (λ none. absurd (omega arith)))

pub returns-else-bucket-eq0-clause-one_bucket : goal.returns-else-bucket-eq0-clause-one_bucket
returns-else-bucket-eq0-clause-one_bucket c = λ x from to.
    let g = c.args.self in
    let v = c.args.value in
    let b = c.bucket-bucket.result in
    let some : 0 < b = omega (arith, c.if-bucket-eq0.false) in
    let at : 0 < bucket g v = omega (arith, some, c.bucket-bucket.ensures.value) in
    let is = is-start g c.self.inside.unit c.self.inside.digits b v c.self.view_is c.bucket-bucket.ensures.value c.bucket-bucket.ensures.bound some in
    one-bucket g v (2 ^ (g.unit + g.digits + (bucket g v - 1))) x (start-bucket g v at) (omega (arith, is, from)) to
