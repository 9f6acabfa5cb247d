use Rattle.std.proofs.Common.{◌≡◌, arith}
use Rattle.hdr_base.specs.Classes.{Resolution, bin_of, value_of}
use Rattle.hdr_base.proofs.ClassesTops.{TopParts-of}
use Rattle.hdr_base.proofs.scale.Scale.bin_top.Goals as goal

pub overflow_cast-width : goal.overflow_cast-width
overflow_cast-width c =
    let g : Resolution = record { unit = c.self.inside.unit; digits = c.self.inside.digits } in
    let v = c.in_ok-lowest.lowest in
    let bin : bin_of g v ≡ c.args.index = rw c.self.view_is c.in_ok-lowest.ensures.value.0 in
    let value : v ≡ value_of g c.args.index = rw c.self.view_is c.in_ok-lowest.ensures.formula in
    let parts = TopParts-of g c.args.index v c.saturating_sub-bucket.result (omega arith) (omega arith) (omega arith) (omega arith) bin value c.saturating_sub-bucket.ensures in
    omega (arith, parts.few)

pub overflow_add-width : goal.overflow_add-width
overflow_add-width c =
    let g : Resolution = record { unit = c.self.inside.unit; digits = c.self.inside.digits } in
    let v = c.in_ok-lowest.lowest in
    let bin : bin_of g v ≡ c.args.index = rw c.self.view_is c.in_ok-lowest.ensures.value.0 in
    let value : v ≡ value_of g c.args.index = rw c.self.view_is c.in_ok-lowest.ensures.formula in
    let parts = TopParts-of g c.args.index v c.saturating_sub-bucket.result (omega arith) (omega arith) (omega arith) (omega arith) bin value c.saturating_sub-bucket.ensures in
    omega (arith, parts.few)

pub overflow_shl-width : goal.overflow_shl-width
overflow_shl-width c =
    let g : Resolution = record { unit = c.self.inside.unit; digits = c.self.inside.digits } in
    let v = c.in_ok-lowest.lowest in
    let bin : bin_of g v ≡ c.args.index = rw c.self.view_is c.in_ok-lowest.ensures.value.0 in
    let value : v ≡ value_of g c.args.index = rw c.self.view_is c.in_ok-lowest.ensures.formula in
    let parts = TopParts-of g c.args.index v c.saturating_sub-bucket.result (omega arith) (omega arith) (omega arith) (omega arith) bin value c.saturating_sub-bucket.ensures in
    parts.few

pub overflow_sub-result : goal.overflow_sub-result
overflow_sub-result c =
    let g : Resolution = record { unit = c.self.inside.unit; digits = c.self.inside.digits } in
    let v = c.in_ok-lowest.lowest in
    let bin : bin_of g v ≡ c.args.index = rw c.self.view_is c.in_ok-lowest.ensures.value.0 in
    let value : v ≡ value_of g c.args.index = rw c.self.view_is c.in_ok-lowest.ensures.formula in
    let parts = TopParts-of g c.args.index v c.saturating_sub-bucket.result (omega arith) (omega arith) (omega arith) (omega arith) bin value c.saturating_sub-bucket.ensures in
    omega (arith, parts.width, parts.some)

pub overflow_add-result : goal.overflow_add-result
overflow_add-result c =
    let g : Resolution = record { unit = c.self.inside.unit; digits = c.self.inside.digits } in
    let v = c.in_ok-lowest.lowest in
    let bin : bin_of g v ≡ c.args.index = rw c.self.view_is c.in_ok-lowest.ensures.value.0 in
    let value : v ≡ value_of g c.args.index = rw c.self.view_is c.in_ok-lowest.ensures.formula in
    let parts = TopParts-of g c.args.index v c.saturating_sub-bucket.result (omega arith) (omega arith) (omega arith) (omega arith) bin value c.saturating_sub-bucket.ensures in
    omega (arith, parts.width, parts.end, parts.some)

pub returns : goal.returns
returns c =
    let g : Resolution = record { unit = c.self.inside.unit; digits = c.self.inside.digits } in
    let v = c.in_ok-lowest.lowest in
    let bin : bin_of g v ≡ c.args.index = rw c.self.view_is c.in_ok-lowest.ensures.value.0 in
    let value : v ≡ value_of g c.args.index = rw c.self.view_is c.in_ok-lowest.ensures.formula in
    let parts = TopParts-of g c.args.index v c.saturating_sub-bucket.result (omega arith) (omega arith) (omega arith) (omega arith) bin value c.saturating_sub-bucket.ensures in
    rw (← c.self.view_is, parts.width) parts.top

pub overflow_cast-width-2 : goal.overflow_cast-width-2
overflow_cast-width-2 c =
    let g : Resolution = record { unit = c.self.inside.unit; digits = c.self.inside.digits } in
    let v = c.in_ok-lowest.lowest in
    let bin : bin_of g v ≡ c.args.index = rw c.self.view_is c.in_ok-lowest.ensures.value.0 in
    let value : v ≡ value_of g c.args.index = rw c.self.view_is c.in_ok-lowest.ensures.formula in
    let parts = TopParts-of g c.args.index v c.saturating_sub-bucket.result (omega arith) (omega arith) (omega arith) (omega arith) bin value c.saturating_sub-bucket.ensures in
    omega (arith, parts.few)
