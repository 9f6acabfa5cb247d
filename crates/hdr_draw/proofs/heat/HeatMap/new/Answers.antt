use Rattle.std.proofs.Common.{ℕ, ◌≡◌, replicate, length, refl}
use Rattle.std.proofs.lemmas.List.Elements.{All-replicate, same_from_all_zip}
use Rattle.hdr_draw.proofs.Cells.{empty, zeroes}
use Rattle.hdr_draw.proofs.heat.HeatMap.new.Goals as goal

pub invariant_of-result : goal.invariant_of-result
invariant_of-result c =
    let e : c.in_ok-vec.field-0.items ≡ replicate c.args.columns (zeroes 40) =
    c.in_ok-vec.ensures.items_if_clones_equal (λ y a. same_from_all_zip (λ (m n : ℕ). n ≡ m) (zeroes 40) y a.whole (λ m n h. h)) in
    rw e (empty c.args.columns 40, All-replicate (λ r. length r ≡ 40) c.args.columns (zeroes 40) refl)

pub returns : goal.returns
returns c = c.in_ok-vec.ensures.items_if_clones_equal (λ y a. same_from_all_zip (λ (m n : ℕ). n ≡ m) (zeroes 40) y a.whole (λ m n h. h))
