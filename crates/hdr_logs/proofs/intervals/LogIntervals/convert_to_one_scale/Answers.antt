use Rattle.std.proofs.Common.{◌≡◌, ◌∙◌, ◌++◌, take, drop, length, inl, sym, subst, arith}
use Rattle.std.specs.List.{All}
use Rattle.std.proofs.lemmas.Result.{err_from_is_err_and}
use Rattle.hdr_logs.specs.Scales.{HaveMixedUnits, IsAsFine}
use Rattle.hdr_logs.specs.Stored.{decimals_of}
use Rattle.hdr_logs.proofs.Changed.{refilled}
use Rattle.hdr_logs.proofs.intervals.LogIntervals.convert_to_one_scale.Goals as goal
use Rattle.hdr_logs.proofs.intervals.LogIntervals.convert_to_one_scale.Goals.{After-drop-4}

pub convert_all-requires : goal.convert_all-requires
convert_all-requires c =
    let scale = c.in_ok-scale.scale in
    let most = (c.in_ok-scale.ensures.scale.most scale.decimals).0 (omega arith) in
    subst (All (IsAsFine scale.decimals scale.unit)) (c.deref.ensures.value ∙ sym c.deref_mut.ensures.value) (λ k d inside. omega (arith, most k d inside))

-- the list is that of the converted intervals
refill : (c : After-drop-4) → take c.args.self.now.list.len (c.convert_all.new.intervals ++ drop (length c.convert_all.new.intervals) c.args.self.now.list.items) ≡ c.convert_all.new.intervals
refill c = refilled c.args.self.now.list.len c.convert_all.new.intervals _ (omega (arith, c.convert_all.auto.intervals, c.deref_mut.ensures.len))

pub returns-clause-decimals : goal.returns-clause-decimals
returns-clause-decimals c =
    let scale = c.in_ok-scale.scale in
    (scale.decimals, subst (All (λ s. decimals_of s ≡ scale.decimals)) (sym (refill c)) (λ k d inside. (c.in_ok-self.ensures.scale k d inside).0))

pub returns-clause-unit : goal.returns-clause-unit
returns-clause-unit c =
    let scale = c.in_ok-scale.scale in
    (scale.unit, subst (All (λ s. s.unit ≡ scale.unit)) (sym (refill c)) (λ k d inside. (c.in_ok-self.ensures.scale k d inside).1))

pub returns-in_err-scale-clause-errors : goal.returns-in_err-scale-clause-errors
returns-in_err-scale-clause-errors c =
    let same = err_from_is_err_and c.from_residual.result c.from_residual.ensures.1 in
    let error = c.in_err-scale.ensures.errors in
    rw (same.1, same.2) (inl (error.0, subst HaveMixedUnits c.deref.ensures.value error.1))
