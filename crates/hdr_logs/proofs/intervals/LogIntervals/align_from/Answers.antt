use Rattle.std.proofs.Common.{◌≡◌, ◌++◌, length, map, min, take, drop, sym, ap, ap₂, subst, ◌∙◌, arith, length-append}
use Rattle.std.specs.List.{All}
use Rattle.std.proofs.lemmas.List.{take_min, drop_min, take-map, drop-map, map-append, with_items_is}
use Rattle.hdr_logs.specs.Stored.{view_of_stored, decimals_of}
use Rattle.hdr_logs.proofs.Moving.{laid_as, same_behind, on_ok}
use Rattle.hdr_logs.proofs.intervals.LogIntervals.align_from.Goals as goal

pub returns-in-Some-clause-aligned : goal.returns-in-Some-clause-aligned
returns-in-Some-clause-aligned c =
    let items = c.args.self.now.list.items in
    let parts = c.split_at_mut-before in
    let whole : c.deref_mut.result.now ≡ items = c.deref_mut.ensures.value in
    let many : c.len.result ≡ length items = c.len.ensures ∙ sym c.deref_mut.ensures.len ∙ ap length whole in
    let at : c.min-index.result ≡ min c.args.index (length items) = c.min-index.ensures ∙ ap (λ n. min c.args.index n) many in
    let front : parts.result.0.now ≡ take c.args.index items = parts.ensures.front ∙ ap₂ take at whole ∙ take_min c.args.index items in
    let back : parts.result.1.now ≡ drop c.args.index items = parts.ensures.back ∙ ap₂ drop at whole ∙ drop_min c.args.index items in
    let before : map view_of_stored parts.result.0.now ≡ take c.args.index (map view_of_stored items) = ap (map view_of_stored) front ∙ sym (take-map view_of_stored c.args.index items) in
    let rest : map view_of_stored parts.result.1.now ≡ drop c.args.index (map view_of_stored items) = ap (map view_of_stored) back ∙ sym (drop-map view_of_stored c.args.index items) in
    let new = c.begin_at.new.intervals in
    let both = parts.result.0.now ++ new in
    let long : length both ≡ c.args.self.now.list.len =
    omega (arith, length-append parts.result.0.now new, c.begin_at.auto.intervals, parts.ensures.front_len, parts.ensures.back_len, c.deref_mut.ensures.len) in
    let all = sym (map-append view_of_stored parts.result.0.now new) ∙ sym (ap (map view_of_stored) (with_items_is c.args.self.now.list both long)) in
    on_ok c.begin_at.result (λ begins. laid_as _ _ _ (map view_of_stored parts.result.0.now) (map view_of_stored parts.result.1.now) (map view_of_stored new) c.in-Some.start before rest all c.in-Some.ensures begins)
    c.begin_at.ensures.begin

pub returns-in-Some-clause-decimals : goal.returns-in-Some-clause-decimals
returns-in-Some-clause-decimals c =
    let parts = c.split_at_mut-before in
    let whole : parts.result.0.now ++ parts.result.1.now ≡ c.args.self.now.list.items = sym parts.ensures.value ∙ c.deref_mut.ensures.value in
    let new = c.begin_at.new.intervals in
    let both = parts.result.0.now ++ new in
    let long : length both ≡ c.args.self.now.list.len =
    omega (arith, length-append parts.result.0.now new, c.begin_at.auto.intervals, parts.ensures.front_len, parts.ensures.back_len, c.deref_mut.ensures.len) in
    let all = sym (with_items_is c.args.self.now.list both long) in
    on_ok c.begin_at.result (λ same have. (
      have.0,
      subst (All (λ s. decimals_of s ≡ have.0)) all (same_behind decimals_of have.0 parts.result.0.now parts.result.1.now new same
          (subst (All (λ s. decimals_of s ≡ have.0)) (sym whole) have.1)),
    )) c.begin_at.ensures.decimals

pub returns-in-Some-clause-unit : goal.returns-in-Some-clause-unit
returns-in-Some-clause-unit c =
    let parts = c.split_at_mut-before in
    let whole : parts.result.0.now ++ parts.result.1.now ≡ c.args.self.now.list.items = sym parts.ensures.value ∙ c.deref_mut.ensures.value in
    let new = c.begin_at.new.intervals in
    let both = parts.result.0.now ++ new in
    let long : length both ≡ c.args.self.now.list.len =
    omega (arith, length-append parts.result.0.now new, c.begin_at.auto.intervals, parts.ensures.front_len, parts.ensures.back_len, c.deref_mut.ensures.len) in
    let all = sym (with_items_is c.args.self.now.list both long) in
    on_ok c.begin_at.result (λ same have. (
      have.0,
      subst (All (λ s. s.unit ≡ have.0)) all (same_behind (λ s. s.unit) have.0 parts.result.0.now parts.result.1.now new same
          (subst (All (λ s. s.unit ≡ have.0)) (sym whole) have.1)),
    )) c.begin_at.ensures.unit
