use Rattle.std.proofs.Common.{◌≡◌, ℕ, Option, Some, None, IfSome, get_or, refl, ap, sym, subst, ◌∙◌, arith}
use Rattle.std.specs.Option.{option_map}
use Rattle.std.proofs.lemmas.List.Elements.{AllWithin-more, at_read}
use Rattle.hdr_input.specs.declared.unit.Unit.{Unit}
use Rattle.hdr_logs.specs.Stored.{decimals_of}
use Rattle.hdr_logs.specs.declared.stored.StoredInterval.{StoredInterval}
use Rattle.hdr_gather.specs.Left.{IsNextIn, scale_of}
use Rattle.hdr_gather.specs.declared.peekable.PeekableLog.{PeekableLog}
use Rattle.hdr_gather.proofs.gathering.first_scale.Goals as goal

-- an interval has its own scale
own-scale : (next : Option StoredInterval) (scale : ℕ × Option Unit) (d : ℕ) (u : Option Unit) → option_map scale_of next ≡ Some scale → IfSome next (λ s. (decimals_of s ≡ d) × (s.unit ≡ u))
    → (scale.0 ≡ d) × (scale.1 ≡ u)
own-scale None scale d u is one = absurd (cc)
own-scale (Some s) scale d u is one =
    let e : scale_of s ≡ scale = (cc) in
    (ap (λ p. p.0) (sym e) ∙ one.0, ap (λ p. p.1) (sym e) ∙ one.1)

no-scale : (next : Option StoredInterval) → option_map scale_of next ≡ None → next ≡ None
no-scale None is = refl
no-scale (Some s) is = absurd (cc)

without : {R : Type 0} (d : ℕ) (u : Option Unit) (log : PeekableLog R) → log.next ≡ None → IsNextIn d u log
without d u log none = subst (λ next. IfSome next (λ s. (decimals_of s ≡ d) × (s.unit ≡ u))) (sym none) tt

pub returns-in-Some : goal.returns-in-Some
returns-in-Some g c = λ d u all.
    let log = c.log-item.result in
    let scale = c.in-Some.scale in
    let here : IsNextIn d u log = subst (IsNextIn d u) (sym c.log-item.is) (all c.loop-log.log-index log c.loop-log-test.true) in
    let own = own-scale log.next scale d u (sym c.next_scale.ensures ∙ c.in-Some.is) here in
    λ k e inside.
    subst (λ n. IsNextIn n scale.1 (get_or c.args.logs.now k e)) (sym own.0) (subst (λ v. IsNextIn d v (get_or c.args.logs.now k e)) (sym own.1) (all k e inside))

pub loop-log-preserved : goal.loop-log-preserved
loop-log-preserved g c =
    let none = no-scale c.log-item.result.next (sym c.next_scale.ensures ∙ c.in_default.is) in
    AllWithin-more (λ log. log.next ≡ None) c.args.logs.now 0 c.loop-log.log-index c.loop-log.invariant
    (at_read c.args.logs.now (λ log. log.next ≡ None) c.loop-log.log-index c.log-item.result c.loop-log-test.true c.log-item.is none)

pub returns : goal.returns
returns g c = λ d u all k e inside. without 0 None (get_or c.args.logs.now k e) (c.loop-log.invariant k e (omega arith) (omega (arith, inside, c.loop-log-test.false)))
