use Rattle.std.proofs.Common.{◌≡◌, ◌∙◌, ◌∷◌, [], ◌++◌, length, take, subst, sym, ap, arith}
use Rattle.std.proofs.lemmas.List.{take_more}
use Rattle.hdr_base.specs.Classes.{Resolution}
use Rattle.hdr_model.specs.Plain.{Plain, resolution}
use Rattle.hdr_model.specs.Samples.{Fits}
use Rattle.hdr_model.specs.Runs.{StandsAt}
use Rattle.hdr_core.specs.CallsFrom.{IsCallFromError, after_call_from, after_calls_from, IsAcceptedFrom, AreAcceptedFrom, CallFromTo, CallsFromTo}
use Rattle.hdr_model.proofs.RunsFacts.{WasRun-push, at_place}
use Rattle.hdr_core.proofs.histogram.Histogram.apply_all_from.Goals as goal

pub loop-at-preserved : goal.loop-at-preserved
loop-at-preserved g c =
    let calls = c.args.calls.now in
    let at = c.loop-at.at in
    let call = c.index-calls-at.result in
    let h = c.args.self.now in
    let k = resolution h in
    let greatest = g.T.Counter.greatest in
    let number = g.T.Counter.number in
    let more = take_more calls at call (omega arith) ∙ ap (λ x. take at calls ++ x ∷ []) (sym c.index-calls-at.is) in
    let same = sym c.loop-at.invariant.same_classes in
    record {
      same_classes = c.in_default.ensures.same_classes ∙ c.loop-at.invariant.same_classes;
      same_bounds = (c.in_default.ensures.same_bounds.0 ∙ c.loop-at.invariant.same_bounds.0, c.in_default.ensures.same_bounds.1 ∙ c.loop-at.invariant.same_bounds.1, c.in_default.ensures.same_bounds.2 ∙ c.loop-at.invariant.same_bounds.2);
      run = rw more (WasRun-push (after_call_from greatest number) IsAcceptedFrom (CallFromTo number k) (Fits greatest k) (take at calls) call h c.loop-at.self c.apply_from.new.self c.loop-at.invariant.run c.in_default.ensures.accepted c.in_default.ensures.ok
          (λ s t stands called fits. c.in_default.ensures.samples s t stands (subst (λ (k : Resolution). CallFromTo number k call s t) same called) (subst (λ (k : Resolution). Fits greatest k t.samples) same fits)));
    }

pub returns-clause-samples : goal.returns-clause-samples
returns-clause-samples g c = λ s t stands run.
    c.loop-at.invariant.run.samples s t stands (subst (λ n. CallsFromTo g.T.Counter.number (resolution c.args.self.now) (Fits g.T.Counter.greatest (resolution c.args.self.now)) (take n c.args.calls.now) s t) (let e : length c.args.calls.now ≡ c.loop-at.at = omega arith in e) run)

pub returns-clause-done : goal.returns-clause-done
returns-clause-done g c =
    c.loop-at.invariant.run.done ∙ ap (λ n. after_calls_from g.T.Counter.greatest g.T.Counter.number (take n c.args.calls.now) c.args.self.now) (let e : c.loop-at.at ≡ length c.args.calls.now = omega arith in e)

pub returns-clause-accepted : goal.returns-clause-accepted
returns-clause-accepted g c =
    subst (λ n. AreAcceptedFrom g.T.Counter.greatest g.T.Counter.number (take n c.args.calls.now) c.args.self.now) (let e : c.loop-at.at ≡ length c.args.calls.now = omega arith in e) c.loop-at.invariant.run.taken

pub returns-in-Err-clause-samples : goal.returns-in-Err-clause-samples
returns-in-Err-clause-samples g c = λ s t stands run.
    subst (λ (h : Plain). StandsAt h t) (sym c.in-Err.ensures.err.1) (c.loop-at.invariant.run.samples s t stands run)

pub returns-in-Err-clause-err : goal.returns-in-Err-clause-err
returns-in-Err-clause-err g c =
    at_place _ c.args.calls.now c.loop-at.at c.index-calls-at.result (omega arith) c.index-calls-at.is
    (subst (λ (h : Plain). IsCallFromError h c.index-calls-at.result c.in-Err.cause) (sym c.in-Err.ensures.err.1) c.in-Err.ensures.err.0)
