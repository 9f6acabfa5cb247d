use Rattle.std.proofs.Common.{rules, ◌∙◌, ◌++◌, ◌∷◌, [], Bool, filter, not, ap, sym}
use Rattle.std.specs.List.{fold}
use Rattle.std.proofs.lemmas.List.{map_push}
use Rattle.std.proofs.lemmas.Iterator.Adapters.{YieldsList-from_vec}
use Rattle.std.proofs.lemmas.Iterator.Consumers.{YieldsList-end}
use Rattle.hdr_verdict.proofs.Each.{all-yielded}
use Rattle.hdr_verdict.specs.Slow.{Slow, is_same, joined, views_of, view_of_slow}
use Rattle.hdr_verdict.proofs.Keeping.{keeps-samples, keeps-both}
use Rattle.hdr_verdict.proofs.SlowFacts.{join-step}
use Rattle.hdr_verdict.proofs.search.with_slow.Goals as goal

pub loop-earlier-preserved : goal.loop-earlier-preserved
loop-earlier-preserved c =
    let old = c.args.samples.now in
    let before = c.loop-earlier.invariant in
    record {
      keeps = keeps-both old c.loop-earlier.samples c.is_same.new.samples before.keeps c.is_same.ensures.keeps;
      found = λ cells s.
          let same : Slow → Bool = λ e. is_same c.args.test.now cells c.args.value c.args.slow.run e.run in
          let here = keeps-samples old c.loop-earlier.samples cells before.keeps s in
          let seen = views_of c.loop-earlier.yielded in
          let e = view_of_slow c.in-Some.earlier in
          let step = join-step same seen (views_of c.loop-earlier.kept.items) (views_of c.join_or_keep.new.kept.items) e (view_of_slow c.args.slow) (view_of_slow c.loop-earlier.slow) (view_of_slow c.in_ok-slow.slow) c.in_ok-same.same
          (c.in_ok-same.ensures.same cells here) c.in_ok-slow.ensures.slow c.in_ok-slow.ensures.kept (before.found cells s).0 (before.found cells s).1 in
          let more = sym (map_push view_of_slow c.loop-earlier.yielded c.in-Some.earlier) in
          (step.0 ∙ ap (filter (λ f. not (same f))) more, step.1 ∙ ap (λ l. fold joined (view_of_slow c.args.slow) (filter same l)) more);
    }

pub returns-clause-found : goal.returns-clause-found
returns-clause-found c = λ cells s.
    let same : Slow → Bool = λ e. is_same c.args.test.now cells c.args.value c.args.slow.run e.run in
    let whole = all-yielded c.loop-earlier.yielded c.args.found.items (YieldsList-end (YieldsList-from_vec c.args.found.items (search rules) (search rules)) c.loop-earlier.yielded c.loop-earlier.earlier-iterator c.loop-earlier.yielded_by c.next.result c.next.new.self c.in-None.is c.next.ensures.steps).0 in
    let before = c.loop-earlier.invariant.found cells s in
    let views = ap views_of whole in
    ap views_of c.in_ok-push.ensures.items ∙ map_push view_of_slow c.loop-earlier.kept.items c.loop-earlier.slow
    ∙ ap (λ l. l ++ view_of_slow c.loop-earlier.slow ∷ []) (before.0 ∙ ap (filter (λ f. not (same f))) views)
    ∙ ap (λ x. filter (λ f. not (same f)) (views_of c.args.found.items) ++ x ∷ []) (before.1 ∙ ap (λ l. fold joined (view_of_slow c.args.slow) (filter same l)) views)
