use Rattle.std.proofs.Common.{rules, ◌≡◌, ◌∙◌, ◌++◌, ◌∷◌, [], List, map, ap, sym}
use Rattle.std.proofs.lemmas.List.{map_push}
use Rattle.std.proofs.lemmas.Iterator.Adapters.{YieldsList-from_vec}
use Rattle.std.proofs.lemmas.Iterator.Consumers.{YieldsList-end}
use Rattle.hdr_verdict.specs.declared.runs.Run.{Run}
use Rattle.hdr_verdict.specs.Slow.{Slow, runs_in, views_of, view_of_slow, with_value}
use Rattle.hdr_verdict.proofs.Each.{all-yielded}
use Rattle.hdr_verdict.proofs.Keeping.{keeps-samples, keeps-both}
use Rattle.hdr_verdict.proofs.search.with_values.Goals as goal

pub loop-slow-preserved : goal.loop-slow-preserved
loop-slow-preserved c =
    let old = c.args.samples.now in
    let before = c.loop-slow.invariant in
    record {
      keeps = keeps-both old c.loop-slow.samples c.with_value.new.samples before.keeps c.with_value.ensures.keeps;
      found = λ cells s.
          let here = keeps-samples old c.loop-slow.samples cells before.keeps s in
          let f : Slow → Slow = with_value c.args.test.now cells c.in_ok-runs.runs.items in
          let one = c.in_ok-with_value.ensures.slow cells here ∙ ap (λ (l : List Run). with_value c.args.test.now cells l (view_of_slow c.in-Some.slow)) c.deref-in-loop-slow.ensures.value in
          ap views_of c.in_ok-push.ensures.items ∙ map_push view_of_slow c.loop-slow.all.items c.in_ok-with_value.field-0
          ∙ ap (λ l. l ++ view_of_slow c.in_ok-with_value.field-0 ∷ []) (before.found cells s) ∙ ap (λ x. map f (views_of c.loop-slow.yielded) ++ x ∷ []) one
          ∙ sym (map_push f (views_of c.loop-slow.yielded) (view_of_slow c.in-Some.slow)) ∙ ap (map f) (sym (map_push view_of_slow c.loop-slow.yielded c.in-Some.slow));
    }

pub returns-clause-found : goal.returns-clause-found
returns-clause-found c = λ cells s.
    let whole = all-yielded c.loop-slow.yielded c.args.found.items (YieldsList-end (YieldsList-from_vec c.args.found.items (search rules) (search rules)) c.loop-slow.yielded c.loop-slow.slow-iterator c.loop-slow.yielded_by c.next.result c.next.new.self c.in-None.is c.next.ensures.steps).0 in
    let runs : c.in_ok-runs.runs.items ≡ runs_in (views_of c.args.found.items) = c.in_ok-runs.ensures ∙ ap (λ l. runs_in (views_of l)) c.deref.ensures.value in
    c.loop-slow.invariant.found cells s ∙ ap (λ l. map (with_value c.args.test.now cells c.in_ok-runs.runs.items) (views_of l)) whole ∙ ap (λ (l : List Run). map (with_value c.args.test.now cells l) (views_of c.args.found.items)) runs
