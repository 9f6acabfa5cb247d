use Rattle.std.proofs.Common.{◌≡◌, ◌∙◌, ◌↔◌, ◌<◌, ℕ, Bool, not, IsTrue, IsPermutation, ap, drop, rules, subst, take}
use Rattle.std.specs.List.{All}
use Rattle.std.proofs.lemmas.List.Sorted.{All-permutation, answers_always, sum_by-IsPermutation}
use Rattle.hdr_view.specs.declared.naming.NamedIncidents.{NamedIncidents}
use Rattle.hdr_view.specs.Naming.{IsLineOf, count_in, lightest, times}
use Rattle.hdr_view.proofs.naming.Naming.new.Goals as goal

pub returns : goal.returns
returns c =
    let all = c.in_ok-named.named.items in
    let lines = c.sort_by_key.new.self.items in
    let first : c.first_of.result.now ≡ take 8 lines = c.first_of.ensures ∙ ap (take 8) c.deref-3.ensures.value in
    let rest : c.rest_of.result.now ≡ drop 8 lines = c.rest_of.ensures ∙ ap (drop 8) c.deref.ensures.value in
    let same : c.rest_of-2.result.now ≡ drop 8 lines = c.rest_of-2.ensures ∙ ap (drop 8) c.deref-2.ensures.value in
    let light : c.lightest.result ≡ lightest (take 8 lines) = c.lightest.ensures ∙ ap lightest first in
    let weight : NamedIncidents → Bool × ℕ = λ line. (not line.comes_first, line.heaviest) in
    let time : NamedIncidents → ℕ × ℕ = λ line. (line.start, line.tag) in
    record {
      lines = lines;
      each_once = λ index. sum_by-IsPermutation (λ (line : NamedIncidents). times index line.all.items) all lines c.in_ok-sort_by_key.ensures.permutation ∙ c.in_ok-named.ensures.each_once index;
      each = All-permutation (IsLineOf c.args.incidents.now) all lines c.in_ok-sort_by_key.ensures.permutation c.in_ok-named.ensures.each;
      by_weight = c.in_ok-sort_by_key.ensures.sorted weight (answers_always _ _ _ (λ f a r f' k. search rules));
      by_time = c.in_ok-sort_by_key-2.ensures.sorted time (answers_always _ _ _ (λ f a r f' k. search rules));
      named = subst (λ l. IsPermutation l c.sort_by_key-2.new.self.items) c.truncate.ensures.items c.in_ok-sort_by_key-2.ensures.permutation;
      others = c.count_in-others.ensures ∙ ap count_in rest;
      are_lighter = subst (λ l. IsTrue c.are_lighter-are_lighter.result ↔ All (λ (line : NamedIncidents). lightest (take 8 lines) < line.heaviest) l) same
          (subst (λ n. IsTrue c.are_lighter-are_lighter.result ↔ All (λ (line : NamedIncidents). n < line.heaviest) c.rest_of-2.result.now) light c.are_lighter-are_lighter.ensures);
    }
