use Rattle.std.proofs.Common.{◌≡◌, ◌++◌, List, None, [], ◌∷◌, Some, map, length, refl, subst, sym, ap, ◌∙◌, rules}
use Rattle.std.specs.Option.{option_map}
use Rattle.std.specs.HashMap.{get_by_text}
use Rattle.std.proofs.lemmas.List.{length-map}
use Rattle.hdr_log.specs.Tags.{tag_text}
use Rattle.hdr_logs.specs.Sums.{Sum, index_of, view_of_sum, empty_sum, sum_tag, IsSumAt}
use Rattle.hdr_logs.proofs.Indices.{found_at, pushed_at, index_stays, index_new}
use Rattle.hdr_logs.proofs.sums.LogSums.index_of.Goals as goal

pub returns-in-Some-untagged-clause-index : goal.returns-in-Some-untagged-clause-index
returns-in-Some-untagged-clause-index c = λ indexed.
    let sums : List Sum = map view_of_sum c.args.self.now.sums.items in
    let none : sum_tag c.args.self.now.is_by_tag (option_map tag_text c.args.tag) ≡ None = search rules in
    let found : index_of None sums ≡ Some c.in-Some-untagged.index = sym indexed.1 ∙ c.in-Some-untagged.is in
    subst (λ t. IsSumAt c.args.self.now.sigfig sums sums t c.in-Some-untagged.index) (sym none) (found_at c.args.self.now.sigfig None sums c.in-Some-untagged.index found)

pub returns-in_ok-index-in-None-untagged-clause-index : goal.returns-in_ok-index-in-None-untagged-clause-index
returns-in_ok-index-in-None-untagged-clause-index c = λ indexed.
    let sums : List Sum = map view_of_sum c.args.self.now.sums.items in
    let sigfig = c.args.self.now.sigfig in
    let index = c.in_ok-index-in-None-untagged.index in
    let none : sum_tag c.args.self.now.is_by_tag (option_map tag_text c.args.tag) ≡ None = search rules in
    let missing : index_of None sums ≡ None = sym indexed.1 ∙ c.in-None-untagged.is in
    let at : index ≡ length sums = c.in_ok-index-in-None-untagged.ensures.index ∙ sym (length-map c.args.self.now.sums.items view_of_sum) in
    let all : List Sum = sums ++ empty_sum sigfig None ∷ [] in
    subst (λ t. IsSumAt sigfig sums (map view_of_sum c.push_sum.new.self.sums.items) t index) (sym none)
    (subst (λ l. IsSumAt sigfig sums l None index) (sym c.in_ok-index-in-None-untagged.ensures.sums) (subst (IsSumAt sigfig sums all None) (sym at) (pushed_at sigfig None sums missing)))

pub returns-in_ok-index-in-None-untagged-clause-indices : goal.returns-in_ok-index-in-None-untagged-clause-indices
returns-in_ok-index-in-None-untagged-clause-indices c = λ indexed.
    let sums : List Sum = map view_of_sum c.args.self.now.sums.items in
    let sigfig = c.args.self.now.sigfig in
    let index = c.in_ok-index-in-None-untagged.index in
    let missing : index_of None sums ≡ None = sym indexed.1 ∙ c.in-None-untagged.is in
    let pushed = c.in_ok-index-in-None-untagged.ensures.sums in
    let at : index ≡ length sums = c.in_ok-index-in-None-untagged.ensures.index ∙ sym (length-map c.args.self.now.sums.items view_of_sum) in (
      λ t. ap (λ m. get_by_text m t) c.push_sum.ensures.indices ∙ indexed.0 t ∙ sym (index_stays sigfig None (Some t) sums refl) ∙ ap (index_of (Some t)) (sym pushed),
      ap Some at ∙ sym (index_new sigfig None None sums refl missing) ∙ ap (index_of None) (sym pushed),
    )

pub returns-in-Some-untagged-clause-found : goal.returns-in-Some-untagged-clause-found
returns-in-Some-untagged-clause-found c = λ indexed.
    let sums : List Sum = map view_of_sum c.args.self.now.sums.items in
    let none : sum_tag c.args.self.now.is_by_tag (option_map tag_text c.args.tag) ≡ None = search rules in
    ap (λ t. index_of t sums) none ∙ sym indexed.1 ∙ c.in-Some-untagged.is

pub returns-in_ok-index-in-None-untagged-clause-found : goal.returns-in_ok-index-in-None-untagged-clause-found
returns-in_ok-index-in-None-untagged-clause-found c = λ indexed.
    let sums : List Sum = map view_of_sum c.args.self.now.sums.items in
    let sigfig = c.args.self.now.sigfig in
    let none : sum_tag c.args.self.now.is_by_tag (option_map tag_text c.args.tag) ≡ None = search rules in
    let missing : index_of None sums ≡ None = sym indexed.1 ∙ c.in-None-untagged.is in
    let at : c.in_ok-index-in-None-untagged.index ≡ length sums = c.in_ok-index-in-None-untagged.ensures.index ∙ sym (length-map c.args.self.now.sums.items view_of_sum) in
    ap (λ t. index_of t (map view_of_sum c.push_sum.new.self.sums.items)) none ∙ ap (index_of None) c.in_ok-index-in-None-untagged.ensures.sums
    ∙ index_new sigfig None None sums refl missing ∙ ap Some (sym at)
