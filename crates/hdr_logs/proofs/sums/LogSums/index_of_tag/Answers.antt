use Rattle.std.proofs.Common.{◌≡◌, ◌++◌, List, ℕ, None, [], ◌∷◌, Some, map, length, refl, subst, sym, ap, ◌∙◌, rules}
use Rattle.std.specs.HashMap.{get_by_text}
use Rattle.std.proofs.lemmas.List.{length-map}
use Rattle.std.specs.Map.{update}
use Rattle.std.specs.Str.{bytes_eq}
use Rattle.std.specs.String.{string_bytes}
use Rattle.std.proofs.lemmas.Map.Text.{hash_map_updates_text}
use Rattle.hdr_logs.specs.Sums.{Sum, index_of, view_of_sum, empty_sum, IsSumAt}
use Rattle.hdr_logs.proofs.Indices.{found_at, pushed_at, index_stays, index_new, indices_with, same_text}
use Rattle.hdr_logs.proofs.sums.LogSums.index_of_tag.Goals as goal

pub returns-in-Some-clause-index : goal.returns-in-Some-clause-index
returns-in-Some-clause-index c = λ indexed.
    let found : get_by_text c.args.self.now.indices c.args.tag.now ≡ Some c.in-Some.index.now = search rules in
    found_at c.args.self.now.sigfig (Some c.args.tag.now) (map view_of_sum c.args.self.now.sums.items) c.in-Some.index.now (sym (indexed.0 c.args.tag.now) ∙ found)

pub returns-clause-index : goal.returns-clause-index
returns-clause-index c = λ indexed.
    let sums : List Sum = map view_of_sum c.args.self.now.sums.items in
    let tag = c.args.tag.now in
    let sigfig = c.args.self.now.sigfig in
    let missing : get_by_text c.args.self.now.indices tag ≡ None = search rules in
    let none : index_of (Some tag) sums ≡ None = sym (indexed.0 tag) ∙ missing in
    let bytes : string_bytes c.in_ok-tag.tag ≡ tag = search rules in
    let pushed : map view_of_sum c.push_sum.new.self.sums.items ≡ sums ++ empty_sum sigfig (Some tag) ∷ [] =
    c.in_ok-index.ensures.sums ∙ ap (λ t. sums ++ empty_sum sigfig (Some t) ∷ []) bytes in
    let at : c.in_ok-index.index ≡ length sums = c.in_ok-index.ensures.index ∙ sym (length-map c.args.self.now.sums.items view_of_sum) in
    subst (λ l. IsSumAt sigfig sums l (Some tag) c.in_ok-index.index) (sym pushed) (subst (IsSumAt sigfig sums (sums ++ empty_sum sigfig (Some tag) ∷ []) (Some tag)) (sym at) (pushed_at sigfig (Some tag) sums none))

pub returns-clause-indices : goal.returns-clause-indices
returns-clause-indices c = λ indexed.
    let sums : List Sum = map view_of_sum c.args.self.now.sums.items in
    let tag = c.args.tag.now in
    let sigfig = c.args.self.now.sigfig in
    let old = c.args.self.now.indices in
    let new = c.insert.new.self in
    let missing : get_by_text old tag ≡ None = search rules in
    let none : index_of (Some tag) sums ≡ None = sym (indexed.0 tag) ∙ missing in
    let bytes : string_bytes c.in_ok-tag.tag ≡ tag = search rules in
    let key : string_bytes c.in_ok-key.key ≡ tag = search rules in
    let pushed : map view_of_sum c.push_sum.new.self.sums.items ≡ sums ++ empty_sum sigfig (Some tag) ∷ [] =
    c.in_ok-index.ensures.sums ∙ ap (λ t. sums ++ empty_sum sigfig (Some t) ∷ []) bytes in
    let at : c.in_ok-index.index ≡ length sums = c.in_ok-index.ensures.index ∙ sym (length-map c.args.self.now.sums.items view_of_sum) in
    let updates : (t : List ℕ) → get_by_text new t ≡ update bytes_eq (get_by_text c.push_sum.new.self.indices) (string_bytes c.in_ok-key.key) (Some c.in_ok-index.index) t =
    hash_map_updates_text (string_bytes c.in_ok-key.key) c.push_sum.new.self.indices new (Some c.in_ok-index.index) (search rules) in
    let after : (t : List ℕ) → get_by_text new t ≡ update bytes_eq (get_by_text old) tag (Some (length sums)) t = λ t.
    updates t ∙ ap (λ m. update bytes_eq (get_by_text m) (string_bytes c.in_ok-key.key) (Some c.in_ok-index.index) t) c.push_sum.ensures.indices
    ∙ ap (λ k. update bytes_eq (get_by_text old) k (Some c.in_ok-index.index) t) key ∙ ap (λ i. update bytes_eq (get_by_text old) tag (Some i) t) at in (
      λ t. indices_with sigfig tag sums (get_by_text old) (get_by_text new) indexed.0 none after t ∙ ap (index_of (Some t)) (sym pushed),
      c.push_sum.ensures.untagged ∙ indexed.1 ∙ sym (index_stays sigfig (Some tag) None sums refl) ∙ ap (index_of None) (sym pushed),
    )

pub returns-in-Some-clause-found : goal.returns-in-Some-clause-found
returns-in-Some-clause-found c = λ indexed.
    let found : get_by_text c.args.self.now.indices c.args.tag.now ≡ Some c.in-Some.index.now = search rules in
    sym (indexed.0 c.args.tag.now) ∙ found

pub returns-clause-found : goal.returns-clause-found
returns-clause-found c = λ indexed.
    let sums : List Sum = map view_of_sum c.args.self.now.sums.items in
    let tag = c.args.tag.now in
    let sigfig = c.args.self.now.sigfig in
    let missing : get_by_text c.args.self.now.indices tag ≡ None = search rules in
    let none : index_of (Some tag) sums ≡ None = sym (indexed.0 tag) ∙ missing in
    let bytes : string_bytes c.in_ok-tag.tag ≡ tag = search rules in
    let pushed : map view_of_sum c.push_sum.new.self.sums.items ≡ sums ++ empty_sum sigfig (Some tag) ∷ [] =
    c.in_ok-index.ensures.sums ∙ ap (λ t. sums ++ empty_sum sigfig (Some t) ∷ []) bytes in
    let at : c.in_ok-index.index ≡ length sums = c.in_ok-index.ensures.index ∙ sym (length-map c.args.self.now.sums.items view_of_sum) in
    ap (index_of (Some tag)) pushed ∙ index_new sigfig (Some tag) (Some tag) sums (same_text tag) none ∙ ap Some (sym at)
