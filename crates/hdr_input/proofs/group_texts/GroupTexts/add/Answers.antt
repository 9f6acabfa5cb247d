use Rattle.std.proofs.Common.{◌≡◌, ◌∙◌, sym, ap, refl, Some, map, slice_get, option_map, ℕ, List, true}
use Rattle.std.specs.Str.{bytes_eq}
use Rattle.std.proofs.lemmas.Option.{slice_get-map}
use Rattle.std.proofs.lemmas.Slice.Eq.{bytes_eq-Decides}
use Rattle.hdr_input.specs.Groups.{with_text}
use Rattle.hdr_input.proofs.GroupTexts.{list_any-map, with_text-known, with_text-insert, find-passes}
use Rattle.hdr_input.proofs.group_texts.GroupTexts.add.Goals as goal

pub returns-in-Some-clause-texts : goal.returns-in-Some-clause-texts
returns-in-Some-clause-texts c =
    let found = c.in-Some.ensures.found in
    sym (with_text-known c.args.text.now (map (λ t. t.items) c.args.self.now.texts.keys)
    (list_any-map (λ t. t.items) (bytes_eq c.args.text.now) c.args.self.now.texts.keys ∙ sym found))

pub returns-in-Some-clause-index : goal.returns-in-Some-clause-index
returns-in-Some-clause-index c =
    let passes = find-passes (λ t. bytes_eq c.args.text.now t.items) c.args.self.now.texts.keys c.in-Some.field-0-1.now (sym c.in-Some.ensures.key) in
    let same = (bytes_eq-Decides c.args.text.now c.in-Some.field-0-1.now.items).0 passes in
    slice_get-map (λ t. t.items) c.args.self.now.texts.keys c.in-Some.index
    ∙ ap (option_map (λ t. t.items)) c.in-Some.ensures.stored ∙ ap Some (sym same)

pub returns-clause-texts : goal.returns-clause-texts
returns-clause-texts c =
    let old = c.args.self.now.texts.keys in
    ap (map (λ t. t.items)) c.in_ok-index.ensures.keys
    ∙ with_text-insert (λ t. t.items) old c.in_ok-owned.owned
    ∙ ap (λ text. with_text text (map (λ t. t.items) old)) c.in_ok-owned.ensures.items

pub returns-clause-index : goal.returns-clause-index
returns-clause-index c =
    let stored = c.in_ok-index.ensures.stored in
    let same = (bytes_eq-Decides c.in_ok-owned.owned.items stored.0.items).0 stored.2 in
    slice_get-map (λ t. t.items) c.insert_full.new.self.keys c.in_ok-index.index
    ∙ ap (option_map (λ t. t.items)) stored.1 ∙ ap Some (sym same ∙ c.in_ok-owned.ensures.items)
