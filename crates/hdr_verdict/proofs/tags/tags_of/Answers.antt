use Rattle.std.proofs.Common.{◌≡◌, ◌↔◌, ◌∙◌, ◌+◌, ◌++◌, ◌∷◌, ◌<◌, IsTrue, [], Bor, List, length, map, drop, get_or, append-nil, ap, sym, subst, arith}
use Rattle.std.specs.List.{All}
use Rattle.std.proofs.lemmas.List.{drop_all, get_or-map, length-map, map_push}
use Rattle.std.proofs.lemmas.List.Elements.{All-push}
use Rattle.hdr_logs.specs.declared.stored.StoredInterval.{StoredInterval}
use Rattle.hdr_verdict.specs.Tags.{AreTagsOf, IsTag, first_name, is_of, part_of, part_of_tag, parts_from}
use Rattle.hdr_verdict.specs.declared.tags.Entry.{Entry}
use Rattle.hdr_verdict.specs.declared.tags.Tag.{Tag}
use Rattle.hdr_verdict.proofs.GroupFacts.{drop-one}
use Rattle.hdr_verdict.proofs.TagParts.{cut-part, kept-part, part-none, part-some}
use Rattle.hdr_verdict.proofs.tags.tags_of.Goals.{then-not-is_of+in_ok-tag_of+in_ok-push, else-not-is_of, then-has_some+in_ok-tag_of-2+in_ok-push-3, else-has_some}
use Rattle.hdr_verdict.proofs.tags.tags_of.Goals as goal

abbrev interval_of : Entry → StoredInterval
interval_of e = e.interval.now

abbrev now_of : Bor StoredInterval → StoredInterval
now_of i = i.now

pub loop-entry-preserved : goal.loop-entry-preserved
loop-entry-preserved c =
    let entries = c.deref-entry-items.result.now in
    let all = map interval_of entries in
    let i = c.loop-entry.entry-index in
    let ref = c.entry-item.result.interval in
    let x = ref.now in
    let rest = drop (i + 1) all in
    let whole = parts_from [] all in
    let part = map now_of c.loop-entry.group.items in
    let old = c.loop-entry.tags.items in
    let new = c.push-in-loop-entry.new.self.items in
    let inside : i < length all = omega (arith, length-map entries interval_of, c.loop-entry-test.true) in
    let item : get_or all i x ≡ x = get_or-map interval_of entries i c.entry-item.result x c.loop-entry-test.true ∙ ap interval_of (sym c.entry-item.is) in
    let front : drop i all ≡ x ∷ rest = drop-one all i x inside ∙ ap (λ y. y ∷ rest) item in
    let before : map part_of_tag old ++ parts_from part (x ∷ rest) ≡ whole = ap (λ l. map part_of_tag old ++ parts_from part l) (sym front) ∙ c.loop-entry.invariant.parts in
    let test : is_of part x ≡ c.is_of.result = ap (λ l. is_of (map now_of l) x) (sym c.deref.ensures.value) ∙ sym c.is_of.ensures in
    elim c.if-not-is_of.branch [
      | then-not-is_of+in_ok-tag_of+in_ok-push w ↦ (
          let tag = w.in_ok-tag_of.field-0 in
          let tags : c.if-not-is_of.tags.items ≡ old ++ tag ∷ [] = ap (λ t. t.items) w.tags-is ∙ w.in_ok-push.ensures.items in
          let group : new ≡ ref ∷ [] = c.in_ok-push-2.ensures.items ∙ ap (λ g. g.items ++ ref ∷ []) w.group-is ∙ ap (λ l. l ++ ref ∷ []) w.new-group-then-not-is_of.ensures.items in
          let own : part_of_tag tag ≡ part = w.in_ok-tag_of.ensures.intervals in
          record {
            parts = ap (λ l. map part_of_tag l ++ parts_from (map now_of new) rest) tags ∙ ap (λ g. map part_of_tag (old ++ tag ∷ []) ++ parts_from (map now_of g) rest) group
                ∙ ap (λ l. l ++ parts_from (x ∷ []) rest) (map_push part_of_tag old tag) ∙ ap (λ p. (map part_of_tag old ++ p ∷ []) ++ parts_from (x ∷ []) rest) own
                ∙ cut-part (map part_of_tag old) part rest x whole (test ∙ w.if-not-is_of.true) before;
            each = subst (All (IsTag c.last_end-end.result)) (sym tags) (All-push (IsTag c.last_end-end.result) old tag c.loop-entry.invariant.each
                (record { name = w.in_ok-tag_of.ensures.name ∙ ap first_name (sym own); cells = w.in_ok-tag_of.ensures.cells }));
          })
      | else-not-is_of w ↦ (
          let tags : c.if-not-is_of.tags.items ≡ old = ap (λ t. t.items) w.tags-is in
          let group : new ≡ c.loop-entry.group.items ++ ref ∷ [] = c.in_ok-push-2.ensures.items ∙ ap (λ g. g.items ++ ref ∷ []) w.group-is in
          record {
            parts = ap (λ l. map part_of_tag l ++ parts_from (map now_of new) rest) tags ∙ ap (λ g. map part_of_tag old ++ parts_from (map now_of g) rest) group
                ∙ ap (λ p. map part_of_tag old ++ parts_from p rest) (map_push now_of c.loop-entry.group.items ref)
                ∙ kept-part (map part_of_tag old) part rest x whole (test ∙ w.if-not-is_of.false) before;
            each = subst (All (IsTag c.last_end-end.result)) (sym tags) c.loop-entry.invariant.each;
          })
    ]

pub returns : goal.returns
returns c =
    let entries = c.deref-entry-items.result.now in
    let all = map interval_of entries in
    let same : all ≡ map interval_of c.in_ok-entries.entries.items = ap (map interval_of) c.deref-entry-items.ensures.value in
    let whole = parts_from [] all in
    let end = c.last_end-end.result in
    let part = map now_of c.loop-entry.group.items in
    let old = c.loop-entry.tags.items in
    let done : drop c.loop-entry.entry-index all ≡ [] = drop_all c.loop-entry.entry-index all (omega (arith, length-map entries interval_of, c.loop-entry-test.false)) in
    let before : map part_of_tag old ++ part_of part ≡ whole = ap (λ l. map part_of_tag old ++ parts_from part l) (sym done) ∙ c.loop-entry.invariant.parts in
    let many : length part ≡ length c.deref-2.result.now = length-map c.loop-entry.group.items now_of ∙ ap length (sym c.deref-2.ensures.value) in
    let made : (tags : List Tag) → map part_of_tag tags ≡ whole → All (IsTag end) tags → AreTagsOf c.args.intervals.now tags = λ tags parts each. record {
      sorted = map interval_of c.in_ok-entries.entries.items;
      permutation = c.in_ok-entries.ensures.permutation;
      order = c.in_ok-entries.ensures.sorted;
      parts = parts ∙ ap (parts_from []) same;
      each = subst (λ e. All (IsTag e) tags) c.last_end-end.ensures each;
    } in
    elim c.if-has_some.branch [
      | then-has_some+in_ok-tag_of-2+in_ok-push-3 w ↦ (
          let tag = w.in_ok-tag_of-2.field-0 in
          let tags : c.if-has_some.tags.items ≡ old ++ tag ∷ [] = ap (λ t. t.items) w.tags-is ∙ w.in_ok-push-3.ensures.items in
          let own : part_of_tag tag ≡ part = w.in_ok-tag_of-2.ensures.intervals in
          let some : 0 < length part = omega (arith, many) in
          made c.if-has_some.tags.items
          (ap (map part_of_tag) tags ∙ map_push part_of_tag old tag ∙ ap (λ p. map part_of_tag old ++ p ∷ []) own ∙ ap (λ p. map part_of_tag old ++ p) (sym (part-some part some)) ∙ before)
          (subst (All (IsTag end)) (sym tags) (All-push (IsTag end) old tag c.loop-entry.invariant.each
          (record { name = w.in_ok-tag_of-2.ensures.name ∙ ap first_name (sym own); cells = w.in_ok-tag_of-2.ensures.cells }))))
      | else-has_some w ↦ (
          let tags : c.if-has_some.tags.items ≡ old = ap (λ t. t.items) w.tags-is in
          made c.if-has_some.tags.items
          (ap (map part_of_tag) tags ∙ sym (append-nil (map part_of_tag old)) ∙ ap (λ p. map part_of_tag old ++ p) (sym (part-none part c.has_some.result (subst (λ n. IsTrue c.has_some.result ↔ (0 < n)) (sym many) c.has_some.ensures) w.if-has_some.false)) ∙ before)
          (subst (All (IsTag end)) (sym tags) c.loop-entry.invariant.each))
    ]
