use Rattle.std.proofs.Common.{◌≡◌, ℕ, ◌+◌, ◌*◌, ◌/◌, List, length, get_or, set, map, arith, rules, sym, subst, ap, ◌∙◌}
use Rattle.std.specs.List.{slice_range, range_with_len}
use Rattle.std.proofs.lemmas.List.Edits.{fill_by_more}
use Rattle.std.proofs.lemmas.List.FromFn.{fill_by_all}
use Rattle.hdr_verdict.specs.declared.rate.Rate.{Rate}
use Rattle.hdr_verdict.specs.Rates.{together, parts_of}
use Rattle.hdr_verdict.proofs.rate.parts_of.Goals as goal

abbrev part_at : List Rate → ℕ → ℕ → Rate
part_at cells size part = together (slice_range cells (part * size) (part * size + size))

pub loop-part-preserved : goal.loop-part-preserved
loop-part-preserved c =
    let cells = c.last_of-cells.result.now in
    let size = length c.args.cells.now / 8 in
    record {
      filled = λ k d h. subst (λ y. get_or (set c.loop-part.parts c.loop-part.part y) k d ≡ part_at cells size k) (sym c.together.ensures)
          (fill_by_more (part_at cells size) c.loop-part.parts c.loop-part.part d (omega arith) (λ j l. c.loop-part.invariant.filled j d l) k h);
      long = search rules;
    }

no_rate : Rate
no_rate = record { samples = 0; time = 0 }

pub returns : goal.returns
unfolding parts_of
returns c =
    let cells = c.last_of-cells.result.now in
    let size = length c.args.cells.now / 8 in
    fill_by_all (part_at cells size) c.loop-part.parts 8 no_rate (omega arith) (λ k h. c.loop-part.invariant.filled k no_rate (omega arith))
    ∙ ap (λ xs. map (part_at xs size) (range_with_len 0 8)) c.last_of-cells.ensures
