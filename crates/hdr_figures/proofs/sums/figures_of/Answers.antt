use Rattle.std.proofs.Common.{◌≡◌, ◌∙◌, [], List, ap, map, subst, sym}
use Rattle.std.specs.List.{AllZip}
use Rattle.std.specs.List.Sorted.{IsPermutation}
use Rattle.std.specs.Slice.Iter.{chunk_by_rest}
use Rattle.std.proofs.lemmas.List.{nil_from_length}
use Rattle.hdr_figures.specs.Figures.{AreFiguresOf}
use Rattle.hdr_figures.specs.Intervals.{span_of}
use Rattle.hdr_figures.specs.TagSums.{AreOfSum}
use Rattle.hdr_figures.specs.declared.figures.TagFigures.{TagFigures}
use Rattle.hdr_figures.specs.declared.sums.Key.{Key}
use Rattle.hdr_figures.proofs.Parts.{parts_all}
use Rattle.hdr_figures.proofs.TagParts.{AreTags, tags_more}
use Rattle.hdr_figures.proofs.sums.figures_of.Goals as goal

pub loop-part-init : goal.loop-part-init
loop-part-init c =
    let rest = ap (λ (s : _). s.rest.now) c.into_iter-part-iterator.ensures.into_iter_gives ∙ c.chunk_by-part-items.ensures.rest ∙ c.deref.ensures.value in
    record {
      tags = record {
        parts = [];
        sums = [];
        whole = subst (λ (keys : List Key). IsPermutation c.args.intervals.now (map (λ (k : Key). k.interval.now) keys)) (sym rest) c.in_ok-keys.ensures;
        each = tt;
        figures = subst (AllZip (AreOfSum c.args.levels.now) []) (sym c.new-tags.ensures.items) tt;
        lengths = subst (AllZip (λ part (tag : TagFigures). tag.length ≡ span_of part) []) (sym c.new-tags.ensures.items) tt;
        all = c.in_ok-sum.ensures;
      };
      own = c.in_ok-sums.ensures;
    }

pub tag_of-requires : goal.tag_of-requires
tag_of-requires c = c.loop-part.invariant.own

pub loop-part-preserved : goal.loop-part-preserved
loop-part-preserved c =
    let found = c.in_ok-length.ensures in
    let tag = c.in_ok-tag_figures.ensures in
    let one = c.in_ok-length.samples.sum.histogram in
    record {
      tags = subst (λ tags. AreTags (λ (k : Key). k.interval.now) (chunk_by_rest c.next.new.self) c.args.intervals.now c.args.levels.now tags c.add.new.self.histogram) (sym c.in_ok-push_tag.ensures)
          (tags_more (λ (k : Key). k.interval.now) c.in-Some.part.now _ _ c.args.intervals.now c.args.levels.now c.loop-part.tags.items c.in_ok-tag_figures.field-0 one c.loop-part.sum.histogram c.add.new.self.histogram
          c.loop-part.invariant.tags c.in-Some.ensures.steps.0 found.sum (record { figures = subst (AreFiguresOf one) (sym tag.figures) found.figures; at_levels = tag.levels }) (tag.length ∙ found.length) c.in_ok-add.ensures.sum);
      own = found.classes;
    }

pub returns-clause-sums : goal.returns-clause-sums
returns-clause-sums c =
    let before = c.loop-part.invariant.tags in
    let rest = nil_from_length _ c.in-None.ensures.steps.0 in
    record {
      parts = before.parts;
      sums = before.sums;
      tags = c.loop-part.tags.items;
      whole = subst (IsPermutation c.args.intervals.now) (parts_all (λ (k : Key). k.interval.now) before.parts _ rest) before.whole;
      each = before.each;
      figures = before.figures;
      lengths = before.lengths;
      listed = c.sort_by_key.ensures.permutation;
      all = before.all;
    }
