use Rattle.std.proofs.Common.{◌∙◌, [], List, ap, map, subst, sym}
use Rattle.std.proofs.lemmas.List.{nil_from_length}
use Rattle.hdr_figures.specs.declared.sums.Key.{Key}
use Rattle.hdr_figures.proofs.Parts.{parts_all}
use Rattle.hdr_figures.specs.TagSums.{HasOwnClasses}
use Rattle.hdr_figures.specs.declared.sum.Sum.{Sum}
use Rattle.hdr_figures.proofs.TagParts.{own_point, points_more}
use Rattle.hdr_figures.proofs.sums.Sums.tag_of.Goals as goal

pub loop-part-init : goal.loop-part-init
loop-part-init c = record {
  points = ([], [], ap (λ (all : List Key). map (λ (k : Key). k.interval.now) all) (ap (λ (s : _). s.rest.now) c.into_iter-part-iterator.ensures.into_iter_gives ∙ c.chunk_by-part-items.ensures.rest), tt, c.in_ok-sum.ensures);
  own = c.requires;
}

pub loop-part-preserved : goal.loop-part-preserved
loop-part-preserved c =
    let one = c.in_ok-point.ensures in
    let before = c.loop-part.invariant in
    let own : HasOwnClasses c.add_point.new.self.point.histogram = own_point _ _ one.0 before.own one.2 in
    record {
      points = points_more (λ (k : Key). k.interval.now) c.in-Some.part.now _ _ c.args.keys.now c.add_point.new.self.point.histogram _ c.loop-part.sum.histogram c.add.new.self.histogram before.points c.in-Some.ensures.steps.0 before.own one.0 one.1 one.2 c.in_ok-add.ensures.sum;
      own = own;
    }

pub loop-part-preserved-in-Continue-branch-5 : goal.loop-part-preserved-in-Continue-branch-5
loop-part-preserved-in-Continue-branch-5 c =
    let one = c.in_ok-point.ensures in
    let before = c.loop-part.invariant in
    let own : HasOwnClasses c.add_point.new.self.point.histogram = own_point _ _ one.0 before.own one.2 in
    record {
      points = points_more (λ (k : Key). k.interval.now) c.in-Some.part.now _ _ c.args.keys.now c.add_point.new.self.point.histogram _ c.loop-part.sum.histogram c.add.new.self.histogram before.points c.in-Some.ensures.steps.0 before.own one.0 one.1 one.2 c.in_ok-add.ensures.sum;
      own = subst (λ (s : Sum). HasOwnClasses s.histogram) (sym c.add_total.ensures.point) own;
    }

pub loop-part-preserved-else-is_drawn : goal.loop-part-preserved-else-is_drawn
loop-part-preserved-else-is_drawn c =
    let one = c.in_ok-point.ensures in
    let before = c.loop-part.invariant in
    let own : HasOwnClasses c.add_point.new.self.point.histogram = own_point _ _ one.0 before.own one.2 in
    record {
      points = points_more (λ (k : Key). k.interval.now) c.in-Some.part.now _ _ c.args.keys.now c.add_point.new.self.point.histogram _ c.loop-part.sum.histogram c.add.new.self.histogram before.points c.in-Some.ensures.steps.0 before.own one.0 one.1 one.2 c.in_ok-add.ensures.sum;
      own = subst (λ (s : Sum). HasOwnClasses s.histogram) (sym c.add_total.ensures.point) own;
    }

pub returns-clause-classes : goal.returns-clause-classes
returns-clause-classes c = subst (λ (s : Sum). HasOwnClasses s.histogram) (sym c.take_starts.ensures) c.loop-part.invariant.own

pub returns-clause-sum : goal.returns-clause-sum
returns-clause-sum c =
    let before = c.loop-part.invariant.points in
    let steps = c.in-None.ensures.steps in
    record {
      parts = before.0;
      points = before.1;
      whole = sym (parts_all (λ (k : Key). k.interval.now) before.0 _ (nil_from_length _ steps.0)) ∙ before.2;
      each = before.3;
      is = before.4;
    }
