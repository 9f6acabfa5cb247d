-- A tag's parts, one after the other, and the sum of their histograms.
use Rattle.std.proofs.Common.{◌≡◌, ◌∙◌, ◌-◌, ◌^◌, ◌++◌, ◌∷◌, [], true, List, ap, map, refl, subst, sym}
use Rattle.std.specs.List.{AllZip}
use Rattle.std.proofs.lemmas.List.Sums.{fold_push}
use Rattle.hdr_model.specs.Merging.{after_add}
use Rattle.hdr_model.specs.Plain.{Plain, empty_plain}
use Rattle.hdr_model.specs.Recording.{after_reset}
use Rattle.hdr_logs.proofs.Zips.{zip-push}
use Rattle.hdr_model.proofs.PlainBounds.{bounds-merged, same-bounds}
use Rattle.hdr_logs.specs.declared.stored.StoredInterval.{StoredInterval}
use Rattle.std.specs.List.Sorted.{IsPermutation}
use Rattle.hdr_figures.specs.Intervals.{AreHistogramsOf, span_of, sum_of}
use Rattle.hdr_figures.specs.TagSums.{AreOfSum, HasOwnClasses, IsPointSum, IsTagSum, joined}
use Rattle.hdr_figures.specs.declared.figures.TagFigures.{TagFigures}
use Rattle.hdr_figures.specs.declared.level.PageLevel.{PageLevel}
use Rattle.hdr_figures.proofs.Parts.{parts_more}

-- the sum of one more
pub sum_more : (old : Plain) (all : List Plain) (one sum next : Plain) → sum ≡ sum_of old all → next ≡ after_add (2 ^ 64 - 1) sum one → next ≡ sum_of old (all ++ one ∷ [])
sum_more old all one sum next before is = is ∙ ap (λ s. after_add (2 ^ 64 - 1) s one) before ∙ sym (fold_push (λ s h. after_add (2 ^ 64 - 1) s h) old all one)

-- adding keeps the classes of sums, and so does a reset
own_sum : (old : Plain) (all : List Plain) → HasOwnClasses old → HasOwnClasses (sum_of old all)
own_sum old [] own = own
own_sum old (h ∷ all) own =
    let same = same-bounds (after_add (2 ^ 64 - 1) old h) old (bounds-merged (2 ^ 64 - 1) old h) in
    own_sum (after_add (2 ^ 64 - 1) old h) all (same.0 ∙ own.0, same.1 ∙ own.1)

own_reset : (old : Plain) → HasOwnClasses old → HasOwnClasses (after_reset old)
unfolding after_reset
own_reset old own = own

pub own_point : (old point : Plain) (all : List Plain) → HasOwnClasses old → point ≡ sum_of (after_reset old) all → HasOwnClasses point
own_point old point all own is = subst HasOwnClasses (sym is) (own_sum (after_reset old) all (own_reset old own))

-- the parts of some of a tag's intervals, their sums, and the sum of these. `left` are the others
abbrev pub ArePoints : {K : Type 0} → (K → StoredInterval) → (left all : List K) → Plain → Type 0
ArePoints f left all sum = (parts : List (List StoredInterval)) × (points : List Plain)
    × (joined parts ++ map f left ≡ map f all)
    × AllZip IsPointSum parts points
    × (sum ≡ sum_of (empty_plain 1 2 3 true) points)

-- one part more
pub points_more : {K : Type 0} (f : K → StoredInterval) (part rest left all : List K) (point old sum next : Plain) → ArePoints f rest all sum → rest ≡ part ++ left
    → HasOwnClasses old → (hs : List Plain) → AreHistogramsOf (map f part) hs → point ≡ sum_of (after_reset old) hs → next ≡ after_add (2 ^ 64 - 1) sum point → ArePoints f left all next
points_more f part rest left all point old sum next before cut own hs are is added = (
  before.0 ++ map f part ∷ [],
  before.1 ++ point ∷ [],
  parts_more f before.0 part rest left (map f all) before.2 cut,
  zip-push IsPointSum before.0 before.1 (map f part) point before.3 (hs, old, own, are, is),
  sum_more (empty_plain 1 2 3 true) before.1 point sum next before.4 added,
)

-- the parts of some of a log's intervals by tag, their sums, the figures of these, and the sum of all. `left` are the others
pub record AreTags {K : Type 0} (f : K → StoredInterval) (left : List K) (intervals : List StoredInterval) (levels : List PageLevel) (tags : List TagFigures) (sum : Plain) : Type 0 where
  pub parts : List (List StoredInterval)
  pub sums : List Plain
  pub whole : IsPermutation intervals (joined parts ++ map f left)
  pub each : AllZip IsTagSum parts sums
  pub figures : AllZip (AreOfSum levels) sums tags
  pub lengths : AllZip (λ part (tag : TagFigures). tag.length ≡ span_of part) parts tags
  pub all : sum ≡ sum_of (empty_plain 1 2 3 true) sums

-- one tag more
pub tags_more : {K : Type 0} (f : K → StoredInterval) (part rest left : List K) (intervals : List StoredInterval) (levels : List PageLevel) (tags : List TagFigures) (tag : TagFigures) (one sum next : Plain)
    → AreTags f rest intervals levels tags sum → rest ≡ part ++ left → IsTagSum (map f part) one → AreOfSum levels one tag → tag.length ≡ span_of (map f part) → next ≡ after_add (2 ^ 64 - 1) sum one
    → AreTags f left intervals levels (tags ++ tag ∷ []) next
tags_more f part rest left intervals levels tags tag one sum next before cut is are length added = record {
  parts = before.parts ++ map f part ∷ [];
  sums = before.sums ++ one ∷ [];
  whole = subst (IsPermutation intervals) (sym (parts_more f before.parts part rest left (joined before.parts ++ map f rest) refl cut)) before.whole;
  each = zip-push IsTagSum before.parts before.sums (map f part) one before.each is;
  figures = zip-push (AreOfSum levels) before.sums tags one tag before.figures are;
  lengths = zip-push (λ part (tag : TagFigures). tag.length ≡ span_of part) before.parts tags (map f part) tag before.lengths length;
  all = sum_more (empty_plain 1 2 3 true) before.sums one sum next before.all added;
}
