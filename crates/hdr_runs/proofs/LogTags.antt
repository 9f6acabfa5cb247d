-- Tags whose samples are counted.
use Rattle.std.proofs.Common.{◌≡◌, ℕ, suc, zero, ◌+◌, ◌-◌, ◌^◌, ◌<◌, ◌≤◌, min, max, Bool, true, false, if◌then◌else◌, Result, Ok, Err, OnOk, List, [], ◌∷◌, ◌++◌, length, map, append-nil, append_assoc, refl, sym, ap, subst, ◌∙◌, arith}
use Rattle.std.specs.List.{All, AllZip}
use Rattle.std.proofs.lemmas.List.Elements.{All-nil, All-cons, All-head, All-tail, All-append}
use Rattle.hdr_model.specs.Plain.{Plain, resolution}
use Rattle.hdr_summary.specs.Classes.{Known, known_by, HasClasses}
use Rattle.hdr_summary.specs.Levels.{bound_of}
use Rattle.hdr_summary.specs.Means.{IsSumOf}
use Rattle.hdr_summary.specs.declared.levels.Level.{Level}
use Rattle.hdr_runs.specs.declared.log_counts.LogCounts.{LogCounts}
use Rattle.hdr_runs.specs.declared.log_counts.TagCounts.{TagCounts}
use Rattle.hdr_runs.specs.LogCounts.{HasCounted, HasCountedAt, IsOfUnits, AddsClasses, AddsTags, Asked, CountsAt, FitsBatches, JoinsAt, InBatches, InBatchesAt, IsLevelOf, ParsesLevels, TakesConverted, has_mean, asked_of, batches_of_tag, levels_of, tags_of, with_samples, with_values}
use Rattle.hdr_logs.proofs.Zips.{zip-map}

-- the samples of a histogram are counted in a tag
pub counted-more : (levels : List Level) (decimals : ℕ) (L : List Known) (S : List ℕ) (f : ℕ) (h : Plain) (old new : TagCounts) → HasCounted levels decimals L old → IsOfUnits f h S
    → AllZip (AddsClasses f h) old.counts.items new.counts.items → (has_mean levels ≡ true → IsSumOf new.sum (L ++ known_by f (resolution h) S))
    → HasCounted levels decimals (L ++ known_by f (resolution h) S) new
counted-more levels decimals L S f h old new counted units each sum = record {
  at_levels =
      zip-map (λ level counts. HasClasses counts (bound_of level.side level.number) decimals L)
      (λ level counts. HasClasses counts (bound_of level.side level.number) decimals (L ++ known_by f (resolution h) S)) (AddsClasses f h) levels old.counts.items new.counts.items
      (λ level x y has adds. adds (bound_of level.side level.number) decimals L S units.some has units.stands units.fit) counted.at_levels each;
  in_sum = sum;
}

-- the batches of a tag have no samples
abbrev is-new : Asked → TagCounts → Type 0
is-new asked tag = InBatches asked.tier asked.digits [] (batches_of_tag tag)

-- nothing is added, and one tag
pub adds-none : (decimals : ℕ) (c : LogCounts) → AddsTags decimals c c
adds-none decimals c = record {
  asked = refl;
  levels = refl;
  added = [];
  tags = sym (append-nil (tags_of c));
  none = λ few. All-nil (HasCounted (levels_of c) decimals []);
  batches = All-nil (is-new (asked_of c));
}

pub adds-one : (decimals : ℕ) (old new : LogCounts) (tag : TagCounts) → asked_of new ≡ asked_of old → levels_of new ≡ levels_of old → tags_of new ≡ tags_of old ++ tag ∷ []
    → (decimals ≤ 18 → HasCounted (levels_of old) decimals [] tag) → is-new (asked_of old) tag → AddsTags decimals old new
adds-one decimals old new tag asked levels tags none batches = record {
  asked = asked;
  levels = levels;
  added = tag ∷ [];
  tags = tags;
  none = λ few. All-cons (HasCounted (levels_of old) decimals []) tag [] (none few) (All-nil (HasCounted (levels_of old) decimals []));
  batches = All-cons (is-new (asked_of old)) tag [] batches (All-nil (is-new (asked_of old)));
}

-- tags are added, and then others
pub adds-after : (decimals : ℕ) (a b c : LogCounts) → AddsTags decimals a b → AddsTags decimals b c → AddsTags decimals a c
adds-after decimals a b c first more = record {
  asked = more.asked ∙ first.asked;
  levels = more.levels ∙ first.levels;
  added = first.added ++ more.added;
  tags = more.tags ∙ ap (λ l. l ++ more.added) first.tags ∙ append_assoc (tags_of a) first.added more.added;
  none = λ few.
      let here : All (HasCounted (levels_of a) decimals []) more.added = subst (λ l. All (HasCounted l decimals []) more.added) first.levels (more.none few) in
      All-append (HasCounted (levels_of a) decimals []) first.added more.added (first.none few) here;
  batches =
      let here : All (is-new (asked_of a)) more.added = subst (λ asked. All (is-new asked) more.added) first.asked more.batches in
      All-append (is-new (asked_of a)) first.added more.added first.batches here;
}

-- tags without samples, and one of them or none
none-at : (levels : List Level) (d : ℕ) (tags : List TagCounts) (k : ℕ) (L : List Known) → All (HasCounted levels d []) tags → L ≡ [] → HasCountedAt levels d tags k L
none-at levels d [] k L all none = none
none-at levels d (tag ∷ tags) zero L all none = subst (λ l. HasCounted levels d l tag) (sym none) (All-head (HasCounted levels d []) tag tags all)
none-at levels d (tag ∷ tags) (suc k) L all none = none-at levels d tags k L (All-tail (HasCounted levels d []) tag tags all) none

-- what a tag has counted stays where tags without samples are added
pub added-at : (levels : List Level) (d decimals : ℕ) (tags added : List TagCounts) (k : ℕ) (L : List Known) → (decimals ≤ 18 → All (HasCounted levels decimals []) added) → d ≤ 18 → (length tags ≤ k → d ≡ decimals)
    → HasCountedAt levels d tags k L → HasCountedAt levels d (tags ++ added) k L
added-at levels d decimals [] added k L none few same at =
    let is : d ≡ decimals = same (omega arith) in
    none-at levels d added k L (subst (λ n. All (HasCounted levels n []) added) (sym is) (none (omega (arith, is, few)))) at
added-at levels d decimals (tag ∷ tags) added zero L none few same at = at
added-at levels d decimals (tag ∷ tags) added (suc k) L none few same at = added-at levels d decimals tags added k L none few (λ past. same (omega (arith, past))) at

-- batches without samples, of one of some tags or none
new-at : (asked : Asked) (tags : List TagCounts) (k : ℕ) (S : List ℕ) → All (is-new asked) tags → S ≡ [] → InBatchesAt asked tags k S
new-at asked [] k S all none = none
new-at asked (tag ∷ tags) zero S all none = subst (λ l. InBatches asked.tier asked.digits l (batches_of_tag tag)) (sym none) (All-head (is-new asked) tag tags all)
new-at asked (tag ∷ tags) (suc k) S all none = new-at asked tags k S (All-tail (is-new asked) tag tags all) none

-- what the batches of a tag have stays where tags without samples are added
batches-at : (asked : Asked) (tags added : List TagCounts) (k : ℕ) (S : List ℕ) → All (is-new asked) added → InBatchesAt asked tags k S → InBatchesAt asked (tags ++ added) k S
batches-at asked [] added k S all at = new-at asked added k S all at
batches-at asked (tag ∷ tags) added zero S all at = at
batches-at asked (tag ∷ tags) added (suc k) S all at = batches-at asked tags added k S all at

-- levels are known, tags without samples are added, and a histogram is counted in one tag
pub takes-converted : (old known mid new : LogCounts) (index count factor : ℕ) (own h : Plain) (decimals : ℕ) → ParsesLevels old known → tags_of known ≡ tags_of old → AddsTags decimals known mid
    → length (tags_of mid) ≡ max (length (tags_of known)) count → count ≡ min (index + 1) (2 ^ 64 - 1) → index < 2 ^ 64
    → levels_of new ≡ levels_of mid → asked_of new ≡ asked_of mid → length (tags_of new) ≡ length (tags_of mid) → index < length (tags_of new)
    → CountsAt (levels_of mid) factor own index (tags_of mid) (tags_of new) → JoinsAt (asked_of mid) h index (tags_of mid) (tags_of new)
    → TakesConverted old index factor own h decimals new
takes-converted old known mid new index count factor own h decimals parses same adds many is fits levels asked long inside more join =
    let all : levels_of new ≡ levels_of known = levels ∙ adds.levels in
    let before : asked_of mid ≡ asked_of old = adds.asked ∙ parses.asked in
    record {
      levels = record {
        asked = asked ∙ before;
        known = λ some. all ∙ parses.known some;
        parsed = λ none. ap (map (λ level. level.text.now)) all ∙ parses.parsed none;
        amounts = λ none. let amounts = parses.amounts none in
            (amounts.0, subst (AllZip (λ text level. IsLevelOf old.written.asked amounts.0 text.now level) old.written.texts.now) (sym all) amounts.1);
      };
      tags = omega (arith, many, is, fits, long, inside, ap length same);
      samples = λ k d L S few fresh units at.
          let before : HasCountedAt (levels_of known) d (tags_of known) k L = subst (λ l. HasCountedAt l d (tags_of known) k L) all (subst (λ l. HasCountedAt (levels_of new) d l k L) (sym same) at) in
          let added : HasCountedAt (levels_of known) d (tags_of known ++ adds.added) k L = added-at (levels_of known) d decimals (tags_of known) adds.added k L adds.none few (λ past. fresh (omega (arith, past, ap length same))) before in
          let here : HasCountedAt (levels_of mid) d (tags_of mid) k L = subst (λ l. HasCountedAt l d (tags_of mid) k L) (sym adds.levels) (subst (λ l. HasCountedAt (levels_of known) d l k L) (sym adds.tags) added) in
          subst (λ l. HasCountedAt l d (tags_of new) k (with_samples k index factor own S L)) (sym levels) (more k d L S units here);
      batches = λ k S T stands fit few at.
          let known-at : InBatchesAt (asked_of old) (tags_of known) k S = subst (λ l. InBatchesAt (asked_of old) l k S) (sym same) at in
          let news : All (is-new (asked_of old)) adds.added = subst (λ a. All (is-new a) adds.added) parses.asked adds.batches in
          let added : InBatchesAt (asked_of old) (tags_of known ++ adds.added) k S = batches-at (asked_of old) (tags_of known) adds.added k S news known-at in
          let here : InBatchesAt (asked_of old) (tags_of mid) k S = subst (λ l. InBatchesAt (asked_of old) l k S) (sym adds.tags) added in
          let joined = join k S T stands (subst (λ a. FitsBatches a.digits h) (sym before) fit) few (subst (λ a. InBatchesAt a (tags_of mid) k S) (sym before) here) in
          subst (λ a. InBatchesAt a (tags_of new) k (with_values k index T S)) before joined;
    }

-- a tag is added, or none
pub adds-if : (decimals : ℕ) (old new : LogCounts) (tag : TagCounts) (added : Bool) → asked_of new ≡ asked_of old → levels_of new ≡ levels_of old
    → tags_of new ≡ (if added then tags_of old ++ tag ∷ [] else tags_of old) → (decimals ≤ 18 → HasCounted (levels_of old) decimals [] tag) → is-new (asked_of old) tag → AddsTags decimals old new
adds-if decimals old new tag true asked levels tags none batches = adds-one decimals old new tag asked levels tags none batches
adds-if decimals old new tag false asked levels tags none batches = record {
  asked = asked;
  levels = levels;
  added = [];
  tags = tags ∙ sym (append-nil (tags_of old));
  none = λ few. All-nil (HasCounted (levels_of old) decimals []);
  batches = All-nil (is-new (asked_of old));
}

-- three clauses of a call that returned `Ok`
pub all-ok : {T E O P Q R : Type 0} (r : Result T E) → (O → P → Q → R) → OnOk r O → OnOk r P → OnOk r Q → OnOk r R
all-ok (Ok x) f o p q = f o p q
all-ok (Err e) f o p q = tt
