-- Histograms that are taken one after the other.
use Rattle.std.proofs.Common.{◌≡◌, ◌≢◌, ◌==◌, ℕ, ◌^◌, ◌<◌, Bool, true, false, if◌then◌else◌, List, [], ◌∷◌, ◌++◌, length, map, append-nil, append_assoc, refl, sym, ap, subst, ◌∙◌, arith}
use Rattle.std.specs.List.{All}
use Rattle.std.proofs.lemmas.List.{map-append, length-append}
use Rattle.std.proofs.lemmas.List.Elements.{All-head, All-tail}
use Rattle.hdr_base.specs.Classes.{Resolution}
use Rattle.hdr_model.specs.Plain.{Plain, resolution}
use Rattle.hdr_model.specs.Samples.{StandsFor}
use Rattle.hdr_logs.specs.Intervals.{LogInterval}
use Rattle.hdr_logs.specs.Sums.{Summing, PassesAll}
use Rattle.hdr_summary.specs.Classes.{Known, known_by}
use Rattle.hdr_summary.specs.declared.levels.Level.{Level}
use Rattle.hdr_runs.specs.declared.log_counts.LogCounts.{LogCounts}
use Rattle.hdr_runs.specs.LogCounts.{FitsBatches, HasCountedAt, InBatchesAt, IsOfUnits, ParsesLevels, TakesHistogram, asked_of, levels_of, tags_of, with_samples, with_values}
use Rattle.hdr_runs.specs.CountedLogs.{Taken, AreTaken, CountsEach, JoinsEach, samples_at, values_at}

-- histograms are taken, one after the other, whose values have these decimals
abbrev pub TakesAll : ℕ → LogCounts → List Taken → LogCounts → Type 0
TakesAll decimals old [] new = new ≡ old
TakesAll decimals old (t ∷ taken) new = (mid : LogCounts) × TakesHistogram old t.index t.histogram decimals mid × TakesAll decimals mid taken new

-- levels will stay: if there are none, none are written
abbrev AreFixed : LogCounts → Type 0
AreFixed c = levels_of c ≡ [] → (asked_of c).texts ≡ []

abbrev text_of_level : Level → List ℕ
text_of_level level = level.text.now

no-levels : (levels : List Level) (texts : List (List ℕ)) → map text_of_level levels ≡ texts → texts ≡ [] → levels ≡ []
no-levels [] texts are none = refl
no-levels (level ∷ levels) texts are none = cc

no-texts : (levels : List Level) (texts : List (List ℕ)) → map text_of_level levels ≡ texts → levels ≡ [] → texts ≡ []
no-texts levels texts are none = sym are ∙ ap (map text_of_level) none

stays : (before after : List Level) (texts : List (List ℕ)) → (before ≢ [] → after ≡ before) → (before ≡ [] → map text_of_level after ≡ texts) → (before ≡ [] → texts ≡ []) → after ≡ before
stays [] after texts known parsed fixed = no-levels after texts (parsed refl) (fixed refl)
stays (level ∷ before) after texts known parsed fixed = known (λ e. absurd (cc))

then-fixed : (before after : List Level) (texts : List (List ℕ)) → (before ≢ [] → after ≡ before) → (before ≡ [] → map text_of_level after ≡ texts) → after ≡ [] → texts ≡ []
then-fixed [] after texts known parsed none = no-texts after texts (parsed refl) none
then-fixed (level ∷ before) after texts known parsed none =
    let same : after ≡ level ∷ before = known (λ e. absurd (cc)) in
    absurd (cc)

fixed-after : (old new : LogCounts) → ParsesLevels old new → AreFixed new
fixed-after old new parses none = ap (λ a. a.texts) parses.asked ∙ then-fixed (levels_of old) (levels_of new) (asked_of old).texts parses.known parses.parsed none

levels-stay : (d : ℕ) (taken : List Taken) (old new : LogCounts) → AreFixed old → TakesAll d old taken new → levels_of new ≡ levels_of old
levels-stay d [] old new fixed takes = ap levels_of takes
levels-stay d (t ∷ taken) old new fixed takes =
    levels-stay d taken takes.0 new (fixed-after old takes.0 takes.1.levels) takes.2 ∙ stays (levels_of old) (levels_of takes.0) (asked_of old).texts takes.1.levels.known takes.1.levels.parsed fixed

-- samples of one tag and then those of further histograms
grouped : {X : Type 0} (b : Bool) (L M rest : List X) → (if b then L ++ M else L) ++ rest ≡ L ++ ((if b then M else []) ++ rest)
grouped true L M rest = append_assoc L M rest
grouped false L M rest = refl

-- a histogram whose values are as they were
as-it-is : (h : Plain) (S : List ℕ) → StandsFor h S → IsOfUnits 1 h S
as-it-is h S stands = record { some = omega arith; stands = stands; fit = λ other. absurd (other refl) }

-- each tag has counted what was taken
pub counts-each : (d : ℕ) (taken : List Taken) (old new : LogCounts) → TakesAll d old taken new → CountsEach old d taken new
counts-each d [] old new takes k L SS few stand at =
    let here : HasCountedAt (levels_of new) d (tags_of new) k L = subst (λ c. HasCountedAt (levels_of new) d (tags_of c) k L) (sym takes) at in
    subst (HasCountedAt (levels_of new) d (tags_of new) k) (sym (append-nil L)) here
counts-each d (t ∷ taken) old new takes k L [] few stand at = absurd stand
counts-each d (t ∷ taken) old new takes k L (S ∷ SS) few stand at =
    let mid = takes.0 in
    let stay : levels_of new ≡ levels_of mid = levels-stay d taken mid new (fixed-after old mid takes.1.levels) takes.2 in
    let before : HasCountedAt (levels_of mid) d (tags_of old) k L = subst (λ l. HasCountedAt l d (tags_of old) k L) stay at in
    let one : HasCountedAt (levels_of mid) d (tags_of mid) k (with_samples k t.index 1 t.histogram S L) =
    takes.1.samples k d L S few (λ fresh. refl) (as-it-is t.histogram S stand.0) before in
    let more = counts-each d taken mid new takes.2 k (with_samples k t.index 1 t.histogram S L) SS few stand.1 (subst (λ l. HasCountedAt l d (tags_of mid) k (with_samples k t.index 1 t.histogram S L)) (sym stay) one) in
    subst (HasCountedAt (levels_of new) d (tags_of new) k) (grouped (k == t.index) L (known_by 1 (resolution t.histogram) S) (samples_at k taken SS)) more

values-known : (g : Resolution) (S : List ℕ) → map (λ x. x.value) (known_by 1 g S) ≡ S
values-known g [] = refl
values-known g (s ∷ S) = ap (λ l. s ∷ l) (values-known g S)

abbrev values : List Known → List ℕ
values L = map (λ x. x.value) L

values-if : (b : Bool) (g : Resolution) (S : List ℕ) → values (if b then known_by 1 g S else []) ≡ (if b then S else [])
values-if true g S = values-known g S
values-if false g S = refl

-- values of one tag and then those of further histograms
values-grouped : (b : Bool) (g : Resolution) (S T : List ℕ) (rest : List Known) → (if b then S ++ T else S) ++ values rest ≡ S ++ values ((if b then known_by 1 g T else []) ++ rest)
values-grouped b g S T rest =
    grouped b S T (values rest)
    ∙ ap (λ l. S ++ (l ++ values rest)) (sym (values-if b g T))
    ∙ ap (λ l. S ++ l) (sym (map-append (λ x. x.value) (if b then known_by 1 g T else []) rest))

-- the batches of each tag have what was taken
pub joins-each : (d : ℕ) (taken : List Taken) (old new : LogCounts) → TakesAll d old taken new → JoinsEach old taken new
joins-each d [] old new takes k S SS fit stand few at =
    let here : InBatchesAt (asked_of old) (tags_of new) k S = subst (λ c. InBatchesAt (asked_of old) (tags_of c) k S) (sym takes) at in
    subst (InBatchesAt (asked_of old) (tags_of new) k) (sym (append-nil S)) here
joins-each d (t ∷ taken) old new takes k S [] fit stand few at = absurd stand
joins-each d (t ∷ taken) old new takes k S (T ∷ SS) fit stand few at =
    let mid = takes.0 in
    let same : asked_of mid ≡ asked_of old = takes.1.levels.asked in
    let P : ℕ → Taken → Type 0 = λ n x. FitsBatches n x.histogram in
    let digits = (asked_of old).digits in
    let joined : List ℕ = with_values k t.index T S in
    let is : joined ++ values_at k taken SS ≡ S ++ values_at k (t ∷ taken) (T ∷ SS) = values-grouped (k == t.index) (resolution t.histogram) S T (samples_at k taken SS) in
    let long : length (joined ++ values_at k taken SS) < 2 ^ 64 = subst (λ l. length l < 2 ^ 64) (sym is) few in
    let some : length joined < 2 ^ 64 = omega (arith, long, length-append joined (values_at k taken SS)) in
    let one : InBatchesAt (asked_of old) (tags_of mid) k joined = takes.1.batches k S T stand.0 (All-head (P digits) t taken fit) some at in
    let more = joins-each d taken mid new takes.2 k joined SS (subst (λ a. All (P a.digits) taken) (sym same) (All-tail (P digits) t taken fit)) stand.1 long (subst (λ a. InBatchesAt a (tags_of mid) k joined) (sym same) one) in
    let there : InBatchesAt (asked_of old) (tags_of new) k (joined ++ values_at k taken SS) = subst (λ a. InBatchesAt a (tags_of new) k (joined ++ values_at k taken SS)) same more in
    subst (InBatchesAt (asked_of old) (tags_of new) k) is there

-- what was passed was taken
pub are-taken : (d : ℕ) (all : List LogInterval) (old new : Summing) (sink after : LogCounts) → PassesAll TakesHistogram d old all new sink after → (taken : List Taken) × AreTaken old all new taken × TakesAll d sink taken after
are-taken d [] old new sink after passes = ([], passes.0, passes.1)
are-taken d (i ∷ all) old new sink after passes =
    let one = passes.2 in
    let t : Taken = record { index = one.1; histogram = one.0 } in
    let rest = are-taken d all passes.0 new passes.1 after passes.3 in
    (t ∷ rest.0, (passes.0, one.2, rest.1), (passes.1, one.3, rest.2))
