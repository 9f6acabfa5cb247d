-- What a log's lines recorded is what a merge of the written log reports.
use Rattle.hdr_tool.proofs.Common.{◌≡◌, ℕ, ◌-◌, ◌*◌, ◌^◌, ◌≤◌, Bool, true, false, cond, List, [], ◌∷◌, ◌++◌, Option, Some, None, IfSome, refl, sym, ap₂, ◌∙◌, subst, arith, AllByRecursion, enumerate_from, Resolution, IsFiner, Ratio, Plain, IsPlain, resolution, StandsWhereFits, State, after_adds, IsPart, AreParts, joined_samples, AnswersRanked, Filter, is_chosen, IsReadBack, Fault, parts, Log, Merge, Options, greatest_into, filter_of, IsReport, Outcome, Interval, chosen_of, ends_of, EndsWith, IsEnd, AllZip}
use Rattle.hdr_base.specs.Classes.{resolution_of}
use Rattle.hdr_model.specs.Plain.{empty_plain}
use Rattle.hdr_model.specs.Samples.{StandsFor, Fits}
use Rattle.hdr_tool.specs.Arguments.{task_of}
use Rattle.std.specs.List.{cons_option}
use Rattle.hdr_model.specs.Merging.{after_add}
use Rattle.hdr_tool.specs.LogMerges.{EndsStand, LogThenMerge}
use Rattle.hdr_tool.proofs.LogMergesWritten.{HaveSameBounds, same_through}
use Rattle.hdr_tool.proofs.ArgumentsFigures.{AreFigures, HasFigures, task_figures, some_greatest, NewIsPlain, empty_is_plain, empty_resolution, empty_low, empty_sigfig, empty_high}

pub same_unit : (n m : ℕ) → (resolution_of 1 n).unit ≤ (resolution_of 1 m).unit
unfolding resolution_of
same_unit n m = omega arith

-- ---- histograms read back

-- what the library's law on what was read back says
pub record ReadsStand : Type 0 where
  pub plain : (greatest : ℕ) (h k : Plain) → IsPlain greatest h → IsReadBack h k → IsPlain greatest k
  pub classes : (h k : Plain) → IsReadBack h k → resolution k ≡ resolution h
  pub samples : (greatest : ℕ) (h k : Plain) (S : List ℕ) → IsPlain greatest h → IsReadBack h k → StandsFor h S → StandsFor k S

ends_plain : (g : Resolution) (hs : List (Interval Plain)) (Ls : List (Interval (List ℕ))) → AllZip (IsEnd g) hs Ls → AllByRecursion (λ (e : Interval Plain). IsPlain (2 ^ 64 - 1) e.holds) hs
ends_plain g [] [] e = tt
ends_plain g [] (L ∷ Ls) e = absurd e
ends_plain g (h ∷ hs) [] e = absurd e
ends_plain g (h ∷ hs) (L ∷ Ls) e = (e.0.plain, ends_plain g hs Ls e.1)

-- the histograms of chosen intervals, by the samples of the same intervals
record Holds (g : Resolution) (h : Plain) (L : List ℕ) : Type 0 where
  plain : IsPlain (2 ^ 64 - 1) h
  stands : StandsFor h L
  classes : resolution h ≡ g

chosen_one : (g : Resolution) (b c : Bool) (h : Plain) (L : List ℕ) (hs : List Plain) (Ls : List (List ℕ)) → b ≡ c → Holds g h L → AllZip (Holds g) hs Ls → AllZip (Holds g) (cons_option (cond b (Some h) None) hs) (cons_option (cond c (Some L) None) Ls)
chosen_one g true true h L hs Ls e one all = (one, all)
chosen_one g false false h L hs Ls e one all = all
chosen_one g true false h L hs Ls e one all = absurd (let f = e in cc)
chosen_one g false true h L hs Ls e one all = absurd (let f = e in cc)

chosen_hold : (filter : Filter) (g : Resolution) (hs : List (Interval Plain)) (Ls : List (Interval (List ℕ))) → AllZip (IsEnd g) hs Ls → AllZip (Holds g) (chosen_of filter hs) (chosen_of filter Ls)
chosen_hold filter g [] [] e = tt
chosen_hold filter g [] (L ∷ Ls) e = absurd e
chosen_hold filter g (h ∷ hs) [] e = absurd e
chosen_hold filter g (h ∷ hs) (L ∷ Ls) e =
    let same : is_chosen filter h.tag (h.start * 1_000_000) ≡ is_chosen filter L.tag (L.start * 1_000_000) = ap₂ (λ t n. is_chosen filter t (n * 1_000_000)) e.0.tag e.0.start in
    chosen_one g (is_chosen filter h.tag (h.start * 1_000_000)) (is_chosen filter L.tag (L.start * 1_000_000)) h.holds L.holds (chosen_of filter hs) (chosen_of filter Ls) same
    (record { plain = e.0.plain; stands = e.0.stands; classes = e.0.classes }) (chosen_hold filter g hs Ls e.1)

read_parts : (f g : Resolution) (hs ks : List Plain) (Ls : List (List ℕ)) → ReadsStand → IsFiner g f → AllZip (Holds g) hs Ls → AllZip IsReadBack hs ks → AreParts (2 ^ 64 - 1) f ks Ls
read_parts f g [] [] [] back fine e r = tt
read_parts f g [] [] (L ∷ Ls) back fine e r = absurd e
read_parts f g [] (k ∷ ks) Ls back fine e r = absurd r
read_parts f g (h ∷ hs) [] Ls back fine e r = absurd r
read_parts f g (h ∷ hs) (k ∷ ks) [] back fine e r = absurd e
read_parts f g (h ∷ hs) (k ∷ ks) (L ∷ Ls) back fine e r =
    let one : IsPart (2 ^ 64 - 1) f k L = record {
      plain = back.plain (2 ^ 64 - 1) h k e.0.plain r.0;
      stands = back.samples (2 ^ 64 - 1) h k L e.0.plain r.0 e.0.stands;
      finer = subst (λ (x : Resolution). IsFiner x f) (sym (back.classes h k r.0 ∙ e.0.classes)) fine;
    } in
    (one, read_parts f g hs ks Ls back fine e.1 r.1)

-- ---- from the samples to the report

-- what the core's laws on histograms that are added say
pub record JoinedStand : Type 0 where
  pub bounds : (greatest : ℕ) (h s : Plain) → HaveSameBounds (after_add greatest h s) h
  pub sum : (greatest most : ℕ) (h : Plain) (ks : List Plain) (S : List ℕ) (Ls : List (List ℕ)) → 1 ≤ greatest → IsPlain greatest h → StandsFor h S
      → AreParts most (resolution h) ks Ls → Fits greatest (resolution h) (S ++ joined_samples Ls) → StandsFor (after_adds greatest h ks) (S ++ joined_samples Ls) × IsPlain greatest (after_adds greatest h ks)
  pub ranked : (greatest most : ℕ) (h : Plain) (ks : List Plain) (S : List ℕ) (Ls : List (List ℕ)) → 1 ≤ greatest → IsPlain greatest h → StandsFor h S
      → AreParts most (resolution h) ks Ls → Fits greatest (resolution h) (S ++ joined_samples Ls) → AnswersRanked (after_adds greatest h ks) (S ++ joined_samples Ls)

added_bounds : JoinedStand → (greatest : ℕ) (h : Plain) (ks : List Plain) → HaveSameBounds (after_adds greatest h ks) h
added_bounds joined greatest h [] = (refl, refl, refl)
added_bounds joined greatest h (k ∷ ks) = same_through (after_adds greatest h (k ∷ ks)) (after_add greatest h k) h (added_bounds joined greatest (after_add greatest h k) ks) (joined.bounds greatest h k)

pub record IsMerged (fewer : ℕ) (quantiles : List Ratio) (text samples : List ℕ) : Type 0 where
  pub histogram : Plain
  pub low : histogram.low ≡ 1
  pub sigfig : histogram.sigfig ≡ fewer
  pub report : IsReport histogram quantiles text
  pub stands : StandsFor histogram samples
  pub ranked : AnswersRanked histogram samples

pub whole_way : (log merge : List (List ℕ)) (sigfig fewer : ℕ) (options : Options) (quantiles : List Ratio) (input written text : List ℕ) (fault : Option Fault) (Ls : List (Interval (List ℕ)))
    → NewIsPlain → EndsStand → LogThenMerge → JoinedStand → ReadsStand → ((n : ℕ) → StandsFor (empty_plain 1 2 n true) []) → IsFiner (resolution_of 1 sigfig) (resolution_of 1 fewer)
    → task_of log ≡ Some (Log sigfig) → task_of merge ≡ Some (Merge options fewer quantiles)
    → EndsWith (resolution_of 1 sigfig) (record { samples = []; high = 2 }) (enumerate_from 1 (parts 10 input)) Ls → Fits (greatest_into options.into) (resolution_of 1 fewer) (joined_samples (chosen_of (filter_of options) Ls))
    → Outcome log input written None → Outcome merge written text fault → (fault ≡ None) × IsMerged fewer quantiles text (joined_samples (chosen_of (filter_of options) Ls))
whole_way log merge sigfig fewer options quantiles input written text fault Ls new stand merged_of joined back made fine tl tm ends fits wrote merged =
    let h = empty_plain 1 2 sigfig true in
    let k = empty_plain 1 2 fewer true in
    let filter = filter_of options in
    let greatest = greatest_into options.into in
    let start : State = record { samples = []; high = 2 } in
    let lines = enumerate_from 1 (parts 10 input) in
    let few : sigfig ≤ 5 = subst (λ o. IfSome o HasFigures) tl (task_figures log) in
    let figures : AreFigures (fewer, quantiles) = subst (λ o. IfSome o HasFigures) tm (task_figures merge) in
    let stands : StandsWhereFits (2 ^ 64 - 1) h start = ((λ fits. made sigfig), empty_high sigfig) in
    let ended : AllZip (IsEnd (resolution h)) (ends_of h lines) Ls = stand h start lines Ls (empty_is_plain new (2 ^ 64 - 1) sigfig few) stands (subst (λ (g : Resolution). EndsWith g start lines Ls) (sym (empty_resolution sigfig)) ends) in
    let m = merged_of log merge sigfig fewer options quantiles input written text fault tl tm (ends_plain (resolution h) (ends_of h lines) Ls ended) wrote merged in
    let finer : IsFiner (resolution h) (resolution k) = subst (λ (g : Resolution). IsFiner g (resolution k)) (sym (empty_resolution sigfig)) (subst (λ (g : Resolution). IsFiner (resolution_of 1 sigfig) g) (sym (empty_resolution fewer)) fine) in
    let parted : AreParts (2 ^ 64 - 1) (resolution k) m.1.0 (chosen_of filter Ls) = read_parts (resolution k) (resolution h) (chosen_of filter (ends_of h lines)) m.1.0 (chosen_of filter Ls) back finer (chosen_hold filter (resolution h) (ends_of h lines) Ls ended) m.1.1 in
    let plain : IsPlain greatest k = empty_is_plain new greatest fewer figures.0 in
    let fit = subst (λ (g : Resolution). Fits greatest g (joined_samples (chosen_of filter Ls))) (sym (empty_resolution fewer)) fits in
    let kept = added_bounds joined greatest k m.1.0 in
    let one = some_greatest options.into in (
      m.0,
      record {
        histogram = after_adds greatest k m.1.0;
        low = kept.0 ∙ empty_low fewer;
        sigfig = kept.1 ∙ empty_sigfig fewer;
        report = m.1.2;
        stands = (joined.sum greatest (2 ^ 64 - 1) k m.1.0 [] (chosen_of filter Ls) one plain (made fewer) parted fit).0;
        ranked = joined.ranked greatest (2 ^ 64 - 1) k m.1.0 [] (chosen_of filter Ls) one plain (made fewer) parted fit;
      },
    )
