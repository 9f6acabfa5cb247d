-- Bins that were set, and the histogram made of them.
use Rattle.std.proofs.Common.{◌≡◌, ℕ, false, List, sym, ap, ◌∙◌}
use Rattle.hdr_model.specs.Plain.{Plain}
use Rattle.hdr_model.specs.Unfinished.{Unfinished, unfinished_of, IsClosed}
use Rattle.hdrhistogram.specs.V2Read.{builder_contents, histogram_contents, IsRestated}

-- one bin set and then another
pub set-again : (f g k : Unfinished) (counts : List ℕ) → g ≡ record f { counts = g.counts } → k ≡ record g { counts = counts } → k ≡ record f { counts = k.counts }
set-again f g k counts first second =
    second ∙ ap (λ (o : Unfinished). record o { counts = counts }) first ∙ ap (λ (n : List ℕ). record f { counts = n }) (sym (ap (λ (o : Unfinished). o.counts) second))

-- a histogram made of bins that were set
module _ (k : Plain) (f g : Unfinished) (between : g ≡ record f { counts = g.counts }) (after : IsClosed g k) where
  pub closed-counts : k.counts ≡ g.counts
  closed-counts = ap (λ (o : Unfinished). o.counts) after.same

  whole : unfinished_of k ≡ record f { counts = k.counts }
  whole = after.same ∙ between ∙ ap (λ (n : List ℕ). record f { counts = n }) (sym closed-counts)

  pub closed-contents : histogram_contents k ≡ record (builder_contents f) { counts = k.counts }
  closed-contents = ap builder_contents whole

  pub closed-fixed : f.auto_resize ≡ false → k.auto_resize ≡ false
  closed-fixed fixed = ap (λ (o : Unfinished). o.auto_resize) whole ∙ fixed

  pub closed-restated : IsRestated k
  closed-restated = record { total = after.total; top_mark = after.top; lower_mark = after.lower }
